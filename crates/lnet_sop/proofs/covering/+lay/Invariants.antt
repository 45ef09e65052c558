use Rattle.lnet_sop.proofs.covering.+lay.Given as goal

abbrev pub decreases-lay : goal.decreases-lay
decreases-lay l = l.lower.vars
