use Rattle.lnet_resyn.proofs.majority.+turns.Given as goal

abbrev pub decreases-turns : goal.decreases-turns
decreases-turns l = l.left
