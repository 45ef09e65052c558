use Rattle.lnet_tables.proofs.expansion.+lay.Given as goal

abbrev pub decreases-lay : goal.decreases-lay
decreases-lay l = l.count
