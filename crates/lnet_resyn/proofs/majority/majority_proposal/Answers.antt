use Rattle.lnet_resyn.proofs.MajorityMeans.{majority-means}
use Rattle.lnet_resyn.proofs.majority.majority_proposal.Goals as goal

pub returns-in-Some-clause-function : goal.returns-in-Some-clause-function
returns-in-Some-clause-function c = majority-means c.args.table c.vars-vars.ensures.long

pub returns-in-Some-turns-clause-function : goal.returns-in-Some-turns-clause-function
returns-in-Some-turns-clause-function c = majority-means c.args.table c.vars-vars.ensures.long
