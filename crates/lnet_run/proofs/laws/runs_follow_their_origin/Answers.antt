use Rattle.lnet_run.proofs.Origins.{runs_follow, runs_split}
use Rattle.lnet_run.proofs.laws.runs_follow_their_origin.Goals as goal

pub returns : goal.returns
returns c = record { states = runs_follow; fronts = runs_split }
