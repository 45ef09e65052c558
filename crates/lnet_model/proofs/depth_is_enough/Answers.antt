use Rattle.std.proofs.Common.{false}
use Rattle.lnet_model.specs.Values.{value_step}
use Rattle.lnet_model.proofs.Values.{along-enough}
use Rattle.lnet_model.proofs.depth_is_enough.Goals as goal

pub returns : goal.returns
returns c = λ N a n d acyclic h. along-enough N (value_step a) false acyclic d n h
