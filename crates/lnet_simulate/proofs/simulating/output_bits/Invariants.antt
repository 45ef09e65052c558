use Rattle.std.proofs.Common.{◌≡◌, map, take}
use Rattle.lnet_simulate.specs.Lanes.{lane_of}
use Rattle.lnet_simulate.proofs.simulating.output_bits.Given as goal

abbrev pub invariant-loop-k : goal.invariant-loop-k
invariant-loop-k g l = l.values.items ≡ take l.k (map (lane_of l.words 0) l.net.core.network.outputs)
