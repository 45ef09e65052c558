use Rattle.std.proofs.Common.{◌≡◌, map, take}
use Rattle.lnet_gates.specs.declared.signal.Signal.{Signal}
use Rattle.lnet_simulate.proofs.simulating.output_nodes.Given as goal

abbrev pub invariant-loop-k : goal.invariant-loop-k
invariant-loop-k g l = l.nodes.items ≡ take l.k (map (λ (s : Signal). s.node) l.net.core.network.outputs)
