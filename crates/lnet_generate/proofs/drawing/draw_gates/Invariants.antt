use Rattle.std.proofs.Common.{◌≡◌, ◌-◌, ◌+◌}
use Rattle.lnet_edge.specs.CircuitLists.{equation_views}
use Rattle.lnet_generate.proofs.Onto.{onto}
use Rattle.lnet_generate.specs.Drawing.{draw_gates}
use Rattle.lnet_generate.proofs.drawing.draw_gates.Given as goal

abbrev pub invariant-loop-gate : goal.invariant-loop-gate
invariant-loop-gate g l = onto (equation_views l.equations.items) (draw_gates l.kind (l.gates - l.gate) (l.inputs + l.gate) (g.R.Rng.stream l.rng)) ≡ draw_gates l.kind l.gates l.inputs (g.R.Rng.stream l.initial.rng)
