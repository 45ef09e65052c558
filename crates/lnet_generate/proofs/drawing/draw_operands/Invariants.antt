use Rattle.std.proofs.Common.{◌≡◌, ◌-◌}
use Rattle.lnet_generate.proofs.Onto.{onto}
use Rattle.lnet_generate.specs.Drawing.{draw_uses}
use Rattle.lnet_generate.proofs.drawing.draw_operands.Given as goal

abbrev pub invariant-loop-place : goal.invariant-loop-place
invariant-loop-place g l = onto l.operands.items (draw_uses (l.count - l.place) l.wires (g.R.Rng.stream l.rng)) ≡ draw_uses l.count l.wires (g.R.Rng.stream l.initial.rng)
