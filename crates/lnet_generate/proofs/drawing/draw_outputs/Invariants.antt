use Rattle.std.proofs.Common.{◌≡◌, ◌-◌, ◌++◌, map}
use Rattle.lnet_generate.specs.Drawing.{draw_uses, shown}
use Rattle.lnet_generate.proofs.drawing.draw_outputs.Given as goal

abbrev pub invariant-loop-place : goal.invariant-loop-place
invariant-loop-place g l = l.ports.items ++ map shown (draw_uses (l.outputs - l.place) l.wires (g.R.Rng.stream l.rng)).0 ≡ map shown (draw_uses l.outputs l.wires (g.R.Rng.stream l.initial.rng)).0
