use Rattle.std.proofs.Common.{◌≡◌, ℕ, ◌<◌}
use Rattle.lnet_tables.specs.Bits.{is_set}
use Rattle.lnet_npn.proofs.Flips.{turned_to}
use Rattle.lnet_npn.proofs.transforms.flip_all.Given as goal

abbrev pub invariant-loop-variable : goal.invariant-loop-variable
invariant-loop-variable l = (x : ℕ) → x < 16 → is_set l.out x ≡ is_set l.word (turned_to l.variable l.flips x)
