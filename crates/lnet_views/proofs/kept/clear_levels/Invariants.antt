use Rattle.std.proofs.Common.{◌≡◌, ℕ, ◌<◌, None, get_or, length}
use Rattle.lnet_views.proofs.kept.clear_levels.Given as goal

abbrev pub invariant-loop-i : goal.invariant-loop-i
invariant-loop-i l = record {
  len : length l.levels.items ≡ length l.fn.levels.items;
  empty : (n : ℕ) → n < l.i → get_or l.levels.items n None ≡ None;
}
