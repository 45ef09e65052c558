use Rattle.std.proofs.Common.{◌≡◌, ℕ, ◌+◌, ◌<◌, ◌^◌, get_or, not}
use Rattle.lnet_tables.specs.Bits.{is_set, with_bit}
use Rattle.lnet_npn.proofs.canonical.double.Given as goal

abbrev pub invariant-loop-flips : goal.invariant-loop-flips
invariant-loop-flips l = record {
  kept : (f : ℕ) → f < l.half → get_or l.images f 0 ≡ get_or l.initial.images f 0;
  more : (f x : ℕ) → f < l.flips → x < 16
      → is_set (get_or l.images (f + l.half) 0) x ≡ is_set (get_or l.initial.images f 0) (with_bit x l.variable (not (is_set x l.variable)));
  fit : (f : ℕ) → get_or l.images f 0 < 2 ^ 16;
}
