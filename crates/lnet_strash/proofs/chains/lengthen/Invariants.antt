use Rattle.std.proofs.Common.{◌≡◌, ◌≤◌, ◌+◌, ℕ, length, None}
use Rattle.std.specs.Prelude.{slice_index_or}
use Rattle.std.specs.Vec.{vec_capacity}
use Rattle.lnet_strash.proofs.chains.lengthen.Given as goal

abbrev pub invariant-places : goal.invariant-places
invariant-places g l = record {
  same : (n : ℕ) → slice_index_or l.items.items n None ≡ slice_index_or l.fn.items.items n None;
  longer : length l.items.items ≡ length l.fn.items.items + l.counter;
  room : length l.fn.items.items + l.more ≤ vec_capacity l.items;
}
