use Rattle.std.proofs.Common.{◌≡◌, ◌≤◌, ◌+◌, ◌++◌, replicate}
use Rattle.std.specs.Vec.{vec_len, vec_capacity}
use Rattle.lnet_numbers.proofs.level.lengthen.Given as goal

abbrev pub invariant-words : goal.invariant-words
invariant-words l = record {
  items : l.packed.items ≡ l.fn.packed.items ++ replicate l.counter 0;
  len : vec_len l.packed ≡ vec_len l.fn.packed + l.counter;
  room : vec_len l.fn.packed + l.more ≤ vec_capacity l.packed;
}
