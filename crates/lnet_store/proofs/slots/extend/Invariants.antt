use Rattle.std.proofs.Common.{◌≡◌, ◌≤◌, ◌+◌, ◌++◌, replicate, None}
use Rattle.std.specs.Vec.{vec_len, vec_capacity}
use Rattle.lnet_store.proofs.slots.extend.Given as goal

abbrev pub invariant-slots : goal.invariant-slots
invariant-slots l = (l.slots.items ≡ l.fn.slots.items ++ replicate l.counter None) × (vec_len l.slots ≡ vec_len l.fn.slots + l.counter) × (vec_len l.fn.slots + l.more ≤ vec_capacity l.slots)
