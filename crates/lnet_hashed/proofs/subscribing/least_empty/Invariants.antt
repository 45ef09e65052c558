use Rattle.std.proofs.Common.{ℕ, ◌<◌, slice_index_or, None, IsSome}
use Rattle.lnet_hashed.proofs.subscribing.least_empty.Given as goal

abbrev pub invariant-loop-i : goal.invariant-loop-i
invariant-loop-i g l = (k : ℕ) → k < l.i → IsSome (slice_index_or l.views.items k None)
