use Rattle.std.proofs.Common.{◌≡◌, ℕ, ◌+◌, length, take, get_or}
use Rattle.lnet_store.specs.Fields.{naming}
use Rattle.lnet_store.proofs.counting.count_all.Given as goal

abbrev pub invariant-signals : goal.invariant-signals
invariant-signals l = (length l.counts.items ≡ length l.fn.counts.items) × ((n : ℕ) → get_or l.counts.items n 0 ≡ get_or l.fn.counts.items n 0 + naming n (take l.signal-index l.signals))
