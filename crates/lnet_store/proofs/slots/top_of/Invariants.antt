use Rattle.std.proofs.Common.{◌≡◌, ℕ, ◌<◌, ◌≤◌, get_or, None}
use Rattle.lnet_store.proofs.slots.top_of.Given as goal

abbrev pub invariant-search : goal.invariant-search
invariant-search l = (l.top ≤ l.numbers) × ((n : ℕ) → l.top ≤ n → n < l.numbers → get_or l.slots n None ≡ None)

abbrev pub decreases-search : goal.decreases-search
decreases-search l = l.top
