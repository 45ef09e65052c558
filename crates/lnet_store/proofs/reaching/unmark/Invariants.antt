use Rattle.std.proofs.Common.{◌≡◌, ℕ, drop, length, get_or, true, false}
use Rattle.lnet_model.specs.Along.{In}
use Rattle.lnet_store.proofs.reaching.unmark.Given as goal

abbrev pub invariant-numbers : goal.invariant-numbers
invariant-numbers l = ((m : ℕ) → get_or l.marks.items m false ≡ true → In m (drop l.n-index l.queue)) × (length l.marks.items ≡ length l.fn.marks.items)
