use Rattle.std.proofs.Common.{ap, arith, ◌≡◌, ℕ}
use Rattle.lnet_tables.specs.declared.step.Lit.{Lit}
use Rattle.lnet_tables.specs.Shannon.{other}
use Rattle.lnet_tables.proofs.step.Lit.complement.Goals as goal

by_number : (a b : ℕ) → a ≡ b → (let l : Lit = record { 0 = a } in l) ≡ record { 0 = b }
by_number a b e = ap (λ (n : ℕ). let l : Lit = record { 0 = n } in l) e

pub returns-then-self-eq0-clause-value : goal.returns-then-self-eq0-clause-value
unfolding other
returns-then-self-eq0-clause-value c = by_number _ _ (omega arith)

pub returns-else-self-eq0-clause-value : goal.returns-else-self-eq0-clause-value
unfolding other
returns-else-self-eq0-clause-value c = by_number _ _ (omega arith)
