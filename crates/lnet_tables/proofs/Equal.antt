-- Equality of tables, and its test.
use Rattle.std.proofs.Common.{◌≡◌, ℕ, Bool, List, refl, ap, ◌∙◌, ◌==◌}
use mathlib.Core.Bool.{beq}
use Rattle.std.specs.Bool.{Decides}
use Rattle.std.specs.Cmp.{booleans_Decides}
use Rattle.std.specs.Cmp.Lexicographic.{pointwise}
use Rattle.std.proofs.lemmas.Bool.Decides.{Decides-eqb, Decides-and, Decides-like}
use Rattle.std.proofs.lemmas.Slice.Eq.{slice_eq-Decides}
use Rattle.lnet_tables.specs.Bits.{Rows, equal_rows}

both_parts : (a b : Rows) → a.vars ≡ b.vars → a.bits ≡ b.bits → a ≡ b
both_parts a b v r =
    ap (λ (n : ℕ). let t : Rows = record { vars = n; bits = a.bits } in t) v
    ∙ ap (λ (bs : List Bool). let t : Rows = record { vars = b.vars; bits = bs } in t) r

pub equal_rows_decides : (a b : Rows) → Decides (equal_rows a b) (a ≡ b)
equal_rows_decides a b =
    Decides-like (equal_rows a b) (λ p. both_parts a b p.0 p.1) (λ e. (ap (λ (t : Rows). t.vars) e, ap (λ (t : Rows). t.bits) e))
    (Decides-and (a.vars == b.vars) (pointwise beq a.bits b.bits) (Decides-eqb a.vars b.vars) (slice_eq-Decides booleans_Decides a.bits b.bits _ refl))
