-- On which variables a table depends.
use Rattle.std.proofs.Common.{◌≡◌, ℕ, ◌<◌, Bool, true, false, refl, ◌∙◌, ap, ◌==◌}
use mathlib.Core.Logic.{◌≢◌, ◌↔◌}
use Rattle.std.specs.Prelude.{IsTrue}
use Rattle.std.proofs.lemmas.Bool.Decides.{Decides-not}
use Rattle.lnet_tables.specs.Bits.{Rows, is_set, bit_of, depends_on, support_of, cofactor_rows, number_by}
use Rattle.lnet_tables.specs.Inverse.{bit_inside}
use Rattle.lnet_tables.proofs.Equal.{equal_rows_decides}

pub depends_decides : (a : Rows) (i : ℕ) → (depends_on a i ≡ true) ↔ (cofactor_rows a i false ≢ cofactor_rows a i true)
unfolding depends_on
depends_decides a i = Decides-not _ (equal_rows_decides (cofactor_rows a i false) (cofactor_rows a i true))

test_of : (v : Bool) → (bit_of v == 1) ≡ v
test_of true = refl
test_of false = refl

-- bit i of a number that is given by its bits
pub number_bit : (f : ℕ → Bool) (n i : ℕ) → i < n → is_set (number_by f n) i ≡ f i
unfolding is_set
number_bit f n i h = ap (λ k. k == 1) (bit_inside f n i h) ∙ test_of (f i)

pub support_bit : (a : Rows) (i : ℕ) → i < a.vars → is_set (support_of a) i ≡ depends_on a i
support_bit a i h = number_bit (depends_on a) a.vars i h

pub support_decides : (a : Rows) (m : ℕ) → m ≡ support_of a → (i : ℕ) → i < a.vars → IsTrue (is_set m i) ↔ (cofactor_rows a i false ≢ cofactor_rows a i true)
support_decides a m e i h = rw (e, support_bit a i h) (depends_decides a i)
