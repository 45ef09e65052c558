-- The bits of a row complemented one after the other, checked by computation.
use Rattle.std.proofs.Common.{◌≡◌, ℕ, ◌+◌, ◌<◌, Bool, true, false, cond, refl, sym, ◌∙◌, ap, not, eqb}
use Rattle.std.specs.Prelude.{nat_lt}
use mathlib.Core.Bool.{◌&&◌}
use Rattle.std.proofs.lemmas.Bool.{agree_below, agree_below_at, and_parts, eqb-true}
use Rattle.lnet_tables.specs.Bits.{is_set, with_bit, number_by, bit_xor2}
use Rattle.lnet_tables.proofs.RowNumbers.{put_fits}
use Rattle.lnet_npn.specs.Transforms.{turned}

-- the row x with the bits of f below v complemented
unfoldable pub turned_to : ℕ → ℕ → ℕ → ℕ
turned_to v f x = number_by (λ i. bit_xor2 (is_set f i && nat_lt i v) (is_set x i)) 4

step_fine : ℕ → ℕ → ℕ → Bool
step_fine f x v = eqb (turned_to v f (cond (is_set f v) (with_bit x v (not (is_set x v))) x)) (turned_to (v + 1) f x)

row_fine : ℕ → ℕ → Bool
row_fine f x = eqb (turned_to 0 f x) x && (eqb (turned_to 4 f x) (turned f x) && agree_below (step_fine f x) (λ v. true) 4)

flips_fine : ℕ → Bool
flips_fine f = agree_below (row_fine f) (λ x. true) 16

all_fine : agree_below flips_fine (λ f. true) 16 ≡ true
unfolding flips_fine row_fine step_fine turned_to turned with_bit is_set number_by
all_fine = refl

row_at : (f x : ℕ) → f < 16 → x < 16 → row_fine f x ≡ true
unfolding flips_fine
row_at f x lf lx =
    let one : flips_fine f ≡ true = agree_below_at flips_fine (λ f. true) 16 f all_fine lf in
    agree_below_at (row_fine f) (λ x. true) 16 x one lx

pub turned_none : (f x : ℕ) → f < 16 → x < 16 → turned_to 0 f x ≡ x
unfolding row_fine
turned_none f x lf lx = eqb-true _ _ (and_parts _ _ (row_at f x lf lx)).0

pub turned_all : (f x : ℕ) → f < 16 → x < 16 → turned_to 4 f x ≡ turned f x
unfolding row_fine
turned_all f x lf lx = eqb-true _ _ (and_parts _ _ (and_parts _ _ (row_at f x lf lx)).1).0

turned_step : (f x v : ℕ) → f < 16 → x < 16 → v < 4 → turned_to v f (cond (is_set f v) (with_bit x v (not (is_set x v))) x) ≡ turned_to (v + 1) f x
unfolding row_fine step_fine
turned_step f x v lf lx lv =
    eqb-true _ _ (agree_below_at (step_fine f x) (λ v. true) 4 v (and_parts _ _ (and_parts _ _ (row_at f x lf lx)).1).1 lv)

pub turned_set : (f x v : ℕ) → f < 16 → x < 16 → v < 4 → is_set f v ≡ true → turned_to v f (with_bit x v (not (is_set x v))) ≡ turned_to (v + 1) f x
turned_set f x v lf lx lv e = ap (λ b. turned_to v f (cond b (with_bit x v (not (is_set x v))) x)) (sym e) ∙ turned_step f x v lf lx lv

pub turned_unset : (f x v : ℕ) → f < 16 → x < 16 → v < 4 → is_set f v ≡ false → turned_to v f x ≡ turned_to (v + 1) f x
turned_unset f x v lf lx lv e = ap (λ b. turned_to v f (cond b (with_bit x v (not (is_set x v))) x)) (sym e) ∙ turned_step f x v lf lx lv

pub flip_below : (x v : ℕ) → x < 16 → v < 4 → with_bit x v (not (is_set x v)) < 16
flip_below x v lx lv = put_fits x v 4 lv lx (not (is_set x v))

zero_checked : agree_below (λ x. eqb (turned 0 x) x) (λ x. true) 16 ≡ true
unfolding turned is_set number_by
zero_checked = refl

pub turned_zero : (x : ℕ) → x < 16 → turned 0 x ≡ x
turned_zero x lt = eqb-true _ _ (agree_below_at (λ x. eqb (turned 0 x) x) (λ x. true) 16 x zero_checked lt)
