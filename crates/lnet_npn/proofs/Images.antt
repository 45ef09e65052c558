-- What transforms make of numbers.
use Rattle.std.proofs.Common.{◌≡◌, ℕ, ◌+◌, ◌-◌, ◌*◌, ◌^◌, ◌<◌, Bool, true, false, List, length, refl, sym, ◌∙◌, ap, arith, suc, zero, not, get_or, add-one}
use Rattle.std.specs.Prelude.{◌==◌}
use Rattle.std.proofs.lemmas.Nat.{pow-add}
use Rattle.std.proofs.lemmas.Nat.Bits.{same_from_bits_below}
use Rattle.lnet_tables.specs.Bits.{Rows, row, by_rows, is_set, number_by, bit_xor2, bit_of}
use Rattle.lnet_tables.specs.Inverse.{bit_inside, bit_of_set, row_inside}
use Rattle.lnet_tables.proofs.RowNumbers.{number_below}
use Rattle.lnet_tables.proofs.Ops.{same_rows}
use Rattle.lnet_tables.proofs.Rowwise.{eta_rows}
use Rattle.lnet_npn.specs.declared.transforms.Transform.{Transform}
use Rattle.lnet_npn.specs.Transforms.{source_of, IsTransform, inverse_of, image_of, transformed, number_of}
use Rattle.lnet_npn.specs.Exchanges.{choice, image_at}
use Rattle.lnet_npn.proofs.Orders.{source_at, source_is, undone_row, undone_order}

one_bit : (b : Bool) → (bit_of b == 1) ≡ b
one_bit true = refl
one_bit false = refl

-- bit i of a number that is given by its bits
pub set_inside : (f : ℕ → Bool) (n i : ℕ) → i < n → is_set (number_by f n) i ≡ f i
unfolding is_set
set_inside f n i lt = ap (λ b. b == 1) (bit_inside f n i lt) ∙ one_bit (f i)

-- a number that is known bit by bit
pub told_by_bits : (g n : ℕ) (f : ℕ → Bool) → g < 2 ^ n → ((x : ℕ) → x < n → is_set g x ≡ f x) → g ≡ number_by f n
told_by_bits g n f small h =
    same_from_bits_below n _ _ small (number_below f n) (λ i lt. sym (bit_of_set g i) ∙ ap bit_of (h i lt) ∙ sym (bit_inside f n i lt))

pub same_number : (f g : ℕ → Bool) (n : ℕ) → ((x : ℕ) → x < n → f x ≡ g x) → number_by f n ≡ number_by g n
same_number f g n h = told_by_bits (number_by f n) n g (number_below f n) (λ x lt. set_inside f n x lt ∙ h x lt)

pub source_below : (t : Transform) (x : ℕ) → source_of t x < 16
unfolding source_of
source_below t x = number_below _ 4

-- ---- complements
one_more : (n : ℕ) → 2 ^ suc n ≡ 2 * 2 ^ n
one_more n = ap (λ k. 2 ^ k) (sym (add-one n)) ∙ pow-add 2 n 1 ∙ omega arith

bits_both : (b : Bool) → bit_of (not b) + bit_of b ≡ 1
bits_both true = refl
bits_both false = refl

number_not : (f : ℕ → Bool) (n : ℕ) → number_by (λ i. not (f i)) n + number_by f n + 1 ≡ 2 ^ n
unfolding number_by
number_not f zero = refl
number_not f (suc n) =
    let h : number_by (λ i. not (f (i + 1))) n + number_by (λ i. f (i + 1)) n + 1 ≡ 2 ^ n = number_not (λ i. f (i + 1)) n in
    omega (arith, bits_both (f 0), one_more n)

pub image_not : (o : List ℕ) (f n : ℕ) → image_at o f true n ≡ 65535 - image_at o f false n
unfolding image_of source_of
image_not o f n =
    let h = number_not (λ x. is_set n (source_at o f x)) 16 in
    let e : image_at o f true n + image_at o f false n + 1 ≡ 65536 = h in
    omega arith

-- an image or its complement is the image under the transform with that complement
pub choice_is : (images o : List ℕ) (f n : ℕ) (c : Bool) → get_or images f 0 ≡ image_at o f false n → choice images f c ≡ image_at o f c n
unfolding choice
choice_is images o f n true e = ap (λ k. 65535 - k) e ∙ sym (image_not o f n)
choice_is images o f n false e = e

-- ---- back again
twice : (a b : Bool) → bit_xor2 a (bit_xor2 a b) ≡ b
twice true true = refl
twice true false = refl
twice false b = refl

pub inverse_lawful : (t : Transform) → IsTransform t → IsTransform (inverse_of t)
inverse_lawful t h = record { order = undone_order t.order h.order; flips = number_below _ 4 }

pub inverse_row : (t : Transform) (x : ℕ) → IsTransform t → x < 16 → source_of t (source_of (inverse_of t) x) ≡ x
inverse_row t x h lt =
    source_is t (source_of (inverse_of t) x) ∙ ap (source_at t.order t.flips) (source_is (inverse_of t) x) ∙ undone_row t.order t.flips x h.order h.flips lt

pub image_back : (t : Transform) (n : ℕ) → IsTransform t → n < 2 ^ 16 → image_of (inverse_of t) (image_of t n) ≡ n
unfolding image_of
image_back t n h small =
    sym (told_by_bits n 16 _ small (λ x lt.
    sym (ap (bit_xor2 t.out) (set_inside _ 16 (source_of (inverse_of t) x) (source_below (inverse_of t) x))
    ∙ twice t.out _ ∙ ap (is_set n) (inverse_row t x h lt))))

pub transformed_back : (t : Transform) (a : Rows) → IsTransform t → a.vars ≡ 4 → length a.bits ≡ 16 → transformed (inverse_of t) (transformed t a) ≡ a
transformed_back t a h v long =
    same_rows 4 _ (row a) (λ x lt.
    ap (bit_xor2 t.out) (row_inside 4 _ (source_of (inverse_of t) x) (source_below (inverse_of t) x))
    ∙ twice t.out _ ∙ ap (row a) (inverse_row t x h lt))
    ∙ ap (λ n. by_rows n (row a)) (sym v) ∙ sym (eta_rows a (long ∙ ap (λ n. 2 ^ n) (sym v)))

-- ---- tables and their numbers
pub number_image : (t : Transform) (a : Rows) → number_of (transformed t a) ≡ image_of t (number_of a)
unfolding image_of
number_image t a =
    same_number _ _ 16 (λ x lt.
    row_inside 4 _ x lt ∙ ap (bit_xor2 t.out) (sym (set_inside (row a) 16 (source_of t x) (source_below t x))))

pub table_image : (t : Transform) (a : Rows) → by_rows 4 (is_set (image_of t (number_of a))) ≡ transformed t a
unfolding image_of
table_image t a =
    same_rows 4 _ _ (λ x lt. set_inside _ 16 x lt ∙ ap (bit_xor2 t.out) (set_inside (row a) 16 (source_of t x) (source_below t x)))

pub number_table : (n : ℕ) → n < 2 ^ 16 → number_of (by_rows 4 (is_set n)) ≡ n
number_table n small = sym (told_by_bits n 16 _ small (λ x lt. sym (row_inside 4 (is_set n) x lt)))

-- ---- for whoever makes the inverse
pub lawful_as : (s t : Transform) → s ≡ inverse_of t → IsTransform t → IsTransform s
lawful_as s t e h = rw e (inverse_lawful t h)

pub back_as : (s t : Transform) → s ≡ inverse_of t → IsTransform t → (a : Rows) → a.vars ≡ 4 → length a.bits ≡ 16 → transformed s (transformed t a) ≡ a
back_as s t e h a v long = rw e (transformed_back t a h v long)
