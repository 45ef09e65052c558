-- Tables of merged cuts, row by row.
use Rattle.std.proofs.Common.{◌≡◌, ◌≢◌, ℕ, suc, ◌+◌, ◌*◌, ◌^◌, ◌/◌, ◌%◌, ◌<◌, ◌≤◌, Bool, true, false, not, eqb, ltb, List, []}
use Rattle.std.proofs.Common.{◌∷◌, length, drop, map, get_or, refl, sym, ap, subst, ◌∙◌, inl, inr, arith, add-one, bit_or, true≢false}
use Rattle.std.specs.Prelude.{slice_set, replicate}
use Rattle.std.specs.Int.{w64}
use Rattle.std.proofs.lemmas.Nat.Bits.{bit_at-suc, bit_at_set_same, bit_at_set_other, bit_at-zero}
use Rattle.std.proofs.lemmas.Bool.{cases_lt, cases_eq}
use Rattle.std.proofs.lemmas.List.{at_drop_more, get_or-set_same, get_or-set_other, get_or-replicate, get_or_past, length-map, length-drop}
use Rattle.lnet_tables.specs.Bits.{Rows, row, is_set, number_by, bit_of}
use Rattle.lnet_tables.specs.Words.{word_bit}
use Rattle.lnet_tables.proofs.RowNumbers.{number_below, number_more}
use Rattle.lnet_tables.proofs.Constants.{pow_within}
use Rattle.lnet_gates.specs.declared.signal.Signal.{Signal}
use Rattle.lnet_gates.specs.declared.gate.Op.{Op}
use Rattle.lnet_gates.specs.Gates.{GateValue, row_of, flip, operate, apply}
use Rattle.lnet_gates.specs.Lawful.LutTables.{row-below}
use Rattle.lnet_gates.specs.Plans.{Takes}
use mathlib.Core.Bool.{beq}
use mir.Val.{bool_byte}
use Rattle.lnet_model.specs.Cuts.{CutValue, bit_of_leaf, values_of, table_number}
use Rattle.lnet_cuts.proofs.LeafSets.{lt-tells, eq-tells}
use Rattle.lnet_cuts.proofs.Unions.{ltb-not, eqb-not, order}
use Rattle.lnet_cuts.proofs.Combos.{gate_value}

-- ---- the bit of a leaf

abbrev pub bit_from : ℕ → ℕ → List ℕ → ℕ → Bool
bit_from i r [] x = false
bit_from i r (y ∷ ys) x = elim (eqb x y) [ true ↦ is_set r i | false ↦ bit_from (suc i) r ys x ]

abbrev one_of : Bool → Bool → Bool → Bool
one_of b p q = elim b as (λ _. Bool) [ true ↦ p | false ↦ q ]

from-half : (i r : ℕ) (ys : List ℕ) (x : ℕ) → bit_from (suc i) r ys x ≡ bit_from i (r / 2) ys x
unfolding is_set
from-half i r [] x = refl
from-half i r (y ∷ ys) x = ap (λ b. one_of (eqb x y) b (bit_from (suc (suc i)) r ys x)) (ap (λ v. eqb v 1) (bit_at-suc r i))
    ∙ ap (λ b. one_of (eqb x y) (is_set (r / 2) i) b) (from-half (suc i) r ys x)

pub from-start : (r : ℕ) (ys : List ℕ) (x : ℕ) → bit_of_leaf r ys x ≡ bit_from 0 r ys x
from-start r [] x = refl
from-start r (y ∷ ys) x = ap (λ b. one_of (eqb x y) (is_set r 0) b) (from-start (r / 2) ys x ∙ sym (from-half 0 r ys x))

pub from-later : (r x : ℕ) (ys : List ℕ) (i : ℕ) → i < length ys → (x ≡ get_or ys i 0 → ⊥) → bit_from i r (drop i ys) x ≡ bit_from (i + 1) r (drop (i + 1) ys) x
from-later r x ys i h ne = at_drop_more (λ z. bit_from i r z x) ys i 0 h ∙ ap (λ b. one_of b (is_set r i) (bit_from (suc i) r (drop (i + 1) ys) x)) (eqb-not x (get_or ys i 0) ne)
    ∙ ap (λ k. bit_from k r (drop (i + 1) ys) x) (sym (add-one i))

pub from-here : (r x : ℕ) (ys : List ℕ) (i : ℕ) → i < length ys → x ≡ get_or ys i 0 → bit_from i r (drop i ys) x ≡ is_set r i
from-here r x ys i h e = at_drop_more (λ z. bit_from i r z x) ys i 0 h ∙ ap (λ b. one_of b (is_set r i) (bit_from (suc i) r (drop (i + 1) ys) x)) (eq-tells x (get_or ys i 0) e)

-- ---- numbers of rows

pub rows-few : (n k : ℕ) → n ≤ k → 2 ^ n ≤ 2 ^ k
rows-few n k h = pow_within n k h

pub row-few : (bs : List Bool) (k : ℕ) → length bs ≤ k → row_of bs < 2 ^ k
row-few bs k h = let a = row-below bs in let b = rows-few (length bs) k h in omega arith

pub values-long : (all : List ℕ) (r : ℕ) (ss : List Signal) (cs : List CutValue) → length cs ≡ length ss → length (values_of all r ss cs) ≡ length ss
values-long all r [] cs e = refl
values-long all r (s ∷ ss) [] e = absurd (omega arith)
values-long all r (s ∷ ss) (c ∷ cs) e = let h = values-long all r ss cs (omega arith) in omega arith

-- ---- rows of four words

abbrev pub with_row : List ℕ → ℕ → List ℕ
with_row ws r = slice_set ws (r / 64) (bit_or (get_or ws (r / 64) 0) (1 * 2 ^ (r % 64) % 18446744073709551616))

pub set_here : (ws : List ℕ) (r : ℕ) → length ws ≡ 4 → r < 256 → word_bit (with_row ws r) r ≡ true
unfolding word_bit is_set
set_here ws r long lt =
    let k : r / 64 < length ws = omega arith in
    rw (
      get_or-set_same ws (r / 64) (bit_or (get_or ws (r / 64) 0) (1 * 2 ^ (r % 64) % 18446744073709551616)) 0 k,
      bit_at_set_same w64 (get_or ws (r / 64) 0) (r % 64) (omega arith),
    ) refl

pub set_others : (ws : List ℕ) (r : ℕ) → length ws ≡ 4 → r < 256 → (k : ℕ) → k ≢ r → word_bit (with_row ws r) k ≡ word_bit ws k
unfolding word_bit is_set
set_others ws r long lt k ne =
    let v : ℕ = bit_or (get_or ws (r / 64) 0) (1 * 2 ^ (r % 64) % 18446744073709551616) in
    elim (cases_eq (k / 64) (r / 64)) [
      | inl e ↦
          let d : k % 64 ≢ r % 64 = λ m. ne (omega arith) in
          rw (e, get_or-set_same ws (r / 64) v 0 (omega arith), bit_at_set_other w64 (get_or ws (r / 64) 0) (r % 64) (omega arith) (k % 64) d) refl
      | inr n ↦ rw (get_or-set_other ws (r / 64) (k / 64) v 0 n) refl
    ]

pub bit_zeros : (r : ℕ) → word_bit (replicate 4 0) r ≡ false
unfolding word_bit is_set
bit_zeros r =
    elim (cases_lt (r / 64) 4) [
      | inl lt ↦ rw (get_or-replicate {A = ℕ} 4 (r / 64) 0 0 lt, bit_at-zero) refl
      | inr ge ↦ rw (get_or_past {X = ℕ} (replicate 4 0) (r / 64) 0 ge, bit_at-zero) refl
    ]

-- ---- which of two tables is lower

pub number-none : (f : ℕ → Bool) → number_by f 0 ≡ 0
unfolding number_by
number-none f = refl

pub lower-none : (f g : ℕ → Bool) → false ≡ ltb (number_by f 0) (number_by g 0)
lower-none f g = rw (number-none f, number-none g) refl

pub lower-same : (f g : ℕ → Bool) (n : ℕ) (b : Bool) → b ≡ ltb (number_by f n) (number_by g n) → f n ≡ g n → b ≡ ltb (number_by f (n + 1)) (number_by g (n + 1))
lower-same f g n b h e = h ∙ elim (cases_lt (number_by f n) (number_by g n)) as (λ _. ltb (number_by f n) (number_by g n) ≡ ltb (number_by f (n + 1)) (number_by g (n + 1))) [
  | inl lt ↦ lt-tells (number_by f n) (number_by g n) lt ∙ sym (lt-tells (number_by f (n + 1)) (number_by g (n + 1)) (rw (number_more f n, number_more g n, e) (omega arith)))
  | inr ge ↦ ltb-not (number_by f n) (number_by g n) (λ k. omega arith)
      ∙ sym (ltb-not (number_by f (n + 1)) (number_by g (n + 1))
      (λ k. let m : number_by f n + bit_of (g n) * 2 ^ n < number_by g n + bit_of (g n) * 2 ^ n = subst (λ z. number_by f n + bit_of z * 2 ^ n < number_by g n + bit_of (g n) * 2 ^ n) e
      (rw (number_more f n, number_more g n) at k) in omega arith))
]

above : (f g : ℕ → Bool) (n : ℕ) → f n ≡ false → g n ≡ true → number_by f (n + 1) < number_by g (n + 1)
above f g n a b = rw (number_more f n, number_more g n, a, b) (let h = number_below f n in omega arith)

pub lower-differ : (f g : ℕ → Bool) (n : ℕ) (x y : Bool) → f n ≡ x → g n ≡ y → (x ≡ y → ⊥) → y ≡ ltb (number_by f (n + 1)) (number_by g (n + 1))
lower-differ f g n true true a b ne = absurd (ne refl)
lower-differ f g n false false a b ne = absurd (ne refl)
lower-differ f g n false true a b ne = sym (lt-tells (number_by f (n + 1)) (number_by g (n + 1)) (above f g n a b))
lower-differ f g n true false a b ne = sym (ltb-not (number_by f (n + 1)) (number_by g (n + 1)) (λ k. let h = above g f n b a in omega arith))

-- ---- rows of cuts and of gates

pub byte-small : (b : Bool) → bool_byte b ≤ 1
byte-small true = omega arith
byte-small false = omega arith

pub byte-of : (b : Bool) (x : ℕ) → x ≡ bool_byte b → x ≤ 1
byte-of b x e = subst (λ v. v ≤ 1) (sym e) (byte-small b)

pub beq-not : (x y : Bool) → not (beq x y) ≡ true → x ≡ y → ⊥
beq-not true true e f = true≢false (sym e)
beq-not false false e f = true≢false (sym e)
beq-not true false e f = true≢false f
beq-not false true e f = true≢false (sym f)

pub beq-same : (x y : Bool) → not (beq x y) ≡ false → x ≡ y
beq-same true true e = refl
beq-same false false e = refl
beq-same true false e = absurd (true≢false e)
beq-same false true e = absurd (true≢false e)

pub cut-few : (f : ℕ → Bool) (xs : List ℕ) (i at : ℕ) → length xs ≤ 8 → at ≡ row_of (map f (drop i xs)) → at < 256
cut-few f xs i at h e =
    let l : length (map f (drop i xs)) ≤ 8 = omega (arith, length-map (drop i xs) f, length-drop i xs) in
    subst (λ v. v < 256) (sym e) (row-few (map f (drop i xs)) 8 l)

pub cut-inside : (f : ℕ → Bool) (xs : List ℕ) (i at : ℕ) → i ≤ 0 → at ≡ row_of (map f (drop i xs)) → at < 2 ^ length xs
cut-inside f xs i at h e =
    let z : i ≡ 0 = omega arith in
    let g : at ≡ row_of (map f xs) = subst (λ v. at ≡ row_of (map f (drop v xs))) z e in
    subst (λ v. v < 2 ^ length xs) (sym g) (subst (λ v. row_of (map f xs) < 2 ^ v) (length-map xs f) (row-below (map f xs)))

pub fan-few : (all : List ℕ) (r : ℕ) (ss : List Signal) (cs : List CutValue) (i at : ℕ) → length ss ≤ 6 → length cs ≡ length ss → at ≡ row_of (values_of all r (drop i ss) (drop i cs)) → at < 64
fan-few all r ss cs i at h e q =
    let k : length (drop i cs) ≡ length (drop i ss) = omega (arith, length-drop i cs, length-drop i ss) in
    let l : length (values_of all r (drop i ss) (drop i cs)) ≤ 6 = omega (arith, values-long all r (drop i ss) (drop i cs) k, length-drop i ss) in
    subst (λ v. v < 64) (sym q) (row-few (values_of all r (drop i ss) (drop i cs)) 6 l)

differ : (r phase : Bool) → not (beq r phase) ≡ flip phase r
differ true true = refl
differ true false = refl
differ false true = refl
differ false false = refl

pub gate-value : (all : List ℕ) (r : ℕ) (cs : List CutValue) (op : Op) (phase : Bool) (fs ss : List Signal) (g : GateValue) (at : ℕ) (b : Bool) → gate_value op phase fs ≡ g → ss ≡ fs
    → length cs ≡ length g.fanins → Takes g.op (length g.fanins) → at ≡ row_of (values_of all r ss cs) → ((bs : List Bool) → Takes op (length bs) → at ≡ row_of bs → b ≡ operate op bs)
    → not (beq b phase) ≡ apply g.op g.phase (values_of all r g.fanins cs)
gate-value all r cs op phase fs ss g at b e f l a q o =
    let k : length cs ≡ length fs = l ∙ ap (λ (z : GateValue). length z.fanins) (sym e) in
    let t : Takes op (length fs) = subst (λ (z : GateValue). Takes z.op (length z.fanins)) (sym e) a in
    let u : Takes op (length (values_of all r fs cs)) = subst (λ v. Takes op v) (sym (values-long all r fs cs k)) t in
    differ b phase
    ∙ ap (λ v. flip phase v) (o (values_of all r fs cs) u (q ∙ ap (λ v. row_of (values_of all r v cs)) f))
    ∙ ap (λ (z : GateValue). apply z.op z.phase (values_of all r z.fanins cs)) e

-- one row more
pub rows-made : (new old : ℕ → Bool) (f : ℕ → Bool) (n : ℕ) → ((r : ℕ) → r < n → old r ≡ f r) → new n ≡ f n → ((r : ℕ) → r ≢ n → new r ≡ old r) → (r : ℕ) → r < n + 1 → new r ≡ f r
rows-made new old f n made here others r h = elim (cases_eq r n) as (λ _. new r ≡ f r) [
  | inl e ↦ subst (λ v. new v ≡ f v) (sym e) here
  | inr ne ↦ others r ne ∙ made r (let k : r < n = elim (order r n) as (λ _. r < n) [ inl lt ↦ lt | inr t ↦ elim t as (λ _. r < n) [ inl e ↦ absurd (ne e) | inr gt ↦ absurd (omega arith) ] ] in k)
]

pub table-lower : (s t : Rows) (n k : ℕ) (b : Bool) → s.vars ≡ k → t.vars ≡ k → n ≡ 2 ^ k → b ≡ ltb (number_by (row s) n) (number_by (row t) n) → b ≡ ltb (table_number s) (table_number t)
table-lower s t n k b e f g h = h ∙ ap (λ v. ltb (number_by (row s) v) (number_by (row t) v)) g ∙ ap (λ v. ltb (number_by (row s) (2 ^ v)) (number_by (row t) (2 ^ k))) (sym e)
    ∙ ap (λ v. ltb (table_number s) (number_by (row t) (2 ^ v))) (sym f)
