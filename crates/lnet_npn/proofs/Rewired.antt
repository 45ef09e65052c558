-- A rewired recipe computes the transformed function.
use Rattle.std.proofs.Common.{◌≡◌, ℕ, ◌+◌, ◌-◌, ◌%◌, ◌<◌, ◌≤◌, Bool, true, false, List, [], ◌∷◌, ◌++◌, map, length, refl, sym, ◌∙◌, ap, arith, suc, zero, get_or, not, inl, inr, leb}
use Rattle.std.specs.Prelude.{◌==◌, Result, Ok, Err, IsOk, OnOk, slice_get}
use Rattle.std.proofs.Common.{Some, take}
use Rattle.std.proofs.Math.Seq.{take-length}
use Rattle.std.proofs.lemmas.Option.{get_or_from_slice_get}
use mathlib.Core.Bool.{◌&&◌}
use Rattle.std.proofs.lemmas.Bool.{cases_lt, le-leb, leb-true, and_parts, false≢true}
use Rattle.std.proofs.lemmas.List.{get_or_append_left, get_or_push, length_push, get_or_past, take_more, length-map, length-take-le, map-append}
use Rattle.std.proofs.lemmas.List.FromFn.{get_or-map-range_with_len}
use Rattle.lnet_tables.specs.Bits.{is_set, bit_xor2}
use Rattle.lnet_tables.specs.Inverse.{row_inside}
use Rattle.lnet_tables.proofs.Ops.{same_rows}
use Rattle.lnet_tables.specs.declared.step.Lit.{Lit}
use Rattle.lnet_tables.specs.declared.step.Step.{Step}
use Rattle.lnet_tables.specs.Recipes.{RecipeValue, StepFits, place, lit_value, step_value, apply, run, leaf_values, sim}
use Rattle.lnet_tables.specs.Shannon.{other}
use Rattle.lnet_tables.proofs.ShannonSteps.{place_other, sign_other}
use Rattle.lnet_tables.proofs.Growing.{leaf_length}
use Rattle.lnet_npn.specs.declared.transforms.Transform.{Transform}
use Rattle.lnet_npn.specs.Transforms.{IsTransform, source_of, transformed}
use Rattle.lnet_npn.specs.Rewiring.{is_leaf, renamed, complemented_if, rewired_lit, rewired_step, rewired}
use Rattle.lnet_npn.proofs.Orders.{order_below}
use Rattle.lnet_npn.proofs.Images.{set_inside, source_below}

-- ---- literals
pub leaf_lit : (t : Transform) (l : Lit) → 1 ≤ place l → place l ≤ 4 → rewired_lit t l ≡ complemented_if (is_set t.flips (place l - 1)) (renamed t l)
unfolding rewired_lit
leaf_lit t l one four = rw (le-leb 1 (place l) one, le-leb (place l) 4 four) refl

pub kept_lit : (t : Transform) (l : Lit) → is_leaf (place l) ≡ false → rewired_lit t l ≡ l
unfolding rewired_lit
kept_lit t l e = rw e refl

and_false : (x : Bool) → (x && false) ≡ false
and_false true = refl
and_false false = refl

pub record LeafOr (p : ℕ) : Type 0 where
  pub low : 1 ≤ p
  pub high : p ≤ 4

pub leaf_range : (p : ℕ) → is_leaf p ≡ true → LeafOr p
leaf_range p h = let q = and_parts _ _ h in record { low = leb-true _ _ q.0; high = leb-true _ _ q.1 }

place_if : (c : Bool) (l : Lit) → place (complemented_if c l) ≡ place l
place_if true l = place_other l
place_if false l = refl

place_renamed : (t : Transform) (l : Lit) → place (renamed t l) ≡ get_or t.order (place l - 1) 0 + 1
place_renamed t l = omega arith

fits_by : (t : Transform) (l : Lit) (n : ℕ) (b : Bool) → IsTransform t → is_leaf (place l) ≡ b → 5 ≤ n → place l < n → place (rewired_lit t l) < n
fits_by t l n true h e five lt =
    let r : LeafOr (place l) = leaf_range (place l) e in
    let o : get_or t.order (place l - 1) 0 < 4 = (order_below t.order h.order).at (place l - 1) (omega (arith, r.low, r.high)) in
    let p : place (rewired_lit t l) ≡ get_or t.order (place l - 1) 0 + 1 = ap place (leaf_lit t l r.low r.high) ∙ place_if _ (renamed t l) ∙ place_renamed t l in
    rw p (omega arith)
fits_by t l n false h e five lt = rw (kept_lit t l e) lt

pub lit_fits : (t : Transform) (l : Lit) (n : ℕ) → IsTransform t → 5 ≤ n → place l < n → place (rewired_lit t l) < n
lit_fits t l n h five lt = fits_by t l n (is_leaf (place l)) h refl five lt

pub step_fits : (t : Transform) (s : Step) (n : ℕ) → IsTransform t → 5 ≤ n → StepFits n s → StepFits n (rewired_step t s)
step_fits t s n h five f = record { a = lit_fits t s.a n h five f.a; b = lit_fits t s.b n h five f.b; c = lit_fits t s.c n h five f.c }

pub root_fits : (t : Transform) (l : Lit) (n : ℕ) → IsTransform t → 5 ≤ n → place l < n → place (complemented_if t.out (rewired_lit t l)) < n
root_fits t l n h five lt = rw (place_if t.out (rewired_lit t l)) (lit_fits t l n h five lt)

-- ---- values
flip_sign : (m : ℕ) (b : Bool) → m < 2 → bit_xor2 (1 - m == 1) b ≡ bit_xor2 (m == 1) (not b)
flip_sign zero b lt = refl
flip_sign (suc zero) true lt = refl
flip_sign (suc zero) false lt = refl
flip_sign (suc (suc m)) b lt = absurd (omega arith)

xor_not : (a b : Bool) → bit_xor2 a (not b) ≡ not (bit_xor2 a b)
xor_not true true = refl
xor_not true false = refl
xor_not false b = refl

-- a complemented literal's value
value_if : (vs : List Bool) (l : Lit) (c : Bool) → lit_value vs (complemented_if c l) ≡ bit_xor2 (l.0 % 2 == 1) (bit_xor2 c (get_or vs (place l) false))
value_if vs l true =
    ap (λ n. bit_xor2 (n == 1) (get_or vs (place (other l)) false)) (sign_other l)
    ∙ ap (λ p. bit_xor2 (1 - l.0 % 2 == 1) (get_or vs p false)) (place_other l)
    ∙ flip_sign (l.0 % 2) (get_or vs (place l) false) (omega arith)
value_if vs l false = refl

pub complement_value : (vs : List Bool) (l : Lit) (c : Bool) → lit_value vs (complemented_if c l) ≡ bit_xor2 c (lit_value vs l)
complement_value vs l true = value_if vs l true ∙ xor_not (l.0 % 2 == 1) (get_or vs (place l) false)
complement_value vs l false = refl

-- the places of the rewired recipe have the values of the old one's: of each leaf, as the transform says
pub record Matches (t : Transform) (new old : List Bool) : Type 0 where
  pub long : length new ≡ length old
  pub five : 5 ≤ length old
  pub leaf : (i : ℕ) → i < 4 → get_or old (i + 1) false ≡ bit_xor2 (is_set t.flips i) (get_or new (get_or t.order i 0 + 1) false)
  pub other_place : (p : ℕ) → is_leaf p ≡ false → get_or new p false ≡ get_or old p false

value_by : (t : Transform) (new old : List Bool) (l : Lit) (b : Bool) → Matches t new old → is_leaf (place l) ≡ b → lit_value new (rewired_lit t l) ≡ lit_value old l
value_by t new old l true m e =
    let r : LeafOr (place l) = leaf_range (place l) e in
    let i : ℕ = place l - 1 in
    let p : i + 1 ≡ place l = omega (arith, r.low) in
    let s : (renamed t l).0 % 2 ≡ l.0 % 2 = omega arith in
    ap (lit_value new) (leaf_lit t l r.low r.high)
    ∙ value_if new (renamed t l) (is_set t.flips i)
    ∙ ap (λ n. bit_xor2 (n == 1) (bit_xor2 (is_set t.flips i) (get_or new (place (renamed t l)) false))) s
    ∙ ap (λ q. bit_xor2 (l.0 % 2 == 1) (bit_xor2 (is_set t.flips i) (get_or new q false))) (place_renamed t l)
    ∙ ap (bit_xor2 (l.0 % 2 == 1)) (sym (m.leaf i (omega (arith, r.low, r.high))) ∙ ap (λ q. get_or old q false) p)
value_by t new old l false m e = ap (lit_value new) (kept_lit t l e) ∙ ap (bit_xor2 (l.0 % 2 == 1)) (m.other_place (place l) e)

pub lit_matches : (t : Transform) (new old : List Bool) (l : Lit) → Matches t new old → lit_value new (rewired_lit t l) ≡ lit_value old l
lit_matches t new old l m = value_by t new old l (is_leaf (place l)) m refl

step_matches : (t : Transform) (new old : List Bool) (s : Step) → Matches t new old → step_value new (rewired_step t s) ≡ step_value old s
step_matches t new old s m =
    ap (λ v. apply s.op v (lit_value new (rewired_lit t s.b)) (lit_value new (rewired_lit t s.c))) (lit_matches t new old s.a m)
    ∙ ap (λ v. apply s.op (lit_value old s.a) v (lit_value new (rewired_lit t s.c))) (lit_matches t new old s.b m)
    ∙ ap (λ v. apply s.op (lit_value old s.a) (lit_value old s.b) v) (lit_matches t new old s.c m)

push_same : (new old : List Bool) (v : Bool) (p : ℕ) → length new ≡ length old → get_or new p false ≡ get_or old p false
    → get_or (new ++ v ∷ []) p false ≡ get_or (old ++ v ∷ []) p false
push_same new old v p long h =
    elim (cases_lt p (length old)) [
      | inl lt ↦ get_or_append_left new (v ∷ []) false p (omega arith) ∙ h ∙ sym (get_or_append_left old (v ∷ []) false p lt)
      | inr ge ↦ elim (cases_lt (length old) p) [
        | inl past ↦ get_or_past (new ++ v ∷ []) p false (omega (arith, length_push new v)) ∙ sym (get_or_past (old ++ v ∷ []) p false (omega (arith, length_push old v)))
        | inr at ↦ get_or_push new v false p (omega arith) ∙ sym (get_or_push old v false p (omega arith))
      ]
    ]

matches_push : (t : Transform) (new old : List Bool) (v : Bool) → IsTransform t → Matches t new old → Matches t (new ++ v ∷ []) (old ++ v ∷ [])
matches_push t new old v h m = record {
  long = length_push new v ∙ ap (λ n. n + 1) m.long ∙ sym (length_push old v);
  five = omega (arith, length_push old v, m.five);
  leaf = λ i lt.
      let o : get_or t.order i 0 < 4 = (order_below t.order h.order).at i lt in
      get_or_append_left old (v ∷ []) false (i + 1) (omega (arith, m.five)) ∙ m.leaf i lt
      ∙ ap (bit_xor2 (is_set t.flips i)) (sym (get_or_append_left new (v ∷ []) false (get_or t.order i 0 + 1) (omega (arith, m.five, m.long))));
  other_place = λ p e. push_same new old v p m.long (m.other_place p e);
}

run_matches : (t : Transform) (ss : List Step) (new old : List Bool) → IsTransform t → Matches t new old → Matches t (run (map (rewired_step t) ss) new) (run ss old)
run_matches t [] new old h m = m
run_matches t (s ∷ ss) new old h m =
    let e : step_value new (rewired_step t s) ≡ step_value old s = step_matches t new old s m in
    let p : Matches t (new ++ step_value new (rewired_step t s) ∷ []) (old ++ step_value old s ∷ []) = rw e (matches_push t new old (step_value old s) h m) in
    run_matches t ss _ _ h p

-- ---- the leaves
leaf_at : (x i : ℕ) → i < 4 → get_or (leaf_values 4 x) (i + 1) false ≡ is_set x i
unfolding leaf_values
leaf_at x i lt = let e : i + 1 ≡ suc i = omega arith in rw e (get_or-map-range_with_len (is_set x) 0 4 i i false lt (omega arith))

leaf_first : (x : ℕ) → get_or (leaf_values 4 x) 0 false ≡ false
unfolding leaf_values
leaf_first x = refl

leaf_other : (x y p : ℕ) → is_leaf p ≡ false → get_or (leaf_values 4 x) p false ≡ get_or (leaf_values 4 y) p false
leaf_other x y p e =
    elim (cases_lt p 1) [
      | inl lt ↦ let z : p ≡ 0 = omega arith in rw z (leaf_first x ∙ sym (leaf_first y))
      | inr ge ↦ elim (cases_lt 4 p) [
        | inl past ↦ get_or_past (leaf_values 4 x) p false (omega (arith, leaf_length 4 x)) ∙ sym (get_or_past (leaf_values 4 y) p false (omega (arith, leaf_length 4 y)))
        | inr at ↦ absurd (false≢true (sym e ∙ rw (le-leb 1 p ge, le-leb p 4 (omega arith)) refl))
      ]
    ]

source_bit : (t : Transform) (x i : ℕ) → i < 4 → is_set (source_of t x) i ≡ bit_xor2 (is_set t.flips i) (is_set x (get_or t.order i 0))
unfolding source_of
source_bit t x i lt = set_inside _ 4 i lt

leaves_match : (t : Transform) (x : ℕ) → IsTransform t → Matches t (leaf_values 4 x) (leaf_values 4 (source_of t x))
leaves_match t x h = record {
  long = leaf_length 4 x ∙ sym (leaf_length 4 (source_of t x));
  five = omega (arith, leaf_length 4 (source_of t x));
  leaf = λ i lt.
      leaf_at (source_of t x) i lt ∙ source_bit t x i lt
      ∙ ap (bit_xor2 (is_set t.flips i)) (sym (leaf_at x (get_or t.order i 0) ((order_below t.order h.order).at i lt)));
  other_place = λ p e. leaf_other x (source_of t x) p e;
}

-- ---- the recipe
rewired_four : (t : Transform) (ss : List Step) (root : Lit) → IsTransform t
    → sim (rewired t (record { leaves = 4; steps = ss; root = root })) ≡ transformed t (sim (record { leaves = 4; steps = ss; root = root }))
rewired_four t ss root h =
    same_rows 4 _ _ (λ x lt.
    complement_value (run (map (rewired_step t) ss) (leaf_values 4 x)) (rewired_lit t root) t.out
    ∙ ap (bit_xor2 t.out) (lit_matches t _ _ root (run_matches t ss _ _ h (leaves_match t x h))
    ∙ sym (row_inside 4 _ (source_of t x) (source_below t x))))

rewired_at : (t : Transform) (n : ℕ) (ss : List Step) (root : Lit) → n ≡ 4 → IsTransform t
    → sim (rewired t (record { leaves = n; steps = ss; root = root })) ≡ transformed t (sim (record { leaves = n; steps = ss; root = root }))
rewired_at t n ss root e h = rw e (rewired_four t ss root h)

pub rewired_sim : (t : Transform) (r : RecipeValue) → IsTransform t → r.leaves ≡ 4 → sim (rewired t r) ≡ transformed t (sim r)
rewired_sim t r h e = rewired_at t r.leaves r.steps r.root e h

-- ---- the code's loop
pub taken_long : (f : Step → Step) (xs : List Step) (i : ℕ) → i ≤ length xs → length (map f (take i xs)) ≡ i
taken_long f xs i le = length-map (take i xs) f ∙ length-take-le i xs le

pub taken_more : (f : Step → Step) (xs : List Step) (i : ℕ) (s : Step) → i < length xs → slice_get xs i ≡ Some s
    → map f (take i xs) ++ f s ∷ [] ≡ map f (take (i + 1) xs)
taken_more f xs i s lt e =
    sym (ap (map f) (take_more xs i s lt ∙ ap (λ (x : Step). take i xs ++ x ∷ []) (get_or_from_slice_get xs i s s e)) ∙ map-append f (take i xs) (s ∷ []))

pub taken_all : (f : Step → Step) (xs : List Step) (i : ℕ) → i ≡ length xs → map f (take i xs) ≡ map f xs
taken_all f xs i e = ap (λ n. map f (take n xs)) e ∙ ap (map f) (take-length xs)

pub from_ok : {T E : Type 0} (r : Result T E) (P : Type 0) → IsOk r → OnOk r P → P
from_ok (Ok v) P ok h = h
from_ok (Err e) P ok h = absurd (false≢true ok)

-- a recipe with rewired steps and root
pub rewired_is : (t : Transform) (r s : RecipeValue) (l : Lit) → s.leaves ≡ r.leaves → s.steps ≡ map (rewired_step t) r.steps → l ≡ complemented_if t.out (rewired_lit t r.root)
    → record { leaves = s.leaves; steps = s.steps; root = l } ≡ rewired t r
rewired_is t r s l a b c = rw (a, b, c) refl
