-- Places of wires in a list, as a map has them.
use Rattle.std.proofs.Common.{◌≡◌, ℕ, suc, ◌+◌, ◌<◌, Bool, true, false, cond, eqb, nat_eq, List, [], ◌∷◌, ◌++◌, length, take, get_or, Option, Some, None, refl, sym, ap, subst, ◌∙◌, append_assoc, arith, length-append, add-zero}
use Rattle.std.specs.Prelude.{is_some}
use Rattle.std.specs.HashMap.{get, Updates}
use Rattle.std.proofs.lemmas.Bool.{eqb-true, false≢true}
use Rattle.std.proofs.lemmas.List.{take_more, length-take-le}
use Rattle.lnet_aiger.specs.Texts.{place_from}
use Rattle.lnet_aiger.specs.Numberings.{Variables, KnowsPlaces}

-- the first of two places
abbrev pub or_else : Option ℕ → Option ℕ → Option ℕ
or_else (Some k) o = Some k
or_else None o = o

pub place_from-push : (i w x : ℕ) (xs : List ℕ) → place_from i w (xs ++ x ∷ []) ≡ or_else (place_from i w xs) (cond (eqb x w) (Some (i + length xs)) None)
place_from-push i w x [] = ap (λ (k : ℕ). cond (eqb x w) (Some k) None) (sym (add-zero i))
place_from-push i w x (y ∷ ys) = by_test (eqb y w) (place_from-push (i + 1) w x ys) where
  shift : (i + 1) + length ys ≡ i + suc (length ys)
  shift = omega arith

  by_test : (t : Bool) → place_from (i + 1) w (ys ++ x ∷ []) ≡ or_else (place_from (i + 1) w ys) (cond (eqb x w) (Some ((i + 1) + length ys)) None) → cond t (Some i) (place_from (i + 1) w (ys ++ x ∷ [])) ≡ or_else (cond t (Some i) (place_from (i + 1) w ys)) (cond (eqb x w) (Some (i + suc (length ys))) None)
  by_test true others = refl
  by_test false others = others ∙ ap (λ (k : ℕ). or_else (place_from (i + 1) w ys) (cond (eqb x w) (Some k) None)) shift

kept_by : (o : Option ℕ) (t : Bool) (k : ℕ) → (t ≡ true → is_some o ≡ true) → o ≡ or_else o (cond t (Some k) None)
kept_by (Some j) t k h = refl
kept_by None true k h = absurd (false≢true (h refl))
kept_by None false k h = refl

-- a wire that the map has already
pub KnowsPlaces-again : (m : Variables) (xs : List ℕ) (x : ℕ) → KnowsPlaces m xs → is_some (get nat_eq m x) ≡ true → KnowsPlaces m (xs ++ x ∷ [])
KnowsPlaces-again m xs x knows has w =
    let known : eqb x w ≡ true → is_some (place_from 0 w xs) ≡ true = λ t. sym (ap is_some (ap (λ (v : ℕ). get nat_eq m v) (eqb-true x w t) ∙ knows w)) ∙ has in
    knows w ∙ kept_by (place_from 0 w xs) (eqb x w) (0 + length xs) known ∙ sym (place_from-push 0 w x xs)

added_by : (o : Option ℕ) (t : Bool) (k j : ℕ) → (t ≡ true → is_some o ≡ false) → j ≡ k → cond t (Some j) o ≡ or_else o (cond t (Some k) None)
added_by (Some i) true k j h same = absurd (false≢true (sym (h refl)))
added_by (Some i) false k j h same = refl
added_by None true k j h same = ap Some same
added_by None false k j h same = refl

-- a wire that the map gets
pub KnowsPlaces-new : (m n : Variables) (xs : List ℕ) (x v : ℕ) → KnowsPlaces m xs → is_some (get nat_eq m x) ≡ false → Updates nat_eq m n x (Some v) → v ≡ length xs → KnowsPlaces n (xs ++ x ∷ [])
KnowsPlaces-new m n xs x v knows none up is w =
    let free : eqb x w ≡ true → is_some (place_from 0 w xs) ≡ false = λ t. sym (ap is_some (ap (λ (v : ℕ). get nat_eq m v) (eqb-true x w t) ∙ knows w)) ∙ none in
    up.0 w ∙ ap (λ (o : Option ℕ). cond (eqb x w) (Some v) o) (knows w) ∙ added_by (place_from 0 w xs) (eqb x w) (0 + length xs) v free (omega arith) ∙ sym (place_from-push 0 w x xs)

-- one more wire of a list
pub KnowsPlaces-take : (m : Variables) (xs ys : List ℕ) (i x : ℕ) → i < length ys → x ≡ get_or ys i 0 → KnowsPlaces m ((xs ++ take i ys) ++ x ∷ []) → KnowsPlaces m (xs ++ take (i + 1) ys)
KnowsPlaces-take m xs ys i x h at knows =
    let e : (xs ++ take i ys) ++ x ∷ [] ≡ xs ++ take (i + 1) ys = append_assoc xs (take i ys) (x ∷ []) ∙ ap (λ (y : ℕ). xs ++ (take i ys ++ y ∷ [])) at ∙ ap (λ (zs : List ℕ). xs ++ zs) (sym (take_more ys i 0 h)) in
    subst (KnowsPlaces m) e knows

-- one more wire of a list, by what numbering it does
pub KnowsPlaces-next : (m n : Variables) (xs ys : List ℕ) (i x v first : ℕ) → i < length ys → x ≡ get_or ys i 0 → length xs ≡ first → v ≡ first + i → ((zs : List ℕ) → KnowsPlaces m zs → v ≡ length zs → KnowsPlaces n (zs ++ x ∷ [])) → KnowsPlaces m (xs ++ take i ys) → KnowsPlaces n (xs ++ take (i + 1) ys)
KnowsPlaces-next m n xs ys i x v first h at len is step knows =
    let l = length-append xs (take i ys) in
    let t = length-take-le i ys (omega arith) in
    KnowsPlaces-take n xs ys i x h at (step (xs ++ take i ys) knows (omega arith))
