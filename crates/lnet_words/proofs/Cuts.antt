-- Cutting off the first part.
use Rattle.std.proofs.Common.{◌≡◌, ℕ, suc, ◌+◌, ◌-◌, ◌≤◌, Bool, true, false, cond, ltb, List, [], ◌∷◌, length, take, drop, Some, None, refl, sym, ap, ◌∙◌, arith}
use Rattle.std.specs.Prelude.{position, not}
use Rattle.std.specs.List.{slice_split, onto_first, position_or_len}
use Rattle.std.proofs.lemmas.List.{take_rest}
use Rattle.std.proofs.lemmas.List.Splits.{slice_split_first}
use Rattle.std.proofs.lemmas.List.Sums.{prefix_len-le-length}
use Rattle.std.proofs.lemmas.Bool.{ltb-true}
use Rattle.std.proofs.lemmas.Bool.Decides.{nat_tests}
use Rattle.lnet_words.specs.Cutting.{parts}

-- the place where a list is cut
place_is : (b : Bool) (n k : ℕ) → Some k ≡ cond b (Some n) None → (b ≡ true) × (n ≡ k)
place_is true n k e = (refl, cc)
place_is false n k e = absurd cc

no_place : (b : Bool) (n : ℕ) → None ≡ cond b (Some n) None → b ≡ false
no_place true n e = absurd cc
no_place false n e = refl

whole : (p : ℕ → Bool) (bs : List ℕ) → position_or_len p bs ≡ length bs → parts p bs ≡ bs ∷ []
whole p [] e = refl
whole p (b ∷ bs) e =
    elim (p b) as (λ t. cond (not t) (1 + position_or_len p bs) 0 ≡ suc (length bs) → cond t ([] ∷ slice_split p bs) (onto_first b (slice_split p bs)) ≡ (b ∷ bs) ∷ []) [
      | true ↦ λ h. absurd (omega arith)
      | false ↦ λ h. rw (whole p bs (omega arith)) refl
    ] e

pub cut_parts : (p : ℕ → Bool) (bs : List ℕ) (k : ℕ) → Some k ≡ position p bs → parts p bs ≡ take k bs ∷ parts p (take (length bs - (k + 1)) (drop (k + 1) bs))
cut_parts p bs k e =
    let at = place_is (ltb (position_or_len p bs) (length bs)) (position_or_len p bs) k e in
    let first = slice_split_first p bs 0 (ltb-true _ _ at.0) in
    first ∙ ap (λ (n : ℕ). take n bs ∷ parts p (drop (n + 1) bs)) at.1 ∙ ap (λ (r : List ℕ). take k bs ∷ parts p r) (sym (take_rest bs (k + 1)))

pub uncut : (p : ℕ → Bool) (bs : List ℕ) → None ≡ position p bs → parts p bs ≡ bs ∷ []
uncut p bs e =
    let none = no_place (ltb (position_or_len p bs) (length bs)) (position_or_len p bs) e in
    whole p bs (end none (le p bs))
  where
    le : (p : ℕ → Bool) (bs : List ℕ) → position_or_len p bs ≤ length bs
    le p bs = prefix_len-le-length (λ x. not (p x)) bs

    end : {m n : ℕ} → ltb m n ≡ false → m ≤ n → m ≡ n
    end h l = grind (arith, nat_tests)
