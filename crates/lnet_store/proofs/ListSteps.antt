-- A list of places with one more, and without one.
use Rattle.std.proofs.Common.{◌≡◌, ◌≢◌, ℕ, zero, suc, ◌+◌, ◌<◌, List, [], ◌∷◌, length, get_or, get_or-set_same, get_or-set_other, cond, eqb, true, false, sym, subst, ◌∙◌, inl, inr, arith}
use Rattle.std.proofs.Math.ListN.{set}
use Rattle.std.proofs.lemmas.Bool.Decides.{eqb_tells}
use Rattle.lnet_chains.specs.Lists.{ChainsValue, Within, Distinct, list_of, without}

pub list-here : (v : ChainsValue) (k : ℕ) (xs : List ℕ) → k < length v.lists → list_of (record v { lists = set v.lists k xs }) k ≡ xs
list-here v k xs lt = get_or-set_same v.lists k xs [] lt

pub list-apart : (v : ChainsValue) (k m : ℕ) (xs : List ℕ) → m ≢ k → list_of (record v { lists = set v.lists k xs }) m ≡ list_of v m
list-apart v k m xs ne = get_or-set_other v.lists k m xs [] ne

pub without-within : (x p : ℕ) (xs : List ℕ) → Within p (without x xs) → Within p xs
without-within x p [] h = h
without-within x p (y ∷ ys) h = elim (eqb y x) as (λ b. Within p (cond b ys (y ∷ without x ys)) → Within p (y ∷ ys)) [
  | true ↦ λ h. inr h
  | false ↦ λ h. elim h as (λ _. Within p (y ∷ ys)) [ inl e ↦ inl e | inr t ↦ inr (without-within x p ys t) ]
] h

pub without-gone : (x : ℕ) (xs : List ℕ) → Distinct xs → Within x (without x xs) → ⊥
without-gone x [] D h = h
without-gone x (y ∷ ys) D h = elim (eqb_tells y x) as (λ _. ⊥) [
  | inl e ↦ D.0 (subst (λ z. Within z ys) (sym e.1) (subst (λ b. Within x (cond b ys (y ∷ without x ys))) e.0 h))
  | inr e ↦ elim (subst (λ b. Within x (cond b ys (y ∷ without x ys))) e.0 h) as (λ _. ⊥) [ inl s ↦ e.1 (sym s) | inr t ↦ without-gone x ys D.1 t ]
]

pub within-stays : (x p : ℕ) (xs : List ℕ) → p ≢ x → Within p xs → Within p (without x xs)
within-stays x p [] ne h = h
within-stays x p (y ∷ ys) ne h = elim (eqb_tells y x) as (λ _. Within p (cond (eqb y x) ys (y ∷ without x ys))) [
  | inl e ↦ subst (λ b. Within p (cond b ys (y ∷ without x ys))) (sym e.0) (elim h as (λ _. Within p ys) [ inl s ↦ absurd (ne (s ∙ e.1)) | inr t ↦ t ])
  | inr e ↦ subst (λ b. Within p (cond b ys (y ∷ without x ys))) (sym e.0) (elim h as (λ _. Within p (y ∷ without x ys)) [ inl s ↦ inl s | inr t ↦ inr (within-stays x p ys ne t) ])
]

pub without-length : (x : ℕ) (xs : List ℕ) → Within x xs → length (without x xs) + 1 ≡ length xs
without-length x [] h = absurd h
without-length x (y ∷ ys) h = elim (eqb_tells y x) as (λ _. length (cond (eqb y x) ys (y ∷ without x ys)) + 1 ≡ length (y ∷ ys)) [
  | inl e ↦ subst (λ b. length (cond b ys (y ∷ without x ys)) + 1 ≡ length (y ∷ ys)) (sym e.0) (omega arith)
  | inr e ↦ subst (λ b. length (cond b ys (y ∷ without x ys)) + 1 ≡ length (y ∷ ys)) (sym e.0)
      (let t = without-length x ys (elim h as (λ _. Within x ys) [ inl s ↦ absurd (e.1 (sym s)) | inr t ↦ t ]) in omega arith)
]

-- a list past the nodes is empty
pub list-within : (v : ChainsValue) (k x : ℕ) → Within x (list_of v k) → k < length v.lists
list-within v k x h = within v.lists k h
  where
    within : (ls : List (List ℕ)) (k : ℕ) → Within x (get_or ls k []) → k < length ls
    within [] k h = absurd h
    within (l ∷ ls) zero h = omega arith
    within (l ∷ ls) (suc k) h = let t = within ls k h in omega arith
