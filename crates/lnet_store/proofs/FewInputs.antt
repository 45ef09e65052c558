-- The inputs are fewer than the live numbers.
use Rattle.std.proofs.Common.{◌≡◌, ℕ, suc, ◌+◌, ◌<◌, List, [], ◌∷◌, length, IsSome, Option, Some, refl, sym, ap, subst, ◌∙◌, inl, inr, arith, slice_get}
use Rattle.lnet_model.specs.Networks.{NetworkValue, Entry, Constant, Input, entry_at, live_count}
use Rattle.lnet_model.specs.Along.{In}
use Rattle.lnet_model.specs.Dags.{IsStored}
use Rattle.lnet_model.proofs.Map.{Apart, count_apart}

get-In : (xs : List ℕ) (x : ℕ) → In x xs → (j : ℕ) × (slice_get xs j ≡ Some x)
get-In [] x i = absurd i
get-In (y ∷ ys) x (inl e) = (0, ap (λ z. Some z) (sym e))
get-In (y ∷ ys) x (inr i) = let r = get-In ys x i in (suc r.0, r.1)

input-number : (a b : ℕ) (o : Option Entry) → o ≡ Some (Input a) → o ≡ Some (Input b) → a ≡ b
input-number a b o e f = let z : Some (Input a) ≡ Some (Input b) = sym e ∙ f in cc

apart-inputs : (g : ℕ → Option Entry) (xs : List ℕ) (a : ℕ) → ((j n : ℕ) → slice_get xs j ≡ Some n → g n ≡ Some (Input (a + j))) → Apart xs
apart-inputs g [] a at = tt
apart-inputs g (x ∷ xs) a at = (
  λ i. let r = get-In xs x i in let e = input-number (a + 0) (a + suc r.0) (g x) (at 0 x refl) (at (suc r.0) x r.1) in absurd (omega arith),
  apart-inputs g xs (suc a) (λ j n e. at (suc j) n e ∙ ap (λ z. Some (Input z)) (let s : a + suc j ≡ suc a + j = omega arith in s)),
)

pub few-inputs : (N : NetworkValue) → IsStored N → length N.inputs < live_count N
unfolding live_count entry_at
few-inputs N stored =
    let at : (j n : ℕ) → slice_get N.inputs j ≡ Some n → entry_at N n ≡ Some (Input j) = λ j n e. (stored.inputs n j).1 e in
    let apart = apart-inputs (entry_at N) N.inputs 0 (λ j n e. at j n e ∙ ap (λ z. Some (Input z)) (let s : j ≡ 0 + j = omega arith in s)) in
    let not_first : In 0 N.inputs → ⊥ = λ i. (let r = get-In N.inputs 0 i in let z : Some Constant ≡ Some (Input r.0) = sym stored.whole.first ∙ at r.0 0 r.1 in cc) in
    let live : (x : ℕ) → In x (0 ∷ N.inputs) → IsSome (entry_at N x) = λ x i. elim i as (λ _. IsSome (entry_at N x)) [
      | inl e ↦ subst (λ z. IsSome (entry_at N z)) (sym e) (subst IsSome (sym stored.whole.first) refl)
      | inr j ↦ (let r = get-In N.inputs x j in subst IsSome (sym (at r.0 x r.1)) refl)
    ] in
    let few = count_apart (0 ∷ N.inputs) N.nodes (not_first, apart) live in
    omega arith
