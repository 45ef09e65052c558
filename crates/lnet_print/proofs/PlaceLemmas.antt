-- The places of inputs, one after the other.
use Rattle.std.proofs.Common.{◌≡◌, ◌≢◌, ℕ, ◌+◌, ◌<◌, ◌≤◌, nat_lt, Option, None, Some, refl, sym, ap, ◌∙◌, inl, inr, arith}
use Rattle.std.specs.Prelude.{if◌then◌else◌}
use Rattle.std.proofs.lemmas.Bool.{cases_lt, lt-ltb, le-ltb}
use Rattle.lnet_model.specs.Networks.{Entry, Constant, Input, IsGate}
use Rattle.lnet_print.specs.Places.{place_of, place_below}

if-lt : {A : Type 0} (j k : ℕ) (x y : A) → j < k → (if nat_lt j k then x else y) ≡ x
if-lt j k x y h = ap (λ b. if b then x else y) (lt-ltb j k h)

if-le : {A : Type 0} (j k : ℕ) (x y : A) → k ≤ j → (if nat_lt j k then x else y) ≡ y
if-le j k x y h = ap (λ b. if b then x else y) (le-ltb j k h)

pub below-none : (o : Option ℕ) → place_below 0 o ≡ None
below-none None = refl
below-none (Some k) = if-le k 0 (Some k) None (omega arith)

-- at another node the next bound says the same
pub below-other : (k : ℕ) (o : Option ℕ) → o ≢ Some k → place_below (k + 1) o ≡ place_below k o
below-other k None ne = refl
below-other k (Some j) ne = elim (cases_lt j k) as (λ _. place_below (k + 1) (Some j) ≡ place_below k (Some j)) [
  | inl lt ↦ if-lt j (k + 1) (Some j) None (omega arith) ∙ sym (if-lt j k (Some j) None lt)
  | inr le ↦
      let apart : j ≢ k = λ e. ne (ap Some e) in
      if-le j (k + 1) (Some j) None (omega arith) ∙ sym (if-le j k (Some j) None le)
]

pub below-here : (k : ℕ) → place_below (k + 1) (Some k) ≡ Some k
below-here k = if-lt k (k + 1) (Some k) None (omega arith)

-- past the end every place is below
pub below-all : (k : ℕ) (o : Option ℕ) → ((j : ℕ) → o ≡ Some j → j < k) → place_below k o ≡ o
below-all k None h = refl
below-all k (Some j) h = if-lt j k (Some j) None (h j refl)

-- an entry's place is that of an input
pub place-input : (o : Option Entry) (k : ℕ) → place_of o ≡ Some k → o ≡ Some (Input k)
place-input None k e = cc
place-input (Some Constant) k e = cc
place-input (Some (Input j)) k e = let z : j ≡ k = cc in ap (λ i. Some (Input i)) z
place-input (Some (IsGate g)) k e = cc
