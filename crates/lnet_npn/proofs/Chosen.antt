-- The least and the first among images and their complements.
use Rattle.std.proofs.Common.{◌≡◌, ◌≢◌, ℕ, ◌+◌, ◌-◌, ◌*◌, ◌<◌, ◌≤◌, Bool, true, false, List, refl, sym, ◌∙◌, arith, get_or, inl, inr, min}
use Rattle.std.proofs.lemmas.Bool.{cases_lt}
use Rattle.lnet_tables.specs.Bits.{bit_of}
use Rattle.lnet_npn.specs.Exchanges.{choice, IsAmong}
use Rattle.lnet_npn.specs.Exchanges.IsAmong.{Image}

pub choice_plain : (images : List ℕ) (f : ℕ) → choice images f false ≡ get_or images f 0
unfolding choice
choice_plain images f = refl

pub choice_complement : (images : List ℕ) (f : ℕ) → choice images f true ≡ 65535 - get_or images f 0
unfolding choice
choice_complement images f = refl

-- ---- the least
pub below_more : (images : List ℕ) (i least n : ℕ) → n ≡ min least (min (get_or images i 0) (65535 - get_or images i 0))
    → ((f : ℕ) (o : Bool) → f < i → least ≤ choice images f o) → (f : ℕ) (o : Bool) → f < i + 1 → n ≤ choice images f o
below_more images i least n e below f true lt =
    elim (cases_lt f i) [
      | inl l ↦ omega (arith, below f true l)
      | inr g ↦ let z : f ≡ i = omega arith in rw (z, choice_complement images i) (omega arith)
    ]
below_more images i least n e below f false lt =
    elim (cases_lt f i) [
      | inl l ↦ omega (arith, below f false l)
      | inr g ↦ let z : f ≡ i = omega arith in rw (z, choice_plain images i) (omega arith)
    ]

pub among_more : (images : List ℕ) (given i least n : ℕ) → i < 16 → n ≡ min least (min (get_or images i 0) (65535 - get_or images i 0))
    → IsAmong images given least → IsAmong images given n
among_more images given i least n lt e h =
    elim (cases_lt (min (get_or images i 0) (65535 - get_or images i 0)) least) [
      | inr g ↦ (let z : n ≡ least = omega arith in rw z h)
      | inl l ↦ elim (cases_lt (65535 - get_or images i 0) (get_or images i 0)) [
        | inl c ↦ (let z : n ≡ 65535 - get_or images i 0 = omega arith in Image i true lt (z ∙ sym (choice_complement images i)))
        | inr p ↦ (let z : n ≡ get_or images i 0 = omega arith in Image i false lt (z ∙ sym (choice_plain images i)))
      ]
    ]

-- ---- the first
pub none_more : (images : List ℕ) (i word : ℕ) → choice images i false ≢ word → choice images i true ≢ word
    → ((f : ℕ) (o : Bool) → f < i → choice images f o ≢ word) → (f : ℕ) (o : Bool) → f < i + 1 → choice images f o ≢ word
none_more images i word p c none f true lt =
    elim (cases_lt f i) [
      | inl l ↦ none f true l
      | inr g ↦ let z : f ≡ i = omega arith in rw z c
    ]
none_more images i word p c none f false lt =
    elim (cases_lt f i) [
      | inl l ↦ none f false l
      | inr g ↦ let z : f ≡ i = omega arith in rw z p
    ]

pub first_plain : (images : List ℕ) (i word : ℕ) → ((f : ℕ) (o : Bool) → f < i → choice images f o ≢ word)
    → (f : ℕ) (o : Bool) → f < 16 → bit_of o + 2 * f < 0 + 2 * i → choice images f o ≢ word
first_plain images i word none f true l16 lt = none f true (omega arith)
first_plain images i word none f false l16 lt = none f false (omega arith)

pub first_complement : (images : List ℕ) (i word : ℕ) → choice images i false ≢ word → ((f : ℕ) (o : Bool) → f < i → choice images f o ≢ word)
    → (f : ℕ) (o : Bool) → f < 16 → bit_of o + 2 * f < 1 + 2 * i → choice images f o ≢ word
first_complement images i word p none f true l16 lt = none f true (omega arith)
first_complement images i word p none f false l16 lt =
    elim (cases_lt f i) [
      | inl l ↦ none f false l
      | inr g ↦ let z : f ≡ i = omega arith in rw z p
    ]
