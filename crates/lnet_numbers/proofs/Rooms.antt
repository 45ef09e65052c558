-- The first bits of a list of which only those below a room may be set.
use Rattle.std.proofs.Common.{◌≡◌, ◌≢◌, ℕ, zero, suc, ◌-◌, ◌<◌, ◌≤◌, Bool, true, false, List, [], ◌∷◌, ◌++◌}
use Rattle.std.proofs.Common.{length, replicate, take, set, refl, sym, ◌∙◌, ap, arith, inl, inr, ◌⊎◌, Option, None, Some, MatchOption}
use Rattle.std.proofs.lemmas.Bool.{cases_lt}
use Rattle.std.proofs.lemmas.List.{length-set, length-take, length-append, length-replicate, get_or_past}
use Rattle.std.proofs.lemmas.List.{get_or-take, get_or-set_other, get_or_append_left, get_or-append_right, get_or-replicate, ext_get_or}
use Rattle.lnet_numbers.specs.Words.{bit, GainsClearBits}
use Rattle.lnet_numbers.specs.Least.{IsLeast}
use Rattle.lnet_numbers.specs.Room.{IsWithin}
use Rattle.lnet_numbers.proofs.Towers.{within-bit}
use Rattle.lnet_numbers.proofs.Extending.{bit-extended, length-extended}

pub take-set_any : {X : Type 0} (n : ℕ) (xs : List X) (i : ℕ) (x : X) → take n (set xs i x) ≡ set (take n xs) i x
take-set_any zero [] i x = refl
take-set_any zero (y ∷ ys) zero x = refl
take-set_any zero (y ∷ ys) (suc i) x = refl
take-set_any (suc n) [] i x = refl
take-set_any (suc n) (y ∷ ys) zero x = refl
take-set_any (suc n) (y ∷ ys) (suc i) x = ap (λ zs. y ∷ zs) (take-set_any n ys i x)

-- the bits past the room are not set in either
pub bit-take : (bits : List Bool) (room n : ℕ) → IsWithin bits room → bit (take room bits) n ≡ bit bits n
bit-take bits room n within =
    elim (cases_lt n room) [
      | inl inside ↦ get_or-take room bits n false inside
      | inr past ↦ get_or_past (take room bits) n false (omega (arith, length-take room bits)) ∙ sym (within.past n past)
    ]

-- a bit below the room changed
pub IsWithin-set : (bits : List Bool) (room n : ℕ) (v : Bool) → IsWithin bits room → n < room → IsWithin (set bits n v) room
IsWithin-set bits room n v within inside =
    record {
      fits = (let fits = within.fits in omega (arith, length-set bits n v));
      past = λ m past. let other : m ≢ n = omega arith in get_or-set_other bits n m v false other ∙ within.past m past;
    }

-- the least set bit of the list is that of the first ones
pub MatchOption-take : (bits : List Bool) (room : ℕ) (found : Option ℕ) → IsWithin bits room →
    MatchOption found ((n : ℕ) → bit bits n ≡ false) (λ n. IsLeast bits n) →
    MatchOption found ((n : ℕ) → bit (take room bits) n ≡ false) (λ n. IsLeast (take room bits) n)
MatchOption-take bits room None within clear = λ n. bit-take bits room n within ∙ clear n
MatchOption-take bits room (Some n) within least =
    let member : bit (take room bits) n ≡ true = bit-take bits room n within ∙ least.member in
    record { within = within-bit (take room bits) n member; member = member; below = λ m lt. bit-take bits room m within ∙ least.below m lt }

-- further bits that are not set, under the same room
pub IsWithin-extended : (old new : List Bool) (room : ℕ) → IsWithin old room → GainsClearBits old new → IsWithin new room
IsWithin-extended old new room within gains =
    record {
      fits = (let fits = within.fits in let more = length-extended old new gains in omega arith);
      past = λ n past. bit-extended old new n gains ∙ within.past n past;
    }

-- the bits from the old room to a new one are `full`, and the others left
pub record IsFilled (old new : List Bool) (from to : ℕ) (full : Bool) : Type 0 where
  pub filled : (n : ℕ) → from ≤ n → n < to → bit new n ≡ full
  pub others : (n : ℕ) → (n < from) ⊎ (to ≤ n) → bit new n ≡ bit old n
  pub len : length new ≡ length old

pub take-filled : (old new : List Bool) (from to : ℕ) (full : Bool) → IsWithin old from → from ≤ to → to ≤ length old → IsFilled old new from to full →
    take to new ≡ take from old ++ replicate (to - from) full
take-filled old new from to full within order inside fill =
    let long : length (take from old) ≡ from = omega (arith, length-take from old) in
    let len = fill.len in
    ext_get_or false (take to new) (take from old ++ replicate (to - from) full)
    (omega (arith, length-take to new, length-append (take from old) (replicate (to - from) full), length-replicate {A = Bool} (to - from) full))
    (λ n lt.
    let here : n < to = omega (arith, length-take to new) in
    elim (cases_lt n from) [
      | inl before ↦
          get_or-take to new n false here ∙ fill.others n (inl before) ∙ sym (get_or-take from old n false before)
          ∙ sym (get_or_append_left (take from old) (replicate (to - from) full) false n (omega arith))
      | inr after ↦
          get_or-take to new n false here ∙ fill.filled n after here ∙ sym (get_or-replicate (to - from) (n - from) full false (omega arith))
          ∙ sym (get_or-append_right (take from old) (replicate (to - from) full) from n false long after)
    ])
