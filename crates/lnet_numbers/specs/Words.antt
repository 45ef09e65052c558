-- A list of bits by its words of 64 bits: bits 64 * i to 64 * i + 63 are word i.
use Rattle.std.specs.Prelude.{◌≡◌, ℕ, ◌/◌, ◌-◌, ◌<◌, Bool, true, false, List, ◌++◌, length, replicate, slice_index_or}

-- bit n, false past the end
abbrev pub bit : List Bool → ℕ → Bool
bit bits n = slice_index_or bits n false

-- no bit of word i is set
abbrev pub IsZeroWord : List Bool → ℕ → Type 0
IsZeroWord bits i = (n : ℕ) → n / 64 ≡ i → bit bits n ≡ false

-- some bit of word i is set
pub record HasBitIn (bits : List Bool) (i : ℕ) : Type 0 where
  pub place : ℕ
  pub inside : place / 64 ≡ i
  pub set : bit bits place ≡ true

-- bit n is the lowest set bit of word i
pub record IsLowestIn (bits : List Bool) (i n : ℕ) : Type 0 where
  pub inside : n / 64 ≡ i
  pub set : bit bits n ≡ true
  pub below : (m : ℕ) → m / 64 ≡ i → m < n → bit bits m ≡ false

-- further bits come after the old ones, and none of them is set
abbrev pub GainsClearBits : List Bool → List Bool → Type 0
GainsClearBits old new = new ≡ old ++ replicate (length new - length old) false
