-- Levels of bits under changes of one bit, and the least set bit through them.
use Rattle.std.proofs.Common.{◌≡◌, ◌≢◌, ℕ, ◌*◌, ◌/◌, ◌<◌, ◌≤◌, Bool, true, false, List, length, set, sym, ◌∙◌, ap, arith, inl, inr, MatchOption, Option, Some, None}
use Rattle.std.proofs.lemmas.Bool.{cases_lt, cases_eq, both_ways, false_from_ne_true}
use Rattle.std.proofs.lemmas.List.{get_or_past, get_or-set_same, get_or-set_other, length-set}
use Rattle.lnet_numbers.specs.Words.{bit, IsZeroWord, HasBitIn, IsLowestIn, GainsClearBits}
use Rattle.lnet_numbers.specs.Tower.{IsOver}
use Rattle.lnet_numbers.specs.Least.{IsLeast}
use Rattle.lnet_numbers.proofs.Extending.{bit-extended}

-- a set bit lies within the list
pub within-bit : (bits : List Bool) (n : ℕ) → bit bits n ≡ true → n < length bits
within-bit bits n is_set =
    elim (cases_lt n (length bits)) [
      | inl inside ↦ inside
      | inr past ↦ absurd (both_ways (bit bits n) (get_or_past bits n false past) is_set)
    ]

-- a bit of the lower level has a bit above it
pub word-above : (upper lower : List Bool) (n : ℕ) → IsOver upper lower → n < length lower → n / 64 < length upper
word-above upper lower n over inside = let reaches = over.reaches in omega arith

-- bit n set, in both levels
pub IsOver-set : (upper lower : List Bool) (n : ℕ) → IsOver upper lower → n < length lower → IsOver (set upper (n / 64) true) (set lower n true)
IsOver-set upper lower n over inside =
    let word : n / 64 < length upper = word-above upper lower n over inside in
    record {
      reaches = (let reaches = over.reaches in omega (arith, length-set lower n true, length-set upper (n / 64) true));
      up = λ m is_set.
          elim (cases_eq (m / 64) (n / 64)) [
            | inl one ↦ ap (λ k. bit (set upper (n / 64) true) k) one ∙ get_or-set_same upper (n / 64) true false word
            | inr two ↦
                let other : m ≢ n = λ e. two (ap (λ k. k / 64) e) in
                get_or-set_other upper (n / 64) (m / 64) true false two ∙ over.up m (sym (get_or-set_other lower n m true false other) ∙ is_set)
          ];
      down = λ i is_set.
          elim (cases_eq i (n / 64)) [
            | inl one ↦ record { place = n; inside = sym one; set = get_or-set_same lower n true false inside }
            | inr two ↦
                let bit_of = over.down i (sym (get_or-set_other upper (n / 64) i true false two) ∙ is_set) in
                let other : bit_of.place ≢ n = λ e. two (sym bit_of.inside ∙ ap (λ k. k / 64) e) in
                record { place = bit_of.place; inside = bit_of.inside; set = get_or-set_other lower n bit_of.place true false other ∙ bit_of.set }
          ];
    }

-- bit n of the lower level cleared, where its word keeps a set bit
pub IsOver-kept : (upper lower : List Bool) (n : ℕ) → IsOver upper lower → n < length lower → HasBitIn (set lower n false) (n / 64) → IsOver upper (set lower n false)
IsOver-kept upper lower n over inside left =
    record {
      reaches = (let reaches = over.reaches in omega (arith, length-set lower n false));
      up = λ m is_set.
          elim (cases_eq m n) [
            | inl same ↦ absurd (both_ways (bit (set lower n false) m) (ap (λ k. bit (set lower n false) k) same ∙ get_or-set_same lower n false false inside) is_set)
            | inr other ↦ over.up m (sym (get_or-set_other lower n m false false other) ∙ is_set)
          ];
      down = λ i is_set.
          elim (cases_eq i (n / 64)) [
            | inl one ↦ record { place = left.place; inside = left.inside ∙ sym one; set = left.set }
            | inr two ↦
                let bit_of = over.down i is_set in
                let other : bit_of.place ≢ n = λ e. two (sym bit_of.inside ∙ ap (λ k. k / 64) e) in
                record { place = bit_of.place; inside = bit_of.inside; set = get_or-set_other lower n bit_of.place false false other ∙ bit_of.set }
          ];
    }

-- bit n of the lower level cleared, where its word keeps none: then the bit above it too
pub IsOver-cleared : (upper lower : List Bool) (n : ℕ) → IsOver upper lower → n < length lower → IsZeroWord (set lower n false) (n / 64) →
    IsOver (set upper (n / 64) false) (set lower n false)
IsOver-cleared upper lower n over inside none_left =
    let word : n / 64 < length upper = word-above upper lower n over inside in
    record {
      reaches = (let reaches = over.reaches in omega (arith, length-set lower n false, length-set upper (n / 64) false));
      up = λ m is_set.
          elim (cases_eq (m / 64) (n / 64)) [
            | inl one ↦ absurd (both_ways (bit (set lower n false) m) (none_left m one) is_set)
            | inr two ↦
                let other : m ≢ n = λ e. two (ap (λ k. k / 64) e) in
                get_or-set_other upper (n / 64) (m / 64) false false two ∙ over.up m (sym (get_or-set_other lower n m false false other) ∙ is_set)
          ];
      down = λ i is_set.
          elim (cases_eq i (n / 64)) [
            | inl one ↦ absurd (both_ways (bit (set upper (n / 64) false) i) (ap (λ k. bit (set upper (n / 64) false) k) one ∙ get_or-set_same upper (n / 64) false false word) is_set)
            | inr two ↦
                let bit_of = over.down i (sym (get_or-set_other upper (n / 64) i false false two) ∙ is_set) in
                let other : bit_of.place ≢ n = λ e. two (sym bit_of.inside ∙ ap (λ k. k / 64) e) in
                record { place = bit_of.place; inside = bit_of.inside; set = get_or-set_other lower n bit_of.place false false other ∙ bit_of.set }
          ];
    }

-- both levels with further bits that aren't set
pub IsOver-extended : (upper lower upper' lower' : List Bool) → IsOver upper lower → GainsClearBits upper upper' → GainsClearBits lower lower' →
    length lower' ≤ 64 * length upper' → IsOver upper' lower'
IsOver-extended upper lower upper' lower' over above below reaches =
    record {
      reaches = reaches;
      up = λ n is_set. bit-extended upper upper' (n / 64) above ∙ over.up n (sym (bit-extended lower lower' n below) ∙ is_set);
      down = λ i is_set.
          let bit_of = over.down i (sym (bit-extended upper upper' i above) ∙ is_set) in
          record { place = bit_of.place; inside = bit_of.inside; set = bit-extended lower lower' bit_of.place below ∙ bit_of.set };
    }

-- the lowest bit of the only word is the least one
pub IsLeast-first : (bits : List Bool) (n : ℕ) → length bits ≤ 64 → IsLowestIn bits 0 n → IsLeast bits n
IsLeast-first bits n single lowest =
    let inside : n < length bits = within-bit bits n lowest.set in
    record { within = inside; member = lowest.set; below = λ m lt. lowest.below m (omega arith) lt }

-- the lowest bit of the first word that has one is the least one
pub IsLeast-under : (upper lower : List Bool) (i n : ℕ) → IsOver upper lower → IsLeast upper i → IsLowestIn lower i n → IsLeast lower n
IsLeast-under upper lower i n over least lowest =
    record {
      within = within-bit lower n lowest.set;
      member = lowest.set;
      below = λ m lt.
          elim (cases_eq (m / 64) i) [
            | inl one ↦ lowest.below m one lt
            | inr two ↦
                let before : m / 64 < i = (let inside = lowest.inside in omega arith) in
                false_from_ne_true (bit lower m) (λ is_set. both_ways (bit upper (m / 64)) (least.below (m / 64) before) (over.up m is_set))
          ];
    }

-- no set bit in the only word is no set bit at all
pub clear-first : (bits : List Bool) → length bits ≤ 64 → IsZeroWord bits 0 → (n : ℕ) → bit bits n ≡ false
clear-first bits single zero_word n =
    elim (cases_lt n 64) [
      | inl inside ↦ zero_word n (omega arith)
      | inr past ↦ get_or_past bits n false (omega arith)
    ]

-- nor then in the level below
pub clear-under : (upper lower : List Bool) → IsOver upper lower → ((n : ℕ) → bit upper n ≡ false) → (n : ℕ) → bit lower n ≡ false
clear-under upper lower over clear n = false_from_ne_true (bit lower n) (λ is_set. both_ways (bit upper (n / 64)) (clear (n / 64)) (over.up n is_set))

-- the word under a set bit has one
pub has-under : (upper lower : List Bool) (i : ℕ) → IsOver upper lower → IsLeast upper i → IsZeroWord lower i → ⊥
has-under upper lower i over least zero_word =
    let bit_of = over.down i least.member in
    both_ways (bit lower bit_of.place) (zero_word bit_of.place bit_of.inside) bit_of.set

-- what the lowest bit of the first word that has one says of the whole level
pub IsLeast-found : (upper lower : List Bool) (i : ℕ) (found : Option ℕ) → IsOver upper lower → IsLeast upper i →
    MatchOption found (IsZeroWord lower i) (λ n. IsLowestIn lower i n) → MatchOption found ((n : ℕ) → bit lower n ≡ false) (λ n. IsLeast lower n)
IsLeast-found upper lower i None over least none_there = absurd (has-under upper lower i over least none_there)
IsLeast-found upper lower i (Some n) over least lowest = IsLeast-under upper lower i n over least lowest
