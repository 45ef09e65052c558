-- The numbers of a line, word by word.
use Rattle.std.proofs.Common.{◌≡◌, ℕ, ◌<◌, ◌≤◌, true, false, List, [], ◌∷◌, ◌++◌, length, take, Option, Some, None, refl, sym, ap, ◌∙◌, ⊎_elim, append_assoc, arith}
use Rattle.std.specs.List.{slice_split, onto_first, before_first, after_first, position_or_len}
use Rattle.std.proofs.lemmas.Bool.Decides.{nat_tests}
use Rattle.std.proofs.lemmas.List.Splits.{slice_split_first}
use Rattle.std.proofs.lemmas.List.Sums.{prefix_len-le-length}
use Rattle.std.proofs.lemmas.Bool.{cases_lt}
use Rattle.std.proofs.Math.ListN.{length-append}
use Rattle.std.proofs.Math.Seq.{take-length}
use Rattle.std.specs.Prelude.{not}
use Rattle.lnet_lines.specs.Numbers.{number_of}
use Rattle.lnet_aiger.specs.Header.{is_space, onto_numbers, all_numbers, numbers_of, at_most_nine}

-- ---- the words of a line

pub one_word : (bytes : List ℕ) → position_or_len is_space bytes ≡ length bytes → slice_split is_space bytes ≡ bytes ∷ []
one_word [] e = refl
one_word (b ∷ bs) e =
    elim (is_space b) as (λ t. is_space b ≡ t → slice_split is_space (b ∷ bs) ≡ (b ∷ bs) ∷ []) [
      | true ↦ λ t. absurd (found t)
      | false ↦ λ t. rw t (ap (onto_first b) (one_word bs (fewer t)))
    ] refl
  where
    found : is_space b ≡ true → ⊥
    found t = grind (arith, nat_tests)

    fewer : is_space b ≡ false → position_or_len is_space bs ≡ length bs
    fewer t = grind (arith, nat_tests)

pub numbers_of-last : (bytes : List ℕ) → position_or_len is_space bytes ≡ length bytes → numbers_of bytes ≡ onto_numbers (number_of bytes) (Some [])
unfolding numbers_of
numbers_of-last bytes e = ap all_numbers (one_word bytes e)

pub numbers_of-cut : (bytes : List ℕ) → position_or_len is_space bytes < length bytes → numbers_of bytes ≡ onto_numbers (number_of (before_first is_space bytes)) (numbers_of (after_first is_space bytes))
unfolding numbers_of
numbers_of-cut bytes lt = ap all_numbers (slice_split_first is_space bytes 0 lt)

-- the first word, and what is behind it
pub numbers_of-first : (bytes : List ℕ) → (rest : Option (List ℕ)) × (numbers_of bytes ≡ onto_numbers (number_of (take (position_or_len is_space bytes) bytes)) rest)
numbers_of-first bytes =
    ⊎_elim (λ lt. (numbers_of (after_first is_space bytes), numbers_of-cut bytes lt))
    (λ le. (Some [], numbers_of-last bytes (antisym le) ∙ ap (λ (t : List ℕ). onto_numbers (number_of t) (Some [])) (sym (ap (λ (k : ℕ). take k bytes) (antisym le) ∙ take-length bytes))))
    (cases_lt (position_or_len is_space bytes) (length bytes))
  where
    antisym : length bytes ≤ position_or_len is_space bytes → position_or_len is_space bytes ≡ length bytes
    antisym le = let le2 = prefix_len-le-length (λ b. not (is_space b)) bytes in omega arith

-- ---- numbers read so far

-- these numbers, and then those
abbrev pub with_front : List ℕ → Option (List ℕ) → Option (List ℕ)
with_front front None = None
with_front front (Some ns) = Some (front ++ ns)

pub with_front-onto : (front : List ℕ) (n : ℕ) (read : Option (List ℕ)) → with_front front (onto_numbers (Some n) read) ≡ with_front (front ++ n ∷ []) read
with_front-onto front n None = refl
with_front-onto front n (Some ns) = ap Some (simp append_assoc)

onto_none : (read : Option (List ℕ)) → onto_numbers None read ≡ None
onto_none None = refl
onto_none (Some ns) = refl

-- at least so many numbers, if they are numbers
abbrev AtLeast : ℕ → Option (List ℕ) → Type 0
AtLeast k None = Unit {0}
AtLeast k (Some ns) = k ≤ length ns

at_least_front : (front : List ℕ) (read : Option (List ℕ)) → AtLeast (length front) (with_front front read)
at_least_front front None = tt
at_least_front front (Some ns) = omega (arith, length-append front ns)

past_nine : (k : ℕ) (read : Option (List ℕ)) → 9 < k → AtLeast k read → at_most_nine read ≡ None
past_nine k None more h = refl
past_nine k (Some ns) more h = grind (arith, nat_tests)

-- a word that is no number
pub stops_at : (front bytes word : List ℕ) (total : Option (List ℕ)) → take (position_or_len is_space bytes) bytes ≡ word → number_of word ≡ None → at_most_nine (with_front front (numbers_of bytes)) ≡ total → total ≡ None
stops_at front bytes word total w none so_far =
    let f = numbers_of-first bytes in
    let e : numbers_of bytes ≡ None = f.1 ∙ ap (λ (t : List ℕ). onto_numbers (number_of t) f.0) w ∙ ap (λ (o : Option ℕ). onto_numbers o f.0) none ∙ onto_none f.0 in
    sym so_far ∙ ap (λ (o : Option (List ℕ)). at_most_nine (with_front front o)) e

-- a tenth number
pub too_many : (front bytes word : List ℕ) (n : ℕ) (total : Option (List ℕ)) → take (position_or_len is_space bytes) bytes ≡ word → number_of word ≡ Some n → length front ≡ 9 → at_most_nine (with_front front (numbers_of bytes)) ≡ total → total ≡ None
too_many front bytes word n total w is full so_far =
    let f = numbers_of-first bytes in
    let e : numbers_of bytes ≡ onto_numbers (Some n) f.0 = f.1 ∙ ap (λ (t : List ℕ). onto_numbers (number_of t) f.0) w ∙ ap (λ (o : Option ℕ). onto_numbers o f.0) is in
    let len : length (front ++ n ∷ []) ≡ 10 = omega (arith, length-append front (n ∷ [])) in
    let longer = at_least_front (front ++ n ∷ []) f.0 in
    sym so_far ∙ ap (λ (o : Option (List ℕ)). at_most_nine (with_front front o)) e ∙ ap at_most_nine (with_front-onto front n f.0) ∙ past_nine (length (front ++ n ∷ [])) (with_front (front ++ n ∷ []) f.0) (omega arith) longer

-- the last number
pub ends_at : (front bytes word : List ℕ) (n : ℕ) (total : Option (List ℕ)) → take (position_or_len is_space bytes) bytes ≡ word → number_of word ≡ Some n → position_or_len is_space bytes ≡ length bytes → length front < 9 → at_most_nine (with_front front (numbers_of bytes)) ≡ total → total ≡ Some (front ++ n ∷ [])
ends_at front bytes word n total w is whole few so_far =
    let all : word ≡ bytes = sym w ∙ ap (λ (k : ℕ). take k bytes) whole ∙ take-length bytes in
    let e : numbers_of bytes ≡ Some (n ∷ []) = numbers_of-last bytes whole ∙ ap (λ (t : List ℕ). onto_numbers (number_of t) (Some [])) (sym all) ∙ ap (λ (o : Option ℕ). onto_numbers o (Some [])) is in
    let len : length (front ++ n ∷ []) ≤ 9 = omega (arith, length-append front (n ∷ [])) in
    sym so_far ∙ ap (λ (o : Option (List ℕ)). at_most_nine (with_front front o)) e ∙ kept (front ++ n ∷ []) len
  where
    kept : (ns : List ℕ) → length ns ≤ 9 → at_most_nine (Some ns) ≡ Some ns
    kept ns le = grind (arith, nat_tests)

-- a number before others
pub goes_on : (front bytes word : List ℕ) (n : ℕ) (total : Option (List ℕ)) → take (position_or_len is_space bytes) bytes ≡ word → number_of word ≡ Some n → position_or_len is_space bytes < length bytes → at_most_nine (with_front front (numbers_of bytes)) ≡ total → at_most_nine (with_front (front ++ n ∷ []) (numbers_of (after_first is_space bytes))) ≡ total
goes_on front bytes word n total w is lt so_far = rw (← with_front-onto front n (numbers_of (after_first is_space bytes)), ← is, ← w, ← numbers_of-cut bytes lt) so_far
