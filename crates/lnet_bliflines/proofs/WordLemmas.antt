-- Words of joined texts, and how many there are.
use Rattle.std.proofs.Common.{◌≡◌, ℕ, ◌+◌, ◌≤◌, Bool, true, false, cond, List, [], ◌∷◌, ◌++◌, length, refl, ap, ◌∙◌, append_assoc, arith}
use Rattle.std.specs.Prelude.{nat_lt, filter}
use Rattle.std.specs.Borrow.{Bor}
use Rattle.std.specs.List.{slice_split, onto_first}
use Rattle.std.proofs.lemmas.List.{map-append}
use Rattle.std.proofs.lemmas.List.Elements.{filter-append}
use Rattle.std.proofs.lemmas.List.Splits.{length-slice_split}
use Rattle.std.proofs.lemmas.Bool.Decides.{nat_tests}
use Rattle.lnet_words.specs.Cutting.{is_blank, parts, words_of}
use Rattle.lnet_bliflines.specs.Words.{word_lists}

onto_append : (x : ℕ) (fs gs : List (List ℕ)) → 1 ≤ length fs → onto_first x (fs ++ gs) ≡ onto_first x fs ++ gs
onto_append x [] gs some = absurd (omega arith)
onto_append x (f ∷ fs) gs some = refl

-- the parts up to a byte that separates, and those behind it
split_at_byte : (p : ℕ → Bool) (xs : List ℕ) (y : ℕ) (ys : List ℕ) → p y ≡ true → slice_split p (xs ++ y ∷ ys) ≡ slice_split p xs ++ slice_split p ys
split_at_byte p [] y ys h = rw h refl
split_at_byte p (x ∷ xs) y ys h =
    elim (p x) as (λ b. cond b ([] ∷ slice_split p (xs ++ y ∷ ys)) (onto_first x (slice_split p (xs ++ y ∷ ys))) ≡ cond b ([] ∷ slice_split p xs) (onto_first x (slice_split p xs)) ++ slice_split p ys) [
      | true ↦ ap (λ (r : List (List ℕ)). [] ∷ r) (split_at_byte p xs y ys h)
      | false ↦ ap (onto_first x) (split_at_byte p xs y ys h) ∙ onto_append x (slice_split p xs) (slice_split p ys) (omega (arith, length-slice_split p xs))
    ]

abbrev is_some_word : List ℕ → Bool
is_some_word word = nat_lt 0 (length word)

-- the words of texts with a space between them
pub words_joined : (xs ys : List ℕ) → words_of (xs ++ 32 ∷ ys) ≡ words_of xs ++ words_of ys
words_joined xs ys = ap (filter is_some_word) (split_at_byte is_blank xs 32 ys refl) ∙ filter-append is_some_word (parts is_blank xs) (parts is_blank ys)

some_word : (c : ℕ) (cs : List ℕ) → is_some_word (c ∷ cs) ≡ true
some_word c cs = grind (arith, nat_tests)

few_onto : (x n : ℕ) (fs : List (List ℕ)) → length (filter is_some_word fs) ≤ n → length (filter is_some_word (onto_first x fs)) ≤ n + 1
few_onto x n [] h = omega arith
few_onto x n ([] ∷ fs) h = omega (arith, h)
few_onto x n ((c ∷ cs) ∷ fs) h = rw (some_word x (c ∷ cs)) (omega (arith, rw (some_word c cs) at h))

-- each word has a byte
pub few_words : (xs : List ℕ) → length (words_of xs) ≤ length xs
few_words [] = omega arith
few_words (x ∷ xs) =
    elim (is_blank x) as (λ b. length (filter is_some_word (cond b ([] ∷ slice_split is_blank xs) (onto_first x (slice_split is_blank xs)))) ≤ length (x ∷ xs)) [
      | true ↦ omega (arith, few_words xs)
      | false ↦ omega (arith, few_onto x (length xs) (slice_split is_blank xs) (few_words xs))
    ]

-- one more word
pub word_added : (ws : List (Bor (List ℕ))) (w : Bor (List ℕ)) (rest : List (List ℕ)) → word_lists (ws ++ w ∷ []) ++ rest ≡ word_lists ws ++ w.now ∷ rest
word_added ws w rest = ap (λ (r : List (List ℕ)). r ++ rest) (map-append (λ x. x.now) ws (w ∷ [])) ∙ append_assoc (word_lists ws) (w.now ∷ []) rest
