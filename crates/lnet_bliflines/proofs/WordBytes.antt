-- The bytes of words.
use Rattle.std.proofs.Common.{◌≡◌, ℕ, Bool, true, false, cond, List, [], ◌∷◌, length, Option, Some, None, Result, Ok, Err, refl, subst, arith}
use Rattle.std.specs.Prelude.{map, ◌&&◌, nat_lt, filter}
use Rattle.std.specs.List.{list_all, slice_split, onto_first}
use Rattle.std.proofs.lemmas.Bool.Decides.{nat_tests}
use Rattle.lnet_edge.specs.declared.fault.Malformed.{Malformed}
use Rattle.lnet_edge.specs.declared.fault.Fault.TheVariants as faults
use Rattle.lnet_words.specs.Cutting.{is_blank, words_of}
use Rattle.lnet_edge.specs.declared.fault.ReadError.{ReadError}
use Rattle.lnet_bliflines.specs.declared.joining.TextLine.{TextLine}
use Rattle.lnet_bliflines.specs.Joining.{Joined, joined_from}
use Rattle.lnet_bliflines.specs.Words.{is_text_byte, is_word_byte, is_word, fault_on, LineWords, words_unless, words_on, words_from, line_view, are_words, TakesLine}

both : (a b : Bool) → (a && b) ≡ true → (a ≡ true) × (b ≡ true)
both true b e = (refl, e)
both false b e = absurd cc

abbrev is_part : List ℕ → Bool
is_part part = list_all is_word_byte part

word_byte : (b : ℕ) → is_text_byte b ≡ true → is_blank b ≡ false → is_word_byte b ≡ true
word_byte b text full = grind (arith, nat_tests)

onto_part : (x : ℕ) (ps : List (List ℕ)) → is_word_byte x ≡ true → list_all is_part ps ≡ true → list_all is_part (onto_first x ps) ≡ true
onto_part x [] h all = rw h refl
onto_part x (p ∷ ps) h all = rw h all

all_parts : (xs : List ℕ) → list_all is_text_byte xs ≡ true → list_all is_part (slice_split is_blank xs) ≡ true
all_parts [] all = refl
all_parts (x ∷ xs) all =
    let t = both (is_text_byte x) (list_all is_text_byte xs) all in
    elim (is_blank x) as (λ b. is_blank x ≡ b → list_all is_part (cond b ([] ∷ slice_split is_blank xs) (onto_first x (slice_split is_blank xs))) ≡ true) [
      | true ↦ λ _. all_parts xs t.1
      | false ↦ λ full. onto_part x (slice_split is_blank xs) (word_byte x t.0 full) (all_parts xs t.1)
    ] refl

all_words : (ps : List (List ℕ)) → list_all is_part ps ≡ true → list_all is_word (filter (λ word. nat_lt 0 (length word)) ps) ≡ true
all_words [] all = refl
all_words (p ∷ ps) all =
    let t = both (is_part p) (list_all is_part ps) all in
    elim (nat_lt 0 (length p)) as (λ b. nat_lt 0 (length p) ≡ b → list_all is_word (cond b (p ∷ filter (λ word. nat_lt 0 (length word)) ps) (filter (λ word. nat_lt 0 (length word)) ps)) ≡ true) [
      | true ↦ λ some. rw (some, t.0) (all_words ps t.1)
      | false ↦ λ _. all_words ps t.1
    ] refl

abbrev made : LineWords → Result LineWords Malformed
made line = Ok line

made_is : (a b : LineWords) → made a ≡ made b → a ≡ b
made_is a b e = cc

words_made : (line : Joined) (due : Option ℕ) (v : LineWords) → list_all is_text_byte line.text ≡ true → words_unless line due ≡ Ok v → list_all is_word v.words ≡ true
words_made line None v all e = subst (λ (w : LineWords). list_all is_word w.words ≡ true) (made_is (record { number = line.number; words = words_of line.text }) v e) (all_words (slice_split is_blank line.text) (all_parts line.text all))
words_made line (Some due) v all e = absurd cc

line_words : (line : Joined) (v : LineWords) → words_on line ≡ Ok v → list_all is_word v.words ≡ true
line_words line v e =
    elim (list_all is_text_byte line.text) as (λ b. list_all is_text_byte line.text ≡ b → cond b (words_unless line line.due) (Err (fault_on line.number faults.Syntax)) ≡ Ok v → list_all is_word v.words ≡ true) [
      | true ↦ λ all h. words_made line line.due v all h
      | false ↦ λ _ h. absurd cc
    ] refl e

first_words : (lines : List Joined) (v : LineWords) (rest : List (Result LineWords Malformed)) → map words_on lines ≡ Ok v ∷ rest → list_all is_word v.words ≡ true
first_words [] v rest e = absurd cc
first_words (line ∷ lines) v rest e = line_words line v (cc)

pub taken_words : (n : ℕ) (lines : List (List ℕ)) (after : List (Result LineWords Malformed)) (r : Result (Option TextLine) ReadError) → TakesLine r (words_from n lines) after → are_words r ≡ true
taken_words n lines after (Ok None) takes = refl
taken_words n lines after (Ok (Some line)) takes = first_words (joined_from n lines) (line_view line) after takes
taken_words n lines after (Err error) takes = refl
