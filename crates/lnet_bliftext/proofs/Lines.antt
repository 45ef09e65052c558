-- Lines that are neither commented nor joined, and their words.
use Rattle.std.proofs.Common.{◌≡◌, ℕ, zero, suc, ◌+◌, ◌-◌, Bool, true, false, cond, eqb, List, [], ◌∷◌, ◌++◌, length, get_or, map, Result, Ok, Err, None, refl, ap, ◌∙◌, arith}
use Rattle.std.specs.Prelude.{not}
use Rattle.std.specs.List.{list_all}
use Rattle.std.proofs.lemmas.Bool.Decides.{nat_tests}
use Rattle.lnet_edge.specs.declared.fault.Fault.TheVariants as faults
use Rattle.lnet_edge.specs.declared.fault.Malformed.{Malformed}
use Rattle.lnet_lines.specs.Lines.{lines_of}
use Rattle.lnet_words.specs.Cutting.{is_byte, words_of}
use Rattle.lnet_bliflines.specs.Joining.{uncommented, shortened, Joined, onto_next, before_later, joined_from}
use Rattle.lnet_bliflines.specs.Words.{is_text_byte, fault_on, LineWords, words_unless, words_on, words_from}
use Rattle.lnet_benchtext.proofs.Cutting.{both_true, all_weaker, uncommented-none}
use Rattle.lnet_benchtext.proofs.NameBytes.{is_line_byte}
use Rattle.lnet_benchtext.proofs.Spelling.{no_comment, lines_of-line}
use Rattle.lnet_bliftext.proofs.WrittenNames.{is_kept_byte}

-- the line, without its newline, has these words
pub record HasWords (line : List ℕ) (words : List (List ℕ)) : Type 0 where
  pub bytes : list_all is_kept_byte line ≡ true
  pub cut : words_of line ≡ words

line_byte : (b : ℕ) → is_kept_byte b ≡ true → is_line_byte b ≡ true
line_byte b e = (both_true (is_line_byte b) (not (eqb b 92)) e).0

text_byte : (b : ℕ) → is_kept_byte b ≡ true → is_text_byte b ≡ true
text_byte b e = grind (arith, nat_tests)

no_mark : (b : ℕ) → is_kept_byte b ≡ true → eqb b 92 ≡ false
no_mark b e = grind (arith, nat_tests)

no_mark_at : (line : List ℕ) (k : ℕ) → list_all is_kept_byte line ≡ true → eqb (get_or line k 0) 92 ≡ false
no_mark_at [] k all = refl
no_mark_at (b ∷ bs) zero all = no_mark b (both_true (is_kept_byte b) (list_all is_kept_byte bs) all).0
no_mark_at (b ∷ bs) (suc k) all = no_mark_at bs k (both_true (is_kept_byte b) (list_all is_kept_byte bs) all).1

abbrev alone : ℕ → List ℕ → Joined
alone n line = record { number = n; text = line; due = None }

abbrev spoken : ℕ → List (List ℕ) → Result LineWords Malformed
spoken n words = Ok (record { number = n; words = words })

words_on-line : (n : ℕ) (line : List ℕ) (words : List (List ℕ)) → HasWords line words → words_on (alone n line) ≡ spoken n words
words_on-line n line words is =
    ap (λ (b : Bool). cond b (words_unless (alone n line) None) (Err (fault_on n faults.Syntax))) (all_weaker is_kept_byte is_text_byte line text_byte is.bytes) ∙ ap (spoken n) is.cut

before_later-line : (n m : ℕ) (line : List ℕ) (later : List Joined) → list_all is_kept_byte line ≡ true → before_later n m line later ≡ alone n line ∷ later
before_later-line n m line later all = ap (λ (b : Bool). cond b (onto_next n m (shortened line) later) (alone n line ∷ later)) (no_mark_at line (length line - 1) all)

-- the words of the first line of a text, and those of the others
pub words_from-line : (n : ℕ) (line rest : List ℕ) (words : List (List ℕ)) → HasWords line words → words_from n (lines_of (line ++ 10 ∷ rest)) ≡ spoken n words ∷ words_from (n + 1) (lines_of rest)
words_from-line n line rest words is =
    let each = all_weaker is_kept_byte is_line_byte line line_byte is.bytes in
    let bare : uncommented line ≡ line = uncommented-none line (all_weaker is_line_byte (λ b. not (is_byte 35 b)) line no_comment each) in
    let later = joined_from (n + 1) (lines_of rest) in
    ap (words_from n) (lines_of-line line rest each)
    ∙ ap (λ (piece : List ℕ). map words_on (before_later n (n + 1) piece (joined_from (n + 1) (lines_of rest)))) bare
    ∙ ap (map words_on) (before_later-line n (n + 1) line later is.bytes)
    ∙ ap (λ (r : Result LineWords Malformed). r ∷ map words_on (joined_from (n + 1) (lines_of rest))) (words_on-line n line words is)
