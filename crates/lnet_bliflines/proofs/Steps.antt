-- Piece by piece through a joined line.
use Rattle.std.proofs.Common.{◌≡◌, ℕ, ◌+◌, true, false, cond, List, [], ◌∷◌, ◌++◌, Option, Some, None, Result, Ok, Err, refl, sym, ap, ◌∙◌, append_assoc}
use Rattle.std.specs.Prelude.{map}
use Rattle.std.specs.List.{list_all}
use Rattle.std.proofs.lemmas.List.Folds.{list_all-append}
use Rattle.lnet_edge.specs.declared.fault.Fault.TheVariants as faults
use Rattle.lnet_edge.specs.declared.fault.Malformed.{Malformed}
use Rattle.lnet_words.specs.Cutting.{words_of}
use Rattle.lnet_bliflines.specs.Joining.{uncommented, goes_on, shortened, Joined, onto_next, before_later, joined_from}
use Rattle.lnet_bliflines.specs.Words.{is_text_byte, fault_on, LineWords, words_unless, words_on, piece_text}
use Rattle.lnet_bliflines.proofs.WordLemmas.{words_joined}

-- words before those of a line
abbrev pub onto_words : List (List ℕ) → Result LineWords Malformed → Result LineWords Malformed
onto_words ws (Ok line) = Ok (record { number = line.number; words = ws ++ line.words })
onto_words ws (Err fault) = Err fault

-- words before those of the first line
abbrev pub onto_first_line : List (List ℕ) → List (Result LineWords Malformed) → List (Result LineWords Malformed)
onto_first_line ws [] = []
onto_first_line ws (line ∷ lines) = onto_words ws line ∷ lines

pub onto_none : (lines : List (Result LineWords Malformed)) → onto_first_line [] lines ≡ lines
onto_none [] = refl
onto_none (Ok line ∷ lines) = refl
onto_none (Err fault ∷ lines) = refl

-- ---- what begins with a piece

abbrev line_of : ℕ → List ℕ → Option ℕ → Joined
line_of n text due = record { number = n; text = text; due = due }

joined_text : (ws : List (List ℕ)) (n m : ℕ) (start text : List ℕ) (due : Option ℕ) → list_all is_text_byte start ≡ true → onto_words ws (words_on (line_of n (start ++ 32 ∷ text) due)) ≡ onto_words (ws ++ words_of start) (words_on (line_of n text due))
joined_text ws n m start text due good = rw (list_all-append is_text_byte start (32 ∷ text), good)
    (elim (list_all is_text_byte text) as (λ b. onto_words ws (cond b (words_unless (line_of n (start ++ 32 ∷ text) due) due) (Err (fault_on n faults.Syntax))) ≡ onto_words (ws ++ words_of start) (cond b (words_unless (line_of n text due) due) (Err (fault_on n faults.Syntax)))) [
      | true ↦ by due
      | false ↦ refl
    ])
  where
    by : (o : Option ℕ) → onto_words ws (words_unless (line_of n (start ++ 32 ∷ text) due) o) ≡ onto_words (ws ++ words_of start) (words_unless (line_of n text due) o)
    by None = ap (λ (r : List (List ℕ)). Ok (record { number = n; words = r })) (ap (λ (r : List (List ℕ)). ws ++ r) (words_joined start text) ∙ sym (append_assoc ws (words_of start) (words_of text)))
    by (Some k) = refl

-- a line without its comment that is the next of one that goes on
onto_piece : (ws : List (List ℕ)) (n m k : ℕ) (start next : List ℕ) (later : List Joined) → list_all is_text_byte start ≡ true
    → onto_first_line ws (map words_on (onto_next n m start (before_later m k next later))) ≡ onto_first_line (ws ++ words_of start) (map words_on (before_later n k next later))
onto_piece ws n m k start next later good =
    elim (goes_on next) as (λ b. onto_first_line ws (map words_on (onto_next n m start (cond b (onto_next m k (shortened next) later) (line_of m next None ∷ later)))) ≡ onto_first_line (ws ++ words_of start) (map words_on (cond b (onto_next n k (shortened next) later) (line_of n next None ∷ later)))) [
      | true ↦ by later
      | false ↦ ap (λ (r : Result LineWords Malformed). r ∷ map words_on later) (joined_text ws n m start next None good)
    ]
  where
    by : (ls : List Joined) → onto_first_line ws (map words_on (onto_next n m start (onto_next m k (shortened next) ls))) ≡ onto_first_line (ws ++ words_of start) (map words_on (onto_next n k (shortened next) ls))
    by [] = ap (λ (r : Result LineWords Malformed). r ∷ []) (joined_text ws n m start (shortened next) (Some k) good)
    by (l ∷ ls) = ap (λ (r : Result LineWords Malformed). r ∷ map words_on ls) (joined_text ws n m start (shortened next ++ 32 ∷ l.text) l.due good)

pub went_on : (ws : List (List ℕ)) (n m k : ℕ) (piece next : List ℕ) (later : List Joined) → goes_on piece ≡ true → list_all is_text_byte (piece_text piece) ≡ true
    → onto_first_line ws (map words_on (before_later n m piece (before_later m k next later))) ≡ onto_first_line (ws ++ words_of (piece_text piece)) (map words_on (before_later n k next later))
went_on ws n m k piece next later on good =
    let start : list_all is_text_byte (shortened piece) ≡ true = rw on at good in
    rw on (onto_piece ws n m k (shortened piece) next later start)

-- ---- as the code goes on

abbrev pub due_lines : List (List ℕ) → ℕ → ℕ → List ℕ → List (List ℕ) → List (Result LineWords Malformed)
due_lines ws n m piece lines = onto_first_line ws (map words_on (before_later n m piece (joined_from m lines)))

pub next_piece : (ws more : List (List ℕ)) (n m k : ℕ) (piece line next : List ℕ) (lines rest : List (List ℕ)) → goes_on piece ≡ true → list_all is_text_byte (piece_text piece) ≡ true
    → more ≡ ws ++ words_of (piece_text piece) → lines ≡ line ∷ rest → next ≡ uncommented line → k ≡ m + 1 → due_lines more n k next rest ≡ due_lines ws n m piece lines
next_piece ws more n m k piece line next lines rest on good added is text count =
    rw (added, is, text, count) (sym (went_on ws n m (m + 1) piece (uncommented line) (joined_from (m + 1) rest) on good))
