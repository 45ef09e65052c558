-- Texts, line by line, and the statements that they spell.
use Rattle.std.proofs.Common.{◌≡◌, ℕ, zero, suc, ◌+◌, ◌-◌, ◌<◌, Bool, true, false, cond, eqb, List, [], ◌∷◌, ◌++◌, length, take, get_or, map, Result, Ok, refl, sym, ap, ◌∙◌, append_assoc, arith}
use Rattle.std.specs.Prelude.{not}
use Rattle.std.specs.List.{list_all, flat_map, slice_split, AllByRecursion}
use Rattle.std.proofs.lemmas.Bool.Decides.{nat_tests}
use Rattle.std.proofs.lemmas.List.{append-nil}
use Rattle.std.proofs.lemmas.List.Splits.{length-slice_split}
use Rattle.lnet_edge.specs.declared.fault.Fault.{Fault}
use Rattle.lnet_edge.specs.declared.fault.Malformed.{Malformed}
use Rattle.lnet_lines.specs.Lines.{is_newline, lines_of, lines_of_pieces, without_return}
use Rattle.lnet_words.specs.Cutting.{is_byte, words_of}
use Rattle.lnet_bench.specs.Statements.{StatementValue, statement_of}
use Rattle.lnet_bench.specs.Texts.{uncommented, is_blank_line, with_first, statements_from, statements_of}
use Rattle.lnet_benchtext.proofs.Cutting.{both_true, all_weaker, uncommented-none, parts_at}
use Rattle.lnet_benchtext.proofs.NameBytes.{is_line_byte}

-- statements that were read
abbrev pub read : List StatementValue → Result (List StatementValue) Malformed
read ss = Ok ss

-- the line, without its newline, says this
pub record Says (line : List ℕ) (s : StatementValue) : Type 0 where
  pub bytes : list_all is_line_byte line ≡ true
  pub full : eqb (length (words_of line)) 0 ≡ false
  pub says : statement_of line ≡ Ok s

no_newline : (b : ℕ) → is_line_byte b ≡ true → not (is_newline b) ≡ true
no_newline b e = grind (arith, nat_tests)

pub no_comment : (b : ℕ) → is_line_byte b ≡ true → not (is_byte 35 b) ≡ true
no_comment b e = grind (arith, nat_tests)

no_return_byte : (b : ℕ) → is_line_byte b ≡ true → eqb b 13 ≡ false
no_return_byte b e = grind (arith, nat_tests)

no_return : (line : List ℕ) (k : ℕ) → list_all is_line_byte line ≡ true → eqb (get_or line k 0) 13 ≡ false
no_return [] k all = refl
no_return (b ∷ bs) zero all = no_return_byte b (both_true (is_line_byte b) (list_all is_line_byte bs) all).0
no_return (b ∷ bs) (suc k) all = no_return bs k (both_true (is_line_byte b) (list_all is_line_byte bs) all).1

kept_whole : (line : List ℕ) → list_all is_line_byte line ≡ true → without_return line ≡ line
kept_whole line all = ap (λ (b : Bool). cond b (take (length line - 1) line) line) (no_return line (length line - 1) all)

behind : (piece : List ℕ) (pieces : List (List ℕ)) → 0 < length pieces → lines_of_pieces (piece ∷ pieces) ≡ without_return piece ∷ lines_of_pieces pieces
behind piece [] some = absurd (omega arith)
behind piece (next ∷ pieces) some = refl

-- the first line of a text
pub lines_of-line : (line rest : List ℕ) → list_all is_line_byte line ≡ true → lines_of (line ++ 10 ∷ rest) ≡ line ∷ lines_of rest
lines_of-line line rest all =
    ap lines_of_pieces (parts_at is_newline line 10 rest (all_weaker is_line_byte (λ b. not (is_newline b)) line no_newline all) refl)
    ∙ behind line (slice_split is_newline rest) (omega (arith, length-slice_split is_newline rest))
    ∙ ap (λ (l : List ℕ). l ∷ lines_of rest) (kept_whole line all)

-- ---- texts of whole lines

-- in front of lines that spell statements, the text spells these before them
abbrev pub Spells : List ℕ → List StatementValue → Type 0
Spells text ss = (rest : List ℕ) (more : List StatementValue) → ((m : ℕ) → statements_from m (lines_of rest) ≡ Ok more) → (n : ℕ) → statements_from n (lines_of (text ++ rest)) ≡ Ok (ss ++ more)

pub spells_none : Spells [] []
spells_none = λ rest more later n. later n

first_said : (n : ℕ) (line : List ℕ) (lines : List (List ℕ)) (s : StatementValue) (more : List StatementValue) → Says line s → statements_from (n + 1) lines ≡ Ok more → statements_from n (line ∷ lines) ≡ Ok (s ∷ more)
first_said n line lines s more is later =
    let bare : uncommented line ≡ line = uncommented-none line (all_weaker is_line_byte (λ b. not (is_byte 35 b)) line no_comment is.bytes) in
    let full : is_blank_line line ≡ false = ap (λ (l : List ℕ). eqb (length (words_of l)) 0) bare ∙ is.full in
    ap (λ (b : Bool). cond b (statements_from (n + 1) lines) (with_first n (statement_of (uncommented line)) (statements_from (n + 1) lines))) full
    ∙ ap (λ (r : Result StatementValue Fault). with_first n r (statements_from (n + 1) lines)) (ap statement_of bare ∙ is.says)
    ∙ ap (λ (r : Result (List StatementValue) Malformed). with_first n (Ok s) r) later

pub spells_line : (line text : List ℕ) (s : StatementValue) → text ≡ line ++ 10 ∷ [] → Says line s → Spells text (s ∷ [])
spells_line line text s is said = λ rest more later n.
    let cut : text ++ rest ≡ line ++ 10 ∷ rest = ap (λ (t : List ℕ). t ++ rest) is ∙ append_assoc line (10 ∷ []) rest in
    ap (λ (t : List ℕ). statements_from n (lines_of t)) cut ∙ ap (statements_from n) (lines_of-line line rest said.bytes) ∙ first_said n line (lines_of rest) s more said (later (n + 1))

pub spells_then : (text other : List ℕ) (ss ts : List StatementValue) → Spells text ss → Spells other ts → Spells (text ++ other) (ss ++ ts)
spells_then text other ss ts first second = λ rest more later n.
    ap (λ (t : List ℕ). statements_from n (lines_of t)) (append_assoc text other rest)
    ∙ first (other ++ rest) (ts ++ more) (λ m. second rest more later m) n
    ∙ ap read (sym (append_assoc ss ts more))

-- each text of a list, one behind the other
pub spells_each : {X : Type 0} (text : X → List ℕ) (spelled : X → List StatementValue) (xs : List X) → AllByRecursion (λ x. Spells (text x) (spelled x)) xs → Spells (flat_map text xs) (flat_map spelled xs)
spells_each text spelled [] all = spells_none
spells_each text spelled (x ∷ xs) all = spells_then (text x) (flat_map text xs) (spelled x) (flat_map spelled xs) all.0 (spells_each text spelled xs all.1)

-- each line of a list
pub spells_lines : {X : Type 0} (text : X → List ℕ) (spelled : X → StatementValue) (xs : List X) → AllByRecursion (λ x. Spells (text x) (spelled x ∷ [])) xs → Spells (flat_map text xs) (map spelled xs)
spells_lines text spelled [] all = spells_none
spells_lines text spelled (x ∷ xs) all = spells_then (text x) (flat_map text xs) (spelled x ∷ []) (map spelled xs) all.0 (spells_lines text spelled xs all.1)

pub statements_of-spelled : (text : List ℕ) (ss : List StatementValue) → Spells text ss → statements_of text ≡ Ok ss
statements_of-spelled text ss spells =
    ap (λ (t : List ℕ). statements_from 1 (lines_of t)) (sym (append-nil text)) ∙ spells [] [] (λ m. refl) 1 ∙ ap read (append-nil ss)
