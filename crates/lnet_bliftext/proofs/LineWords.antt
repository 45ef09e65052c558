-- A written text is cut into the words of its statements, line by line.
use Rattle.std.proofs.Common.{◌≡◌, ℕ, ◌+◌, true, List, [], ◌∷◌, ◌++◌, length, map, Result, codes, refl, sym, ap, subst, ◌∙◌, append_assoc}
use Rattle.std.specs.List.{flat_map, AllByRecursion}
use Rattle.lnet_edge.specs.declared.fault.Malformed.{Malformed}
use Rattle.lnet_edge.specs.Circuits.{CircuitValue}
use Rattle.lnet_edge.specs.Covers.{is_row}
use Rattle.lnet_lines.specs.Lines.{lines_of}
use Rattle.lnet_bliflines.specs.Words.{LineWords, words_from, words_in}
use Rattle.lnet_naming.specs.Settling.{input_labels, output_labels}
use Rattle.lnet_blif.specs.Statements.{StatementValue, Model, End}
use Rattle.lnet_blifwriter.specs.Texts.{blif_text}
use Rattle.lnet_benchtext.specs.Written.{HasNames}
use Rattle.lnet_benchtext.proofs.Cutting.{true_both, all-append}
use Rattle.lnet_bliftext.specs.Written.{CoverLines, true_row, cover_statements, written_covers, written_statements, statement_words, lines_from}
use Rattle.lnet_bliftext.proofs.WrittenNames.{is_written, input_labels-written, output_labels-written}
use Rattle.lnet_bliftext.proofs.Lines.{HasWords, words_from-line}
use Rattle.lnet_bliftext.proofs.Commands.{has_words}
use Rattle.lnet_bliftext.proofs.Rows.{cells_words}
use Rattle.lnet_bliftext.proofs.CoverForms.{IsRowOf, FitsRows, HasWritten, names_written, rows_fit}
use Rattle.lnet_bliftext.proofs.LineTexts.{line_of, text_of, text_is}

-- the line of the statement has its words
abbrev HasLine : StatementValue → Type 0
HasLine s = HasWords (line_of s) (statement_words s)

-- ---- the lines of statements

lines_cut : (n : ℕ) (ss : List StatementValue) → AllByRecursion HasLine ss → words_from n (lines_of (text_of ss)) ≡ lines_from n (map statement_words ss)
lines_cut n [] all = refl
lines_cut n (s ∷ ss) all =
    ap (λ (t : List ℕ). words_from n (lines_of t)) (append_assoc (line_of s) (10 ∷ []) (text_of ss))
    ∙ words_from-line n (line_of s) (text_of ss) (statement_words s) all.0
    ∙ ap (λ (ls : List (Result LineWords Malformed)). lines_from n (statement_words s ∷ []) ++ ls) (lines_cut (n + 1) ss all.1)

-- ---- covers

row_line_has : (row : List ℕ) → is_row row ≡ true → HasLine (true_row row)
row_line_has [] is = record { bytes = refl; cut = refl }
row_line_has (b ∷ bs) is = cells_words b bs is

rows_have : (k : ℕ) (rows : List (List ℕ)) (ss : List StatementValue) → AllByRecursion (IsRowOf k) rows → AllByRecursion HasLine ss → AllByRecursion HasLine (map true_row rows ++ ss)
rows_have k [] ss all later = later
rows_have k (row ∷ rows) ss all later = (row_line_has row all.0.0, rows_have k rows ss all.1 later)

covers_have : (ks : List CoverLines) → AllByRecursion HasWritten ks → AllByRecursion FitsRows ks → AllByRecursion HasLine (flat_map cover_statements ks ++ End ∷ [])
covers_have [] names rows = (record { bytes = refl; cut = refl }, tt)
covers_have (k ∷ ks) names rows =
    let t = names.0 in (
      has_words (codes ".names") (k.operands ++ k.target ∷ []) (record { some = refl; whole = refl }) refl (all-append is_written k.operands (k.target ∷ []) t.operands (true_both (is_written k.target) true t.target refl)),
      subst (AllByRecursion HasLine) (sym (append_assoc (map true_row k.rows) (flat_map cover_statements ks) (End ∷ []))) (rows_have (length k.operands) k.rows (flat_map cover_statements ks ++ End ∷ []) rows.0 (covers_have ks names.1 rows.1)),
    )

-- ---- texts

statements_have : (c : CircuitValue) → HasNames c → AllByRecursion HasLine (written_statements c)
statements_have c has =
    let model : HasLine Model = record { bytes = refl; cut = refl } in
    let inputs = has_words (codes ".inputs") (input_labels c.inputs) (record { some = refl; whole = refl }) refl (input_labels-written c has) in
    let outputs = has_words (codes ".outputs") (output_labels c.inputs c.outputs) (record { some = refl; whole = refl }) refl (output_labels-written c has) in
    (model, (inputs, (outputs, covers_have (written_covers c) (names_written c has) (rows_fit c))))

pub written-cut : (c : CircuitValue) → HasNames c → words_in (blif_text c) ≡ lines_from 1 (map statement_words (written_statements c))
written-cut c has = ap words_in (text_is c) ∙ lines_cut 1 (written_statements c) (statements_have c has)
