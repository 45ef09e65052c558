-- The words of statements are read as the statements, from where they stand.
use Rattle.std.proofs.Common.{◌≡◌, ℕ, ◌+◌, Bool, true, false, cond, List, [], ◌∷◌, ◌++◌, length, map, Result, Ok, codes, refl, sym, ap, subst, ◌∙◌, append_assoc}
use Rattle.std.specs.List.{flat_map, AllByRecursion}
use Rattle.std.proofs.lemmas.List.{length-map}
use Rattle.lnet_edge.specs.declared.circuit.WireRef.{WireRef}
use Rattle.lnet_edge.specs.declared.fault.Fault.{Fault}
use Rattle.lnet_edge.specs.declared.fault.Malformed.{Malformed}
use Rattle.lnet_edge.specs.Circuits.{CircuitValue}
use Rattle.lnet_bliflines.specs.Words.{LineWords}
use Rattle.lnet_blif.specs.Listing.{Standing, AtFirst, AtOutside, AtInside, AtBehind, position_of}
use Rattle.lnet_blif.specs.Statements.{StatementValue, Model, Inputs, Outputs, Names, End, statement_at, after}
use Rattle.lnet_blif.specs.Texts.{with_first, then_later, statements_from, statements_of}
use Rattle.lnet_blifwriter.specs.Texts.{blif_text}
use Rattle.lnet_naming.specs.Settling.{input_labels, output_labels}
use Rattle.lnet_benchtext.specs.Written.{HasNames}
use Rattle.lnet_benchtext.proofs.Cutting.{not_none}
use Rattle.lnet_bliftext.specs.Written.{CoverLines, true_row, cover_statements, written_covers, written_statements, statement_words, lines_from}
use Rattle.lnet_bliftext.proofs.Commands.{IsOpen, inputs_say, outputs_say, names_say}
use Rattle.lnet_bliftext.proofs.Rows.{IsInside, LeavesFor, stays, row_is_said}
use Rattle.lnet_bliftext.proofs.CoverForms.{IsRowOf, FitsRows, rows_fit}
use Rattle.lnet_bliftext.proofs.LineWords.{written-cut}

-- wherever the statements' lines stand, at a position of this kind, they are read
abbrev Reads : (Standing → Type 0) → List StatementValue → Type 0
Reads At ss = (n : ℕ) (p : Standing) → At p → statements_from (position_of p) (lines_from n (map statement_words ss)) ≡ Ok ss

-- the statement of a line, and those behind it
said : (p : Standing) (n : ℕ) (word : List ℕ) (words : List (List ℕ)) (later : List (Result LineWords Malformed)) (s : StatementValue) (more : List StatementValue) → statement_at (position_of p) (word ∷ words) ≡ Ok s → statements_from (after (position_of p) s) later ≡ Ok more
    → statements_from (position_of p) (Ok (record { number = n; words = word ∷ words }) ∷ later) ≡ Ok (s ∷ more)
said p n word words later s more says rest =
    ap (λ (b : Bool). cond b (statements_from (position_of p) later) (then_later n (statement_at (position_of p) (word ∷ words)) (λ t. statements_from (after (position_of p) t) later))) (not_none (length words))
    ∙ ap (λ (r : Result StatementValue Fault). then_later n r (λ t. statements_from (after (position_of p) t) later)) says
    ∙ ap (with_first s) rest

-- ---- rows

reads_row : (k : ℕ) (row : List ℕ) (ss : List StatementValue) → IsRowOf k row → Reads (IsInside k) ss → Reads (IsInside k) (true_row row ∷ ss)
reads_row k row ss is later n p at = by row is (stays k row p at) where
  by : (cells : List ℕ) → IsRowOf k cells → LeavesFor (IsInside k) p (true_row cells) → statements_from (position_of p) (lines_from n (map statement_words (true_row cells ∷ ss))) ≡ Ok (true_row cells ∷ ss)
  by [] fits leaves = said p n (codes "1") [] (lines_from (n + 1) (map statement_words ss)) (true_row []) ss (row_is_said k [] p fits.0 fits.1 at) (ap (λ (o : _). statements_from o (lines_from (n + 1) (map statement_words ss))) leaves.1 ∙ later (n + 1) leaves.0 leaves.2)
  by (b ∷ bs) fits leaves = said p n (b ∷ bs) (codes "1" ∷ []) (lines_from (n + 1) (map statement_words ss)) (true_row (b ∷ bs)) ss (row_is_said k (b ∷ bs) p fits.0 fits.1 at) (ap (λ (o : _). statements_from o (lines_from (n + 1) (map statement_words ss))) leaves.1 ∙ later (n + 1) leaves.0 leaves.2)

reads_rows : (k : ℕ) (rows : List (List ℕ)) (ss : List StatementValue) → AllByRecursion (IsRowOf k) rows → Reads (IsInside k) ss → Reads (IsInside k) (map true_row rows ++ ss)
reads_rows k [] ss all later = later
reads_rows k (row ∷ rows) ss all later = reads_row k row (map true_row rows ++ ss) all.0 (reads_rows k rows ss all.1 later)

-- ---- covers

open_of : (k : ℕ) (p : Standing) → IsInside k p → IsOpen p
open_of k AtFirst at = absurd at
open_of k AtOutside at = absurd at
open_of k (AtInside t) at = tt
open_of k AtBehind at = absurd at

-- a wire for each operand; which wires they are doesn't matter here
abbrev unused : List (List ℕ) → List WireRef
unused operands = map (λ (x : List ℕ). record { wire = record { 0 = 0 }; complement = false }) operands

count_unused : (operands : List (List ℕ)) → length (unused operands) ≡ length operands
count_unused operands = length-map operands (λ (x : List ℕ). record { wire = record { 0 = 0 }; complement = false })

-- right behind `.names`
abbrev begun : List (List ℕ) → Standing
begun operands = AtInside (record { target = 0; operands = unused operands; cover = record { value = true; rows = [] } })

begun_at : (p : Standing) (operands : List (List ℕ)) (target : List ℕ) → after (position_of p) (Names operands target) ≡ position_of (begun operands)
begun_at p operands target = let e = count_unused operands in cc

reads_names : (operands : List (List ℕ)) (target : List ℕ) (ss : List StatementValue) → Reads (IsInside (length operands)) ss → Reads IsOpen (Names operands target ∷ ss)
reads_names operands target ss later n p at = said p n (codes ".names") (operands ++ target ∷ []) (lines_from (n + 1) (map statement_words ss)) (Names operands target) ss (names_say operands target p at)
    (ap (λ (o : _). statements_from o (lines_from (n + 1) (map statement_words ss))) (begun_at p operands target) ∙ later (n + 1) (begun operands) (count_unused operands, refl))

end_says : (p : Standing) → IsOpen p → statement_at (position_of p) (codes ".end" ∷ []) ≡ Ok End
unfolding statement_at
end_says AtFirst at = absurd at
end_says AtOutside at = refl
end_says (AtInside t) at = refl
end_says AtBehind at = absurd at

reads_covers : (ks : List CoverLines) → AllByRecursion FitsRows ks → Reads IsOpen (flat_map cover_statements ks ++ End ∷ [])
reads_covers [] fit = λ n p at. said p n (codes ".end") [] [] End [] (end_says p at) refl
reads_covers (k ∷ ks) fit =
    subst (Reads IsOpen) (sym (ap (λ (ss : List StatementValue). Names k.operands k.target ∷ ss) (append_assoc (map true_row k.rows) (flat_map cover_statements ks) (End ∷ []))))
    (reads_names k.operands k.target (map true_row k.rows ++ (flat_map cover_statements ks ++ End ∷ []))
    (reads_rows (length k.operands) k.rows (flat_map cover_statements ks ++ End ∷ []) fit.0 (λ n p inside. reads_covers ks fit.1 n p (open_of (length k.operands) p inside))))

-- ---- texts

model_says : statement_at (position_of AtFirst) (codes ".model" ∷ codes "lognet" ∷ []) ≡ Ok Model
unfolding statement_at
model_says = refl

reads_all : (ins outs : List (List ℕ)) (ss : List StatementValue) → Reads IsOpen ss → statements_from (position_of AtFirst) (lines_from 1 (map statement_words (Model ∷ Inputs ins ∷ Outputs outs ∷ ss))) ≡ Ok (Model ∷ Inputs ins ∷ Outputs outs ∷ ss)
reads_all ins outs ss later =
    said AtFirst 1 (codes ".model") (codes "lognet" ∷ []) (lines_from 2 (map statement_words (Inputs ins ∷ Outputs outs ∷ ss))) Model (Inputs ins ∷ Outputs outs ∷ ss) model_says
    (said AtOutside 2 (codes ".inputs") ins (lines_from 3 (map statement_words (Outputs outs ∷ ss))) (Inputs ins) (Outputs outs ∷ ss) (inputs_say ins AtOutside tt)
    (said AtOutside 3 (codes ".outputs") outs (lines_from 4 (map statement_words ss)) (Outputs outs) ss (outputs_say outs AtOutside tt)
    (later 4 AtOutside tt)))

pub written-read : (c : CircuitValue) → HasNames c → statements_of (blif_text c) ≡ Ok (written_statements c)
written-read c has =
    ap (statements_from (position_of AtFirst)) (written-cut c has)
    ∙ reads_all (input_labels c.inputs) (output_labels c.inputs c.outputs) (flat_map cover_statements (written_covers c) ++ End ∷ []) (reads_covers (written_covers c) (rows_fit c))
