-- The lists of statements: their sizes, and the arities of their equations.
use Rattle.std.proofs.Common.{◌≡◌, ℕ, zero, suc, ◌+◌, ◌≤◌, List, [], ◌∷◌, ◌++◌, length, refl, sym, ap, subst, ◌∙◌, arith}
use Rattle.std.specs.Prelude.{All}
use Rattle.std.proofs.lemmas.List.{length-append}
use Rattle.std.proofs.lemmas.List.Elements.{All-append}
use Rattle.std.proofs.lemmas.List.Sums.{count_by-le-length}
use Rattle.std.proofs.lemmas.List.Splits.{length-slice_split}
use Rattle.std.specs.List.{slice_split}
use Rattle.lnet_edge.specs.Circuits.{EquationValue}
use Rattle.lnet_edge.specs.Wires.{HasArity, HasArities}
use Rattle.lnet_lines.specs.Lines.{is_newline, lines_of, lines_of_pieces}
use Rattle.lnet_wires.specs.Naming.{with_name, wire_of}
use Rattle.lnet_bench.specs.declared.wiring.Driven.{Driven}
use Rattle.lnet_bench.specs.Statements.{StatementValue, Input, Output, Gate, Constant}
use Rattle.lnet_bench.specs.Wiring.{refer, refer_all}
use Rattle.lnet_bench.specs.Listing.{Fits, Listed, add, add_all, equation_of, constant_rule}
use Rattle.lnet_bench.proofs.TextLemmas.{AllFit}

-- ---- arities

length-refer_all : (driven : Driven) (names xs : List (List ℕ)) → length (refer_all driven names xs).0 ≡ length xs
length-refer_all driven names [] = refl
length-refer_all driven names (x ∷ xs) = ap suc (length-refer_all driven (refer driven names x).1 xs)

abbrev Suits : EquationValue → Type 0
Suits e = HasArity e.rule (length e.operands)

only : (e : EquationValue) → Suits e → All Suits (e ∷ [])
only e h zero d lt = h
only e h (suc k) d lt = absurd (omega arith)

one_more : (es : List EquationValue) (e : EquationValue) → HasArities es → Suits e → HasArities (es ++ e ∷ [])
one_more es e all h = All-append Suits es (e ∷ []) all (only e h)

add_arities : (driven : Driven) (l : Listed) (s : StatementValue) → Fits s → HasArities l.equations → HasArities (add driven l s).equations
add_arities driven l (Input name) fits all = all
add_arities driven l (Output name) fits all = all
add_arities driven l (Gate target rule operands) fits all =
    one_more l.equations (equation_of (wire_of l.names target) rule (refer_all driven (with_name l.names target) operands).0) all
    (subst (λ (k : ℕ). HasArity rule k) (sym (length-refer_all driven (with_name l.names target) operands)) fits)
add_arities driven l (Constant target value) fits all = one_more l.equations (equation_of (wire_of l.names target) (constant_rule value) []) all (omega arith)

pub all_arities : (driven : Driven) (l : Listed) (ss : List StatementValue) → AllFit ss → HasArities l.equations → HasArities (add_all driven l ss).equations
all_arities driven l [] fit all = all
all_arities driven l (s ∷ ss) fit all = all_arities driven (add driven l s) ss fit.1 (add_arities driven l s fit.0 all)

pub no_arities : HasArities []
no_arities k d lt = absurd (omega arith)

-- ---- sizes

abbrev pub size : Listed → ℕ
size l = length l.inputs + length l.outputs + length l.equations

add_size : (driven : Driven) (l : Listed) (s : StatementValue) → size (add driven l s) ≡ size l + 1
add_size driven l (Input name) = simp length-append (omega arith)
add_size driven l (Output name) = simp length-append (omega arith)
add_size driven l (Gate target rule operands) = simp length-append (omega arith)
add_size driven l (Constant target value) = simp length-append (omega arith)

pub all_sizes : (driven : Driven) (l : Listed) (ss : List StatementValue) → size (add_all driven l ss) ≡ size l + length ss
all_sizes driven l [] = omega arith
all_sizes driven l (s ∷ ss) = all_sizes driven (add driven l s) ss ∙ omega (arith, add_size driven l s)

few_pieces : (ps : List (List ℕ)) → length (lines_of_pieces ps) ≤ length ps
few_pieces [] = omega arith
few_pieces ([] ∷ []) = omega arith
few_pieces ((b ∷ bs) ∷ []) = omega arith
few_pieces (p ∷ q ∷ ps) = omega (arith, few_pieces (q ∷ ps))

pub few_lines : (bytes : List ℕ) → length (lines_of bytes) ≤ length bytes + 1
few_lines bytes = omega (arith, few_pieces (slice_split is_newline bytes), length-slice_split is_newline bytes, count_by-le-length is_newline bytes)
