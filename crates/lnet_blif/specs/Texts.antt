-- The statements of a content, line by line, and the circuit that they give.
use Rattle.std.specs.Prelude.{ℕ, ◌==◌, List, [], ◌∷◌, length, Result, Ok, Err, if◌then◌else◌}
use Rattle.lnet_edge.specs.declared.fault.Fault.{Fault}
use Rattle.lnet_edge.specs.declared.fault.Malformed.{Malformed}
use Rattle.lnet_edge.specs.Circuits.{CircuitValue}
use Rattle.lnet_bliflines.specs.Words.{fault_on, LineWords, words_in}
use Rattle.lnet_blif.specs.declared.statements.Position.{Position}
use Rattle.lnet_blif.specs.declared.statements.Position.TheVariants.{First}
use Rattle.lnet_blif.specs.Statements.{StatementValue, statement_at, after}
use Rattle.lnet_blif.specs.Numbering.{see_all, numbered}

abbrev pub with_first : StatementValue → Result (List StatementValue) Malformed → Result (List StatementValue) Malformed
with_first s (Ok ss) = Ok (s ∷ ss)
with_first s (Err fault) = Err fault

-- the statement of a line of this number before those of the later lines
abbrev pub then_later : ℕ → Result StatementValue Fault → (StatementValue → Result (List StatementValue) Malformed) → Result (List StatementValue) Malformed
then_later n (Err kind) later = Err (fault_on n kind)
then_later n (Ok s) later = with_first s (later s)

-- the statements of lines, the first of which stands at this position, or the first fault; a line without words is skipped
abbrev pub statements_from : Position → List (Result LineWords Malformed) → Result (List StatementValue) Malformed
statements_from p [] = Ok []
statements_from p (Err fault ∷ lines) = Err fault
statements_from p (Ok line ∷ lines) = if length line.words == 0 then statements_from p lines else then_later line.number (statement_at p line.words) (λ s. statements_from (after p s) lines)

abbrev pub statements_of : List ℕ → Result (List StatementValue) Malformed
statements_of bytes = statements_from First (words_in bytes)

-- the names in the order in which they are first seen
abbrev pub names_of : List StatementValue → List (List ℕ)
names_of ss = see_all [] ss

-- the circuit of statements
abbrev pub circuit_of : List StatementValue → CircuitValue
circuit_of ss = numbered (names_of ss) ss
