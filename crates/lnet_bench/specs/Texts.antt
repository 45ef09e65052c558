-- The statements of a text, line by line, and the circuit that they give.
use Rattle.std.specs.Prelude.{ℕ, ◌+◌, Bool, false, ◌==◌, List, [], ◌∷◌, length, Option, Some, None, Result, Ok, Err, codes, if◌then◌else◌}
use Rattle.std.specs.List.{list_any, before_first}
use Rattle.std.specs.Str.{bytes_eq}
use Rattle.lnet_edge.specs.declared.fault.Fault.{Fault}
use Rattle.lnet_edge.specs.declared.fault.Malformed.{Malformed}
use Rattle.lnet_edge.specs.Circuits.{CircuitValue}
use Rattle.lnet_lines.specs.Lines.{lines_of}
use Rattle.lnet_words.specs.Cutting.{is_byte, words_of}
use Rattle.lnet_bench.specs.declared.wiring.Driven.{Driven}
use Rattle.lnet_bench.specs.Statements.{StatementValue, Input, Output, Gate, Constant, statement_of}
use Rattle.lnet_bench.specs.Numbering.{see_all, numbered}

-- a line up to its comment
abbrev pub uncommented : List ℕ → List ℕ
uncommented line = before_first (is_byte 35) line

abbrev pub is_blank_line : List ℕ → Bool
is_blank_line line = length (words_of (uncommented line)) == 0

-- a broken rule on a line
abbrev pub fault_on : ℕ → Fault → Malformed
fault_on line kind = record { line = line; kind = kind }

-- a line's statement before those of the later lines
abbrev pub with_first : ℕ → Result StatementValue Fault → Result (List StatementValue) Malformed → Result (List StatementValue) Malformed
with_first n (Err kind) later = Err (fault_on n kind)
with_first n (Ok s) (Ok ss) = Ok (s ∷ ss)
with_first n (Ok s) (Err fault) = Err fault

-- the statements of lines, the first of which has this number, or the first fault
abbrev pub statements_from : ℕ → List (List ℕ) → Result (List StatementValue) Malformed
statements_from n [] = Ok []
statements_from n (line ∷ lines) = if is_blank_line line then statements_from (n + 1) lines else with_first n (statement_of (uncommented line)) (statements_from (n + 1) lines)

abbrev pub statements_of : List ℕ → Result (List StatementValue) Malformed
statements_of bytes = statements_from 1 (lines_of bytes)

-- ---- the constants

-- the name that a statement drives
abbrev pub target_of : StatementValue → Option (List ℕ)
target_of (Input name) = Some name
target_of (Output name) = None
target_of (Gate target rule operands) = Some target
target_of (Constant target value) = Some target

abbrev pub is_target : List ℕ → Option (List ℕ) → Bool
is_target name None = false
is_target name (Some target) = bytes_eq name target

-- some statement drives the name
abbrev pub drives : List StatementValue → List ℕ → Bool
drives ss name = list_any (λ s. is_target name (target_of s)) ss

abbrev pub driven_by : List StatementValue → Driven
driven_by ss = record { gnd = drives ss (codes "gnd"); vdd = drives ss (codes "vdd") }

-- ---- the circuit

-- the names in the order in which they are first seen
abbrev pub names_of : List StatementValue → List (List ℕ)
names_of ss = see_all (driven_by ss) [] ss

-- the circuit of statements
abbrev pub circuit_of : List StatementValue → CircuitValue
circuit_of ss = numbered (driven_by ss) (names_of ss) ss

-- ---- line by line

-- the name that a line drives
abbrev pub target_in : Result StatementValue Fault → Option (List ℕ)
target_in (Ok s) = target_of s
target_in (Err kind) = None

abbrev pub line_target : List ℕ → Option (List ℕ)
line_target line = if is_blank_line line then None else target_in (statement_of (uncommented line))

abbrev pub drives_in : List (List ℕ) → List ℕ → Bool
drives_in lines name = list_any (λ line. is_target name (line_target line)) lines

abbrev pub driven_in : List (List ℕ) → Driven
driven_in lines = record { gnd = drives_in lines (codes "gnd"); vdd = drives_in lines (codes "vdd") }
