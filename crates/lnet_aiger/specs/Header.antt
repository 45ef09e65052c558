-- The first line of AIGER content: a word for the form, then 5 to 9 numbers M I L O A B C J F, one space apart. Missing
-- ones are 0. After Biere, "The AIGER And-Inverter Graph (AIG) Format", version 20070427, and Biere, Heljanko and
-- Wieringa, "AIGER 1.9 And Beyond", 2011.
use Rattle.std.specs.Prelude.{ℕ, ◌+◌, Bool, not, ◌&&◌, ◌||◌, List, [], ◌∷◌, length, drop, slice_index, Option, Some, None, Result, Ok, Err, nat_lt, nat_le, nat_eq, ◌==◌, if◌then◌else◌, codes}
use Rattle.std.specs.List.{slice_split, starts_with}
use Rattle.lnet_edge.specs.declared.fault.Fault.{Fault}
use Rattle.lnet_edge.specs.declared.fault.Fault.TheVariants as fault
use Rattle.lnet_edge.specs.Circuits.{circuit_limit, output_limit}
use Rattle.lnet_lines.specs.Numbers.{number_of}
use Rattle.lnet_aiger.specs.declared.header.Form.{Form}
use Rattle.lnet_aiger.specs.declared.header.Form.TheVariants.{Ascii, Binary}
use Rattle.lnet_aiger.specs.declared.header.Header.{Header}
use Rattle.lnet_aiger.specs.declared.header.Counts.{Counts}
use Rattle.lnet_aiger.specs.Chain.{◌>>=◌}

-- ---- the numbers of a line

abbrev pub is_space : ℕ → Bool
is_space b = b == 32

-- a number before others
abbrev pub onto_numbers : Option ℕ → Option (List ℕ) → Option (List ℕ)
onto_numbers (Some n) (Some ns) = Some (n ∷ ns)
onto_numbers _ _ = None

-- the numbers that these words are, where each is one
abbrev pub all_numbers : List (List ℕ) → Option (List ℕ)
all_numbers [] = Some []
all_numbers (word ∷ words) = onto_numbers (number_of word) (all_numbers words)

-- the numbers of a line, one space apart
unfoldable pub numbers_of : List ℕ → Option (List ℕ)
numbers_of line = all_numbers (slice_split is_space line)

-- numbers, unless they are more than nine
abbrev pub at_most_nine : Option (List ℕ) → Option (List ℕ)
at_most_nine None = None
at_most_nine (Some ns) = if nat_le (length ns) 9 then Some ns else None

-- ---- the header

-- the nine counts of 5 to 9 numbers, missing ones 0
abbrev pub counts_by : List ℕ → Result Counts Fault
counts_by ns = if nat_le 5 (length ns) && nat_le (length ns) 9 then Ok (record { top = slice_index ns 0; inputs = slice_index ns 1; latches = slice_index ns 2; outputs = slice_index ns 3; gates = slice_index ns 4; bad = slice_index ns 5; constraints = slice_index ns 6; justice = slice_index ns 7; fairness = slice_index ns 8 }) else Err fault.Header

abbrev pub counts_if : Option (List ℕ) → Result Counts Fault
counts_if None = Err fault.Header
counts_if (Some ns) = counts_by ns

-- the counts of the line behind its word
unfoldable pub counts_of : List ℕ → Result Counts Fault
counts_of text = counts_if (numbers_of text)

-- variables, in ASCII some of which may be unused
abbrev pub top_fits : Form → Counts → Bool
top_fits Ascii c = nat_le (c.inputs + c.latches + c.gates) c.top
top_fits Binary c = c.top == c.inputs + c.latches + c.gates

-- counts past the limits
abbrev pub are_too_many : Counts → Bool
are_too_many c = nat_lt circuit_limit (c.inputs + c.latches + c.gates) || nat_lt output_limit (c.latches + c.outputs)

-- no property is counted
abbrev pub are_plain : Counts → Bool
are_plain c = (c.bad == 0) && (c.constraints == 0) && (c.justice == 0) && (c.fairness == 0)

-- the tests of the counts, in this order
unfoldable pub header_of : Form → Counts → Result Header Fault
header_of form c =
    if not (top_fits form c) then Err fault.Header
    else (if are_too_many c then Err fault.TooMany
    else (if not (are_plain c) then Err fault.Property
    else (if not (c.latches == 0) then Err fault.Sequential
    else Ok (record { form = form; top = c.top; inputs = c.inputs; outputs = c.outputs; gates = c.gates }))))

-- the rule of the first line
unfoldable pub header_line : List ℕ → Result Header Fault
header_line line =
    if starts_with nat_eq line (codes "aag ") then counts_of (drop 4 line) >>= header_of Ascii
    else (if starts_with nat_eq line (codes "aig ") then counts_of (drop 4 line) >>= header_of Binary
    else Err fault.Header)
