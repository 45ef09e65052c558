-- The rules of the gates of BENCH by their words, which are read in either letter case, and their counts of operands.
-- After Brglez, Bryan and Kozminski, "Combinational Profiles of Sequential Benchmark Circuits", 1989, with look-up tables as
-- in ABC.
use Rattle.std.specs.Prelude.{ℕ, ◌^◌, ◌==◌, ◌&&◌, ◌||◌, nat_lt, nat_le, nat_eq, Bool, true, false, List, length, drop, Option, Some, None, Result, Ok, Err, codes, if◌then◌else◌}
use Rattle.std.specs.Char.{is_ascii_hexdigit}
use Rattle.std.specs.List.{list_all, starts_with}
use Rattle.std.specs.Str.{str_eq_ignore_ascii_case}
use Rattle.std.specs.Str.Parse.{digits_value}
use Rattle.lnet_edge.specs.declared.fault.Fault.{Fault}
use Rattle.lnet_edge.specs.declared.fault.Fault.TheVariants as faults
use Rattle.lnet_edge.specs.declared.circuit.Rule.{Rule}
use Rattle.lnet_edge.specs.declared.circuit.Rule.TheVariants.{And, Or, Xor, Lut}

-- the word is that keyword, in either letter case
abbrev pub is_keyword : List ℕ → List ℕ → Bool
is_keyword word keyword = str_eq_ignore_ascii_case word keyword

-- a rule that takes one operand
abbrev pub one_operand : Rule → ℕ → Result Rule Fault
one_operand rule count = if count == 1 then Ok rule else Err faults.Syntax

-- the other words: a wrong count of operands and a table without digits are of no stated form
unfoldable pub other_gate_rule : List ℕ → ℕ → Result Rule Fault
other_gate_rule word count =
    if is_keyword word (codes "NOT") then one_operand (And true) count
    else if is_keyword word (codes "BUF") || is_keyword word (codes "BUFF") then one_operand (And false) count
    else if is_keyword word (codes "LUT") then Err faults.Syntax
    else if is_keyword word (codes "DFF") then Err faults.Sequential
    else Err faults.Unsupported

-- the rule of a word for so many operands, of which there are some
unfoldable pub gate_rule : List ℕ → ℕ → Result Rule Fault
gate_rule word count =
    if is_keyword word (codes "AND") then Ok (And false)
    else if is_keyword word (codes "OR") then Ok (Or false)
    else if is_keyword word (codes "XOR") then Ok (Xor false)
    else if is_keyword word (codes "NAND") then Ok (And true)
    else if is_keyword word (codes "NOR") then Ok (Or true)
    else if is_keyword word (codes "XNOR") then Ok (Xor true)
    else other_gate_rule word count

-- 1 to 16 hexadecimal digits in either case
abbrev pub is_table : List ℕ → Bool
is_table digits = nat_lt 0 (length digits) && nat_le (length digits) 16 && list_all is_ascii_hexdigit digits

-- the table that digits are
unfoldable pub table_of : List ℕ → Option ℕ
table_of digits = if is_table digits && nat_lt (digits_value 16 digits) (2 ^ 64) then Some (digits_value 16 digits) else None

-- the table has no true row past those of so many operands
abbrev pub fits_rows : ℕ → ℕ → Bool
fits_rows table operands = if nat_lt operands 6 then nat_lt table (2 ^ (2 ^ operands)) else true

-- the rule of a table with so many operands
abbrev pub rule_of_table : Option ℕ → ℕ → Result Rule Fault
rule_of_table None count = Err faults.Cover
rule_of_table (Some table) count = if nat_lt 6 count then Err faults.Syntax else if fits_rows table count then Ok (Lut table) else Err faults.Cover

-- the rule of a table's word, which is `0x` and the digits
unfoldable pub table_rule : List ℕ → ℕ → Result Rule Fault
table_rule word count = if starts_with nat_eq word (codes "0x") then rule_of_table (table_of (drop 2 word)) count else Err faults.Syntax
