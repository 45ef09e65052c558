-- What the lines of the Berkeley Logic Interchange Format say, by their words and where they stand. After "Berkeley Logic
-- Interchange Format (BLIF)", University of California, Berkeley, 1992: the part of one combinational model.
use Rattle.std.specs.Prelude.{ℕ, ◌-◌, ◌==◌, ◌&&◌, nat_le, Bool, true, false, List, [], ◌∷◌, length, take, slice_index, slice_index_or, Option, Some, None, Result, Ok, Err, codes, if◌then◌else◌}
use Rattle.std.specs.Str.{bytes_eq}
use Rattle.lnet_edge.specs.Covers.{is_row}
use Rattle.lnet_edge.specs.declared.fault.Fault.{Fault}
use Rattle.lnet_edge.specs.declared.fault.Fault.TheVariants as faults
use Rattle.lnet_blif.specs.declared.statements.Command.{Command}
use Rattle.lnet_blif.specs.declared.statements.Command.TheVariants as commands
use Rattle.lnet_blif.specs.declared.statements.Position.{Position}
use Rattle.lnet_blif.specs.declared.statements.Position.TheVariants.{First, Outside, Inside, Behind}

-- a row of a cover: a byte for each operand, and the value of the target where the row holds
pub record RowValue : Type 0 where
  pub cells : List ℕ
  pub value : Bool

-- what a line says; the words of `.names` are operands and a target
pub data StatementValue : Type 0 where
  Model : StatementValue
  Inputs : List (List ℕ) → StatementValue
  Outputs : List (List ℕ) → StatementValue
  Names : List (List ℕ) → List ℕ → StatementValue
  Row : RowValue → StatementValue
  End : StatementValue

-- ---- rows

abbrev pub bit_of : List ℕ → Option Bool
bit_of word = if bytes_eq (codes "0") word then Some false else if bytes_eq (codes "1") word then Some true else None

abbrev pub row_with : List ℕ → Option Bool → Option RowValue
row_with cells None = None
row_with cells (Some value) = Some (record { cells = cells; value = value })

-- a row of so many operands: a word with `0`, `1` or `-` for each operand, and the value; without operands the value alone
abbrev pub row_of : ℕ → List (List ℕ) → Option RowValue
row_of n [] = None
row_of n (value ∷ []) = if n == 0 then row_with [] (bit_of value) else None
row_of n (cells ∷ value ∷ []) = if length cells == n && is_row cells then row_with cells (bit_of value) else None
row_of n (cells ∷ value ∷ more ∷ words) = None

abbrev pub same_bit : Bool → Bool → Bool
same_bit true b = b
same_bit false true = false
same_bit false false = true

-- the value is that of the first row
abbrev pub agrees : Option Bool → Bool → Bool
agrees None value = true
agrees (Some first) value = same_bit first value

abbrev pub row_agreeing : Option Bool → Option RowValue → Result StatementValue Fault
row_agreeing first None = Err faults.Cover
row_agreeing first (Some row) = if agrees first row.value then Ok (Row row) else Err faults.Cover

abbrev pub row_at : Position → List (List ℕ) → Result StatementValue Fault
row_at First words = Err faults.Syntax
row_at Outside words = Err faults.Syntax
row_at (Inside n first) words = row_agreeing first (row_of n words)
row_at Behind words = Err faults.Syntax

-- ---- commands

-- the first word of a command begins with `.`
abbrev pub is_command : List ℕ → Bool
is_command word = slice_index word 0 == 46

abbrev pub command_of : List ℕ → Command
command_of word =
    if bytes_eq (codes ".model") word then commands.Model
    else if bytes_eq (codes ".inputs") word then commands.Inputs
    else if bytes_eq (codes ".outputs") word then commands.Outputs
    else if bytes_eq (codes ".names") word then commands.Names
    else if bytes_eq (codes ".latch") word then commands.Latch
    else if bytes_eq (codes ".end") word then commands.End
    else commands.Other

-- `.model` and at most one name, which is only the first line
abbrev pub model_at : Position → List (List ℕ) → Result StatementValue Fault
model_at First names = if nat_le (length names) 1 then Ok Model else Err faults.Syntax
model_at Outside names = Err faults.Unsupported
model_at (Inside n first) names = Err faults.Unsupported
model_at Behind names = Err faults.Unsupported

-- the names of a cover, the last of which is the target
abbrev pub cover_by : List (List ℕ) → Result StatementValue Fault
cover_by names = if length names == 0 then Err faults.Syntax else Ok (Names (take (length names - 1) names) (slice_index_or names (length names - 1) []))

abbrev pub command_at : Position → Command → List (List ℕ) → Result StatementValue Fault
command_at p commands.Model names = model_at p names
command_at p commands.Inputs names = Ok (Inputs names)
command_at p commands.Outputs names = Ok (Outputs names)
command_at p commands.Names names = cover_by names
command_at p commands.Latch names = Err faults.Sequential
command_at p commands.End names = if length names == 0 then Ok End else Err faults.Syntax
command_at p commands.Other names = Err faults.Unsupported

-- ---- lines

abbrev pub line_at : Position → List (List ℕ) → Result StatementValue Fault
line_at p [] = Err faults.Syntax
line_at p (word ∷ words) = if is_command word then command_at p (command_of word) words else row_at p (word ∷ words)

abbrev pub is_behind : Position → Bool
is_behind First = false
is_behind Outside = false
is_behind (Inside n first) = false
is_behind Behind = true

-- what a line with these words, of which there are some, says at a position; nothing is supported behind the end
unfoldable pub statement_at : Position → List (List ℕ) → Result StatementValue Fault
statement_at p words = if is_behind p then Err faults.Unsupported else line_at p words

abbrev pub first_of : Option Bool → Bool → Option Bool
first_of None value = Some value
first_of (Some first) value = Some first

abbrev pub behind_row : Position → RowValue → Position
behind_row First row = First
behind_row Outside row = Outside
behind_row (Inside n first) row = Inside n (first_of first row.value)
behind_row Behind row = Behind

-- where the next line stands: each command ends the cover before it
abbrev pub after : Position → StatementValue → Position
after p Model = Outside
after p (Inputs names) = Outside
after p (Outputs names) = Outside
after p (Names operands target) = Inside (length operands) None
after p (Row row) = behind_row p row
after p End = Behind
