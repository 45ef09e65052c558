-- The lines of BENCH.
use Rattle.std.specs.Prelude.{◌≡◌, ℕ, Bool, true, false, not, ◌&&◌, ◌==◌, nat_lt, nat_le, List, [], ◌∷◌, length, Option, Some, None, Result, Ok, Err, is_some, codes, if◌then◌else◌}
use Rattle.std.specs.List.{list_all, filter_map}
use Rattle.lnet_edge.specs.declared.fault.Fault.{Fault}
use Rattle.lnet_edge.specs.declared.fault.Fault.TheVariants as faults
use Rattle.lnet_edge.specs.declared.circuit.Rule.{Rule}
use Rattle.lnet_words.specs.Cutting.{is_byte, parts, cut_of, words_of, only_of}
use Rattle.lnet_bench.specs.Gates.{is_keyword, gate_rule, table_rule}
use Rattle.lnet_bench.specs.declared.statements.Statement.{Statement}
use Rattle.lnet_bench.specs.declared.statements.Statement.TheVariants as statements

-- ---- names

-- a name has bytes from 33 to 126 other than `(`, `)`, `,`, `=` and `#`
abbrev pub is_name_byte : ℕ → Bool
is_name_byte b = nat_le 33 b && nat_le b 126 && not (b == 40) && not (b == 41) && not (b == 44) && not (b == 61) && not (b == 35)

abbrev pub is_name : List ℕ → Bool
is_name bytes = nat_lt 0 (length bytes) && list_all is_name_byte bytes

abbrev pub named : Option (List ℕ) → Option (List ℕ)
named None = None
named (Some word) = if is_name word then Some word else None

-- the name that a text is, with blanks around it or without
abbrev pub name_of : List ℕ → Option (List ℕ)
name_of text = named (only_of (words_of text))

-- ---- what functions return

-- go on with what was read, unless it was refused
infixl 10 ◌>>=◌
abbrev pub ◌>>=◌ : {A B : Type 0} → Result A Fault → (A → Result B Fault) → Result B Fault
(Ok x) >>= f = f x
(Err e) >>= f = Err e

-- what isn't there makes the line one of no stated form
abbrev pub or_syntax : {A : Type 0} → Option A → Result A Fault
or_syntax None = Err faults.Syntax
or_syntax (Some x) = Ok x

-- what a function returned, seen by view, is what reading gives
abbrev pub Reads : {X Y : Type 0} → (X → Y) → Result X Fault → Result Y Fault → Type 0
Reads view (Ok x) read = read ≡ Ok (view x)
Reads view (Err f) read = read ≡ Err f

-- ---- statements

-- what a line says
pub data StatementValue : Type 0 where
  Input : List ℕ → StatementValue
  Output : List ℕ → StatementValue
  Gate : List ℕ → Rule → List (List ℕ) → StatementValue
  Constant : List ℕ → Bool → StatementValue

-- the operands between commas, each of which has to be a name
abbrev pub are_names : List ℕ → Bool
are_names args = list_all (λ part. is_some (name_of part)) (parts (is_byte 44) args)

abbrev pub names_in : List ℕ → List (List ℕ)
names_in args = filter_map name_of (parts (is_byte 44) args)

abbrev pub operand_count : List ℕ → Option ℕ
operand_count args = if are_names args then Some (length (parts (is_byte 44) args)) else None

-- what stands up to a `)`, behind which are only blanks
abbrev pub closed : List ℕ × Option (List ℕ) → Option (List ℕ)
closed (args, None) = None
closed (args, Some behind) = if length (words_of behind) == 0 then Some args else None

abbrev pub arguments_of : List ℕ → Option (List ℕ)
arguments_of inside = closed (cut_of (is_byte 41) inside)

-- the rule of the words before a `(`: a gate's word, or `LUT` and the table's word
abbrev pub rule_of : List (List ℕ) → ℕ → Result Rule Fault
rule_of [] count = Err faults.Syntax
rule_of (word ∷ []) count = if is_name word then gate_rule word count else Err faults.Syntax
rule_of (word ∷ table ∷ []) count = if is_name table && is_keyword word (codes "LUT") then table_rule table count else Err faults.Syntax
rule_of (word ∷ table ∷ more ∷ words) count = Err faults.Syntax

-- `NAME = WORD(OPERANDS)`, by the name, what stands before the `(`, and what behind it
unfoldable pub gate_of : List ℕ → List ℕ → List ℕ → Result StatementValue Fault
gate_of target head inside = do
  args ← or_syntax (arguments_of inside)
  count ← or_syntax (operand_count args)
  rule ← rule_of (words_of head) count
  Ok (Gate target rule (names_in args))

-- `NAME = gnd` and `NAME = vdd`
unfoldable pub constant_of : List ℕ → List ℕ → Result StatementValue Fault
constant_of target text = do
  word ← or_syntax (name_of text)
  if is_keyword word (codes "gnd") then Ok (Constant target false) else if is_keyword word (codes "vdd") then Ok (Constant target true) else Err faults.Syntax

abbrev pub right_of : List ℕ → List ℕ × Option (List ℕ) → Result StatementValue Fault
right_of target (head, None) = constant_of target head
right_of target (head, Some inside) = gate_of target head inside

-- a line with a `=`, by what stands before and behind it
unfoldable pub drive_of : List ℕ → List ℕ → Result StatementValue Fault
drive_of left right = do
  target ← or_syntax (name_of left)
  right_of target (cut_of (is_byte 40) right)

-- `INPUT(NAME)` and `OUTPUT(NAME)`, by what stands before the `(` and behind it
unfoldable pub port_of : List ℕ → List ℕ → Result StatementValue Fault
port_of head inside = do
  args ← or_syntax (arguments_of inside)
  word ← or_syntax (name_of head)
  name ← or_syntax (name_of args)
  if is_keyword word (codes "INPUT") then Ok (Input name) else if is_keyword word (codes "OUTPUT") then Ok (Output name) else Err faults.Syntax

abbrev pub port_by : List ℕ × Option (List ℕ) → Result StatementValue Fault
port_by (head, None) = Err faults.Syntax
port_by (head, Some inside) = port_of head inside

abbrev pub statement_by : List ℕ → List ℕ × Option (List ℕ) → Result StatementValue Fault
statement_by text (left, None) = port_by (cut_of (is_byte 40) text)
statement_by text (left, Some right) = drive_of left right

-- the statement of a line without its comment
unfoldable pub statement_of : List ℕ → Result StatementValue Fault
statement_of text = statement_by text (cut_of (is_byte 61) text)

-- a statement of the code, whose operands are text
abbrev pub statement_view : Statement → StatementValue
statement_view (statements.Input name) = Input name.now
statement_view (statements.Output name) = Output name.now
statement_view (statements.Gate target rule args) = Gate target.now rule (names_in args.now)
statement_view (statements.Constant target value) = Constant target.now value

-- how long the text of its operands is
abbrev pub operands_length : Statement → ℕ
operands_length (statements.Input name) = 0
operands_length (statements.Output name) = 0
operands_length (statements.Gate target rule args) = length args.now
operands_length (statements.Constant target value) = 0
