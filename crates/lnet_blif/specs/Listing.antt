-- The lists of a circuit and the cover that goes on, statement by statement.
use Rattle.std.specs.Prelude.{◌≡◌, ℕ, ◌+◌, Bool, true, List, [], ◌∷◌, ◌++◌, length, Option, Some, None, IsTrue, All}
use Rattle.std.specs.List.{list_all}
use Rattle.lnet_edge.specs.declared.circuit.InputPort.{InputPort}
use Rattle.lnet_edge.specs.declared.circuit.OutputPort.{OutputPort}
use Rattle.lnet_edge.specs.declared.circuit.WireRef.{WireRef}
use Rattle.lnet_edge.specs.Covers.{CoverValue, is_row}
use Rattle.lnet_edge.specs.Circuits.{EquationValue, CircuitValue}
use Rattle.lnet_edge.specs.CircuitLists.{equation_views}
use Rattle.lnet_edge.specs.Wires.{HasArities}
use Rattle.lnet_wires.specs.Naming.{with_name, wire_of}
use Rattle.lnet_bliflines.specs.Words.{is_word, word_lists}
use Rattle.lnet_blif.specs.declared.tables.Place.{Place}
use Rattle.lnet_blif.specs.declared.tables.Place.TheVariants as places
use Rattle.lnet_blif.specs.declared.tables.Table.{Table}
use Rattle.lnet_blif.specs.declared.listing.Lists.{Lists}
use Rattle.lnet_blif.specs.declared.statements.Statement.{Statement}
use Rattle.lnet_blif.specs.declared.statements.Statement.TheVariants as statements
use Rattle.lnet_blif.specs.declared.statements.Position.{Position}
use Rattle.lnet_blif.specs.declared.statements.Position.TheVariants.{First, Outside, Inside, Behind}
use Rattle.lnet_blif.specs.Statements.{RowValue, StatementValue, Model, Inputs, Outputs, Names, Row, End}
use Rattle.lnet_blif.specs.Numbering.{with_names, use_of, input_of, output_of, cover_equation}

-- the names that were seen, and the lists so far
pub record Listed : Type 0 where
  pub names : List (List ℕ)
  pub inputs : List InputPort
  pub outputs : List OutputPort
  pub equations : List EquationValue

-- a cover that goes on
pub record TableValue : Type 0 where
  pub target : ℕ
  pub operands : List WireRef
  pub cover : CoverValue

-- where the next line stands, with the cover that goes on there
pub data Standing : Type 0 where
  AtFirst : Standing
  AtOutside : Standing
  AtInside : TableValue → Standing
  AtBehind : Standing

-- the lists, and where the next line stands
pub record State : Type 0 where
  pub lists : Listed
  pub place : Standing

-- ---- rows

abbrev pub first_value : Bool → List (List ℕ) → Option Bool
first_value value [] = None
first_value value (row ∷ rows) = Some value

-- a cover with one more row; the first row says the value
abbrev pub row_onto : Bool → List (List ℕ) → RowValue → CoverValue
row_onto value [] row = record { value = row.value; rows = row.cells ∷ [] }
row_onto value (r ∷ rs) row = record { value = value; rows = (r ∷ rs) ++ row.cells ∷ [] }

abbrev pub row_added : CoverValue → RowValue → CoverValue
row_added cover row = row_onto cover.value cover.rows row

abbrev pub table_with : TableValue → RowValue → TableValue
table_with t row = record { target = t.target; operands = t.operands; cover = row_added t.cover row }

abbrev pub with_row : Standing → RowValue → Standing
with_row AtFirst row = AtFirst
with_row AtOutside row = AtOutside
with_row (AtInside t) row = AtInside (table_with t row)
with_row AtBehind row = AtBehind

-- the position of the next line
abbrev pub position_of : Standing → Position
position_of AtFirst = First
position_of AtOutside = Outside
position_of (AtInside t) = Inside (length t.operands) (first_value t.cover.value t.cover.rows)
position_of AtBehind = Behind

-- ---- lists

abbrev pub nothing : Listed
nothing = record { names = []; inputs = []; outputs = []; equations = [] }

abbrev pub add_input : Listed → List ℕ → Listed
add_input l name = record { names = with_name l.names name; inputs = l.inputs ++ input_of l.names name ∷ []; outputs = l.outputs; equations = l.equations }

abbrev pub add_inputs : Listed → List (List ℕ) → Listed
add_inputs l [] = l
add_inputs l (x ∷ xs) = add_inputs (add_input l x) xs

abbrev pub add_output : Listed → List ℕ → Listed
add_output l name = record { names = with_name l.names name; inputs = l.inputs; outputs = l.outputs ++ output_of l.names name ∷ []; equations = l.equations }

abbrev pub add_outputs : Listed → List (List ℕ) → Listed
add_outputs l [] = l
add_outputs l (x ∷ xs) = add_outputs (add_output l x) xs

-- the uses of the wires of names one after the other
abbrev pub uses_of : List (List ℕ) → List (List ℕ) → List WireRef
uses_of names [] = []
uses_of names (x ∷ xs) = use_of names x ∷ uses_of (with_name names x) xs

abbrev pub see_cover : Listed → List (List ℕ) → List ℕ → Listed
see_cover l operands target = record { names = with_name (with_names l.names operands) target; inputs = l.inputs; outputs = l.outputs; equations = l.equations }

-- the cover of `.names`, without rows so far
abbrev pub table_of : List (List ℕ) → List (List ℕ) → List ℕ → TableValue
table_of names operands target = record { target = wire_of (with_names names operands) target; operands = uses_of names operands; cover = record { value = true; rows = [] } }

-- the lists once the cover that goes on has ended
abbrev pub closed : Listed → Standing → Listed
closed l AtFirst = l
closed l AtOutside = l
closed l (AtInside t) = record { names = l.names; inputs = l.inputs; outputs = l.outputs; equations = l.equations ++ cover_equation t.target t.cover t.operands ∷ [] }
closed l AtBehind = l

abbrev pub at : Listed → Standing → State
at l place = record { lists = l; place = place }

-- what a command adds to lists without a cover that goes on; a row is none
abbrev pub commanded : Listed → StatementValue → State
commanded l Model = at l AtOutside
commanded l (Inputs xs) = at (add_inputs l xs) AtOutside
commanded l (Outputs xs) = at (add_outputs l xs) AtOutside
commanded l (Names operands target) = at (see_cover l operands target) (AtInside (table_of l.names operands target))
commanded l (Row row) = at l AtOutside
commanded l End = at l AtBehind

-- the lists and the place once a statement is added; a command ends the cover before it
abbrev pub add : State → StatementValue → State
add s Model = commanded (closed s.lists s.place) Model
add s (Inputs xs) = commanded (closed s.lists s.place) (Inputs xs)
add s (Outputs xs) = commanded (closed s.lists s.place) (Outputs xs)
add s (Names operands target) = commanded (closed s.lists s.place) (Names operands target)
add s (Row row) = at s.lists (with_row s.place row)
add s End = commanded (closed s.lists s.place) End

-- the same of statements one after the other
abbrev pub add_all : State → List StatementValue → State
add_all s [] = s
add_all s (t ∷ ts) = add_all (add s t) ts

-- the circuit of lists
abbrev pub circuit_in : Listed → CircuitValue
circuit_in l = record { inputs = l.inputs; outputs = l.outputs; equations = l.equations }

-- ---- what is kept

-- the rows of a cover that goes on have a byte for each operand
abbrev pub HasRows : Standing → Type 0
HasRows AtFirst = Unit {0}
HasRows AtOutside = Unit {0}
HasRows (AtInside t) = All (λ (row : List ℕ). length row ≡ length t.operands) t.cover.rows
HasRows AtBehind = Unit {0}

-- each cover has a byte for each operand in each row
pub record IsSound (l : Listed) (place : Standing) : Type 0 where
  pub equations : HasArities l.equations
  pub rows : HasRows place

abbrev pub FitsRow : Position → RowValue → Type 0
FitsRow First row = Unit {0}
FitsRow Outside row = Unit {0}
FitsRow (Inside n first) row = length row.cells ≡ n
FitsRow Behind row = Unit {0}

-- the names of ports are words
abbrev pub names_fit : StatementValue → Bool
names_fit Model = true
names_fit (Inputs xs) = list_all is_word xs
names_fit (Outputs xs) = list_all is_word xs
names_fit (Names operands target) = true
names_fit (Row row) = true
names_fit End = true

-- a row has a byte `0`, `1` or `-` for each operand
abbrev pub RowFits : Position → StatementValue → Type 0
RowFits p Model = Unit {0}
RowFits p (Inputs xs) = Unit {0}
RowFits p (Outputs xs) = Unit {0}
RowFits p (Names operands target) = Unit {0}
RowFits p (Row row) = IsTrue (is_row row.cells) × FitsRow p row
RowFits p End = Unit {0}

pub record Fits (p : Position) (s : StatementValue) : Type 0 where
  pub names : IsTrue (names_fit s)
  pub row : RowFits p s

-- how many ports and covers there are
abbrev pub covers_at : Standing → ℕ
covers_at AtFirst = 0
covers_at AtOutside = 0
covers_at (AtInside t) = 1
covers_at AtBehind = 0

abbrev pub size : State → ℕ
size s = length s.lists.inputs + length s.lists.outputs + length s.lists.equations + covers_at s.place

-- ---- what contracts see

abbrev pub lists_view : Lists → Listed
lists_view l = record { names = l.wires; inputs = l.inputs.items; outputs = l.outputs.items; equations = equation_views l.equations.items }

abbrev pub table_view : Table → TableValue
table_view t = record { target = t.target.0; operands = t.operands.items; cover = t.rows }

abbrev pub place_view : Place → Standing
place_view places.First = AtFirst
place_view places.Outside = AtOutside
place_view (places.Inside t) = AtInside (table_view t)
place_view places.Behind = AtBehind

abbrev pub statement_view : Statement → StatementValue
statement_view statements.Model = Model
statement_view (statements.Inputs names) = Inputs (word_lists names.now)
statement_view (statements.Outputs names) = Outputs (word_lists names.now)
statement_view (statements.Names operands target) = Names (word_lists operands.now) target.now
statement_view (statements.Row cells value) = Row (record { cells = cells.now; value = value })
statement_view statements.End = End

-- how many names a statement has
abbrev pub names_count : Statement → ℕ
names_count statements.Model = 0
names_count (statements.Inputs names) = length names.now
names_count (statements.Outputs names) = length names.now
names_count (statements.Names operands target) = length operands.now + 1
names_count (statements.Row cells value) = 0
names_count statements.End = 0

abbrev pub state_view : Lists → Place → State
state_view lists place = at (lists_view lists) (place_view place)
