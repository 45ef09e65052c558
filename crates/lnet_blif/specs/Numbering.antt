-- The circuit of statements: each name stands for a wire, by its place among the names as they are first seen, and each cover is
-- an equation.
use Rattle.std.specs.Prelude.{ℕ, true, false, List, [], ◌∷◌, ◌++◌, map, Some}
use Rattle.lnet_edge.specs.declared.circuit.InputPort.{InputPort}
use Rattle.lnet_edge.specs.declared.circuit.OutputPort.{OutputPort}
use Rattle.lnet_edge.specs.declared.circuit.Rule.TheVariants.{Cover}
use Rattle.lnet_edge.specs.declared.circuit.WireRef.{WireRef}
use Rattle.lnet_edge.specs.Covers.{CoverValue}
use Rattle.lnet_edge.specs.Circuits.{EquationValue, CircuitValue}
use Rattle.lnet_wires.specs.Naming.{with_name, wire_of}
use Rattle.lnet_blif.specs.Statements.{RowValue, StatementValue, Model, Inputs, Outputs, Names, Row, End}

-- the names once these are seen too
abbrev pub with_names : List (List ℕ) → List (List ℕ) → List (List ℕ)
with_names names [] = names
with_names names (x ∷ xs) = with_names (with_name names x) xs

-- the names once a statement is seen, and once all are; the operands of a cover come before its target
abbrev pub see : List (List ℕ) → StatementValue → List (List ℕ)
see names Model = names
see names (Inputs xs) = with_names names xs
see names (Outputs xs) = with_names names xs
see names (Names operands target) = with_name (with_names names operands) target
see names (Row row) = names
see names End = names

abbrev pub see_all : List (List ℕ) → List StatementValue → List (List ℕ)
see_all names [] = names
see_all names (s ∷ ss) = see_all (see names s) ss

-- the use of a name's wire
abbrev pub use_of : List (List ℕ) → List ℕ → WireRef
use_of names name = record { wire = record { 0 = wire_of names name }; complement = false }

-- an input drives the wire of its name
abbrev pub input_of : List (List ℕ) → List ℕ → InputPort
input_of names name = record { wire = record { 0 = wire_of names name }; name = Some name }

-- an output has its name, and shows the wire of it
abbrev pub output_of : List (List ℕ) → List ℕ → OutputPort
output_of names name = record { source = use_of names name; name = Some name }

-- the rows right behind `.names`
abbrev pub rows_behind : List StatementValue → List RowValue
rows_behind [] = []
rows_behind (Model ∷ ss) = []
rows_behind (Inputs xs ∷ ss) = []
rows_behind (Outputs xs ∷ ss) = []
rows_behind (Names operands target ∷ ss) = []
rows_behind (Row row ∷ ss) = row ∷ rows_behind ss
rows_behind (End ∷ ss) = []

abbrev pub cells_of : List RowValue → List (List ℕ)
cells_of rows = map (λ (row : RowValue). row.cells) rows

-- the cover of rows, whose value is that of the first; without rows it is false whatever that is
abbrev pub cover_of : List RowValue → CoverValue
cover_of [] = record { value = true; rows = [] }
cover_of (row ∷ rows) = record { value = row.value; rows = cells_of (row ∷ rows) }

abbrev pub cover_equation : ℕ → CoverValue → List WireRef → EquationValue
cover_equation target cover operands = record { target = target; rule = Cover cover; operands = operands }

-- the inputs, the outputs and the equations in the order of their statements
abbrev pub inputs_by : List (List ℕ) → List StatementValue → List InputPort
inputs_by names [] = []
inputs_by names (Inputs xs ∷ ss) = map (input_of names) xs ++ inputs_by names ss
inputs_by names (_ ∷ ss) = inputs_by names ss

abbrev pub outputs_by : List (List ℕ) → List StatementValue → List OutputPort
outputs_by names [] = []
outputs_by names (Outputs xs ∷ ss) = map (output_of names) xs ++ outputs_by names ss
outputs_by names (_ ∷ ss) = outputs_by names ss

abbrev pub equations_by : List (List ℕ) → List StatementValue → List EquationValue
equations_by names [] = []
equations_by names (Names operands target ∷ ss) = cover_equation (wire_of names target) (cover_of (rows_behind ss)) (map (use_of names) operands) ∷ equations_by names ss
equations_by names (_ ∷ ss) = equations_by names ss

-- the circuit of statements whose names have these places
abbrev pub numbered : List (List ℕ) → List StatementValue → CircuitValue
numbered names ss = record { inputs = inputs_by names ss; outputs = outputs_by names ss; equations = equations_by names ss }
