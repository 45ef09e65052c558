-- The values of names in the circuit of statements, and how many wires a written text may have.
use Rattle.std.specs.Prelude.{◌≡◌, ℕ, ◌+◌, ◌*◌, ◌<◌, Bool, List, [], ◌∷◌, length, map}
use Rattle.lnet_edge.specs.Circuits.{CircuitValue}
use Rattle.lnet_edge.specs.Values.{under_rule, ref_value}
use Rattle.lnet_bench.specs.Statements.{StatementValue, Input, Output, Gate, Constant}
use Rattle.lnet_bench.specs.Numbering.{use_of}
use Rattle.lnet_bench.specs.Texts.{driven_by, names_of, circuit_of}

-- the value of the use of a name, where input k has the value a k
abbrev pub name_value : List StatementValue → (ℕ → Bool) → List ℕ → Bool
name_value ss a name = ref_value (circuit_of ss) a (use_of (driven_by ss) (names_of ss) name)

-- the names have the values that a statement gives them
abbrev pub Holds : (List ℕ → Bool) → StatementValue → Type 0
Holds v (Input name) = Unit {0}
Holds v (Output name) = Unit {0}
Holds v (Gate target rule operands) = v target ≡ under_rule rule (map v operands)
Holds v (Constant target value) = v target ≡ value

-- the names of inputs
abbrev pub given_names : List StatementValue → List (List ℕ)
given_names [] = []
given_names (Input name ∷ ss) = name ∷ given_names ss
given_names (_ ∷ ss) = given_names ss

-- The text has a wire for each input and gate, at most one more for its complement, and one for each output. Together these are
-- fewer than a circuit's limit.
abbrev pub HasRoom : CircuitValue → Type 0
HasRoom c = 2 * (length c.inputs + length c.equations) + length c.outputs < 4294967296
