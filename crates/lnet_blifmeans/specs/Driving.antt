-- The names that statements drive, and how many wires a written text may have.
use Rattle.std.specs.Prelude.{ℕ, ◌+◌, ◌<◌, List, [], ◌∷◌, ◌++◌, length}
use Rattle.lnet_edge.specs.Circuits.{CircuitValue}
use Rattle.lnet_blif.specs.Statements.{StatementValue, Inputs, Names}

-- the names that statements drive, in their order
abbrev pub driven_names : List StatementValue → List (List ℕ)
driven_names [] = []
driven_names (Inputs xs ∷ ss) = xs ++ driven_names ss
driven_names (Names operands target ∷ ss) = target ∷ driven_names ss
driven_names (_ ∷ ss) = driven_names ss

-- The text has a wire for each input, gate and output. Together these are fewer than a circuit's limit.
abbrev pub HasRoom : CircuitValue → Type 0
HasRoom c = length c.inputs + (length c.equations + length c.outputs) < 4294967296
