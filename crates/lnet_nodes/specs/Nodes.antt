-- The names of nodes in written texts: those of inputs as they are settled for texts, and `_n<n>` for gate n.
use Rattle.std.specs.Prelude.{ℕ, List, slice_get, Option, Some, None, unwrap_or}
use Rattle.lnet_edge.specs.Circuits.{CircuitValue}
use Rattle.lnet_edge.specs.Values.{input_place}
use Rattle.lnet_naming.specs.Settling.{made_name, input_labels}

-- the name at a place, if there is one
abbrev pub name_at : List (List ℕ) → Option ℕ → Option (List ℕ)
name_at names None = None
name_at names (Some place) = slice_get names place

-- the name of the input that drives a wire, if one does
abbrev pub label_of : CircuitValue → ℕ → Option (List ℕ)
label_of c w = name_at (input_labels c.inputs) (input_place 0 w c.inputs)

-- the name of node n: that of its input, or `_n<n>` of a gate
abbrev pub node_name : (ℕ → Option (List ℕ)) → ℕ → List ℕ
node_name label n = unwrap_or (label n) (made_name 110 n)
