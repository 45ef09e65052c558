-- When bytes mean a circuit that shows the same as another.
use Rattle.std.specs.Prelude.{ℕ, List, map, Some}
use Rattle.lnet_edge.specs.Circuits.{CircuitValue}
use Rattle.lnet_edge.specs.Values.{circuit_outputs}
use Rattle.lnet_naming.specs.Settling.{input_labels, output_labels}
use Rattle.lnet_edge.specs.Shown.{Shows}
use Rattle.lnet_bench.specs.Meanings.{Means}

-- the bytes mean a circuit with the same outputs under each assignment of the inputs, whose ports have the settled names
abbrev pub MeansSame : List ℕ → CircuitValue → Type 0
MeansSame bytes c = Shows (Means bytes) (map Some (input_labels c.inputs)) (map Some (output_labels c.inputs c.outputs)) (circuit_outputs c)
