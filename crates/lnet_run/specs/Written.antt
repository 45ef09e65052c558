-- Contents that a run wrote.
use Rattle.std.specs.Prelude.{◌≡◌, ℕ, Bool, List, Option, Some}
use Rattle.std.specs.FinMap.{get}
use Rattle.lnet_edge.specs.Outside.{Contents}
use Rattle.lnet_edge.specs.Circuits.{CircuitValue}
use Rattle.lnet_edge.specs.Values.{circuit_outputs}
use Rattle.lnet_script.specs.declared.command.ReadFormat.{ReadFormat}
use Rattle.lnet_session.specs.Formats.{MeansIn}

-- the bytes mean a circuit in the format, with the outputs of circuit c under each assignment
abbrev pub MeansOutputs : ReadFormat → List ℕ → CircuitValue → Type 0
MeansOutputs format bytes c = (d : CircuitValue) × MeansIn format bytes d × ((a : ℕ → Bool) → circuit_outputs d a ≡ circuit_outputs c a)

-- the name holds bytes that mean a circuit in the format, with the outputs of the origin
abbrev pub HoldsOrigin : ReadFormat → Contents → List ℕ → Option CircuitValue → Type 0
HoldsOrigin format contents name origin = (bytes : List ℕ) × (get contents name ≡ Some bytes) × ((c : CircuitValue) × (origin ≡ Some c) × MeansOutputs format bytes c)
