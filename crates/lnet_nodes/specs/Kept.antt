-- What the code keeps of the names of inputs.
use Rattle.std.specs.Prelude.{◌≡◌, ℕ, List, Option, nat_eq}
use Rattle.std.specs.declared.hash.FoldHasher.{FoldHasher}
use Rattle.std.specs.declared.hash.BuildHasherDefault.{BuildHasherDefault}
use Rattle.std.specs.HashMap.{get, HashMap}
use Rattle.lnet_edge.specs.declared.circuit.InputPort.{InputPort}
use Rattle.lnet_edge.specs.Values.{input_place}
use Rattle.lnet_nodes.specs.declared.labels.Labels.{Labels}
use Rattle.lnet_nodes.specs.Nodes.{name_at}

-- the map has each wire that an input drives at the first place of such an input, and no other
abbrev pub KnowsPlaces : HashMap ℕ ℕ (BuildHasherDefault FoldHasher) → List InputPort → Type 0
KnowsPlaces m ports = (w : ℕ) → get nat_eq m w ≡ input_place 0 w ports

-- the name that is kept of the input that drives a wire
abbrev pub label_in : Labels → ℕ → Option (List ℕ)
label_in labels w = name_at labels.names.items (get nat_eq labels.places w)
