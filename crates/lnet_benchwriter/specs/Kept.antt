-- What the code keeps of the wires that are used with complement.
use Rattle.std.specs.Prelude.{◌≡◌, ℕ, Bool, List, nat_eq}
use Rattle.std.specs.declared.hash.FoldHasher.{FoldHasher}
use Rattle.std.specs.declared.hash.BuildHasherDefault.{BuildHasherDefault}
use Rattle.std.specs.HashSet.{contains, HashSet}
use Rattle.lnet_edge.specs.declared.circuit.WireRef.{WireRef}
use Rattle.lnet_benchwriter.specs.Nodes.{is_turned}

-- whether the wire is kept
abbrev pub turned_in : HashSet ℕ (BuildHasherDefault FoldHasher) → ℕ → Bool
turned_in turned w = contains nat_eq turned w

-- the set has the wires that are used with complement
abbrev pub KnowsTurned : HashSet ℕ (BuildHasherDefault FoldHasher) → List WireRef → Type 0
KnowsTurned turned uses = (w : ℕ) → contains nat_eq turned w ≡ is_turned uses w
