-- Taking back nodes that were added.
use Rattle.std.specs.Prelude.{◌≡◌, List, [], ◌∷◌}
use Rattle.lnet_gates.specs.declared.signal.Node.{Node}
use Rattle.lnet_model.specs.Networks.{NetworkValue}
use Rattle.lnet_model.specs.Changes.{without, IsGateAt}
use Rattle.lnet_model.specs.Fanouts.{references}

-- the network without the nodes
abbrev pub undone : List Node → NetworkValue → NetworkValue
undone [] N = N
undone (n ∷ ns) N = undone ns (without N n.0)

-- each of the nodes is a gate that nothing names once those before it are gone
abbrev pub IsUndoable : List Node → NetworkValue → Type 0
IsUndoable [] N = Unit {0}
IsUndoable (n ∷ ns) N = IsGateAt N n.0 × (references N n.0 ≡ 0) × IsUndoable ns (without N n.0)
