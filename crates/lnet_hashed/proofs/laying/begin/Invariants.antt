use Rattle.std.proofs.Common.{◌≡◌, ◌∷◌, false, take}
use Rattle.lnet_gates.specs.Operands.{constant}
use Rattle.lnet_hashed.proofs.laying.begin.Given as goal

abbrev pub invariant-loop-leaf : goal.invariant-loop-leaf
invariant-loop-leaf l = l.places.items ≡ constant false ∷ take l.leaf-index l.leaves
