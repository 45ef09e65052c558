use Rattle.std.proofs.Common.{◌≡◌, ℕ, length, map, take}
use Rattle.lnet_gates.specs.declared.signal.Node.{Node}
use Rattle.lnet_cuts.proofs.list.StoredCut.given.Given as goal

abbrev pub invariant-loop-leaf : goal.invariant-loop-leaf
invariant-loop-leaf l = record {
  value : map {B = ℕ} (λ (n : Node). n.0) l.leaves.items ≡ take l.leaf-index l.numbers;
  long : length l.leaves.items ≡ l.leaf-index;
}
