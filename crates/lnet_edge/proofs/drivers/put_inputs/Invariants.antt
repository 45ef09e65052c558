use Rattle.std.proofs.Common.{◌≡◌, ℕ, ◌∷◌, Some, take}
use Rattle.lnet_edge.specs.Wires.{input_wires}
use Rattle.lnet_edge.specs.Drivers.{driver_at, KnowsWires}
use Rattle.lnet_edge.proofs.drivers.put_inputs.Given as goal

abbrev pub invariant-loop-input : goal.invariant-loop-input
invariant-loop-input l = record {
  wires : KnowsWires l.drivers l.twice (0 ∷ take l.input-index (input_wires l.inputs));
  none : (w k : ℕ) → driver_at l.drivers w ≡ Some (Some k) → ⊥;
}
