use Rattle.std.proofs.Common.{◌≡◌, map, take}
use Rattle.lnet_npn.specs.Rewiring.{rewired_step}
use Rattle.lnet_npn.proofs.transforms.Transform.on_recipe.Given as goal

abbrev pub invariant-loop-i : goal.invariant-loop-i
invariant-loop-i l = record {
  leaves : l.result.leaves ≡ 4;
  steps : l.result.steps ≡ map (rewired_step l.self) (take l.i l.recipe.steps);
}
