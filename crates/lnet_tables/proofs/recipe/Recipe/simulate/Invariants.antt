use Rattle.std.proofs.Common.{◌≡◌, ◌+◌, take, length}
use Rattle.lnet_tables.specs.WholeTables.{AllOf, run_rows, leaf_rows}
use Rattle.lnet_tables.proofs.recipe.Recipe.simulate.Given as goal

abbrev pub invariant-loop-step : goal.invariant-loop-step
invariant-loop-step l =
    (l.tables.items ≡ run_rows (take l.step-index l.self-inside.steps.items) (leaf_rows l.self-inside.leaves))
    × (length l.tables.items ≡ l.self-inside.leaves + 1 + l.step-index)
    × AllOf l.self-inside.leaves l.tables.items
