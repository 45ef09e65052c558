use Rattle.std.proofs.Common.{◌≡◌, ◌∷◌, map, false}
use Rattle.std.specs.List.{range_with_len}
use Rattle.lnet_tables.specs.Bits.{constant_rows, variable_rows}
use Rattle.lnet_tables.proofs.recipe.leaf_tables.Given as goal

abbrev pub invariant-loop-i : goal.invariant-loop-i
invariant-loop-i l = l.tables.items ≡ constant_rows l.leaves false ∷ map (variable_rows l.leaves) (range_with_len 0 l.i)
