use Rattle.std.proofs.Common.{◌≡◌, ◌+◌, ◌∷◌, false, length, map}
use Rattle.std.specs.List.{range_with_len}
use Rattle.lnet_tables.specs.Bits.{constant_rows, variable_rows}
use Rattle.lnet_resyn.specs.Majority.{words_rows}
use Rattle.lnet_resyn.proofs.majority.first_columns.Given as goal

abbrev pub invariant-loop-i : goal.invariant-loop-i
invariant-loop-i l = record {
  value : words_rows l.vars l.pool.items ≡ constant_rows l.vars false ∷ map (variable_rows l.vars) (range_with_len 0 l.i);
  count : length l.pool.items ≡ l.i + 1;
}
