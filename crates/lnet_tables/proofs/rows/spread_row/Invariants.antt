use Rattle.std.proofs.Common.{◌≡◌, ◌≤◌}
use Rattle.lnet_tables.specs.Kept.{rank, spread}
use Rattle.lnet_tables.proofs.rows.spread_row.Given as goal

abbrev pub invariant-loop-index : goal.invariant-loop-index
invariant-loop-index l = record { value : l.out ≡ spread l.row l.support l.index; count : l.kept ≡ rank l.support l.index; few : l.kept ≤ l.index }
