use Rattle.std.proofs.Common.{◌≡◌, ◌≤◌}
use Rattle.lnet_tables.specs.Kept.{places, rank, padded}
use Rattle.lnet_tables.proofs.rows.set_places.Given as goal

abbrev pub invariant-loop-index : goal.invariant-loop-index
invariant-loop-index l = record { value : l.out ≡ padded (places l.support l.index); count : l.kept ≡ rank l.support l.index; few : l.kept ≤ l.index }
