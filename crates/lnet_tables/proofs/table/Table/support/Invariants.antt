use Rattle.std.proofs.Common.{◌≡◌}
use Rattle.lnet_tables.specs.Bits.{depends_on, number_by}
use Rattle.lnet_tables.proofs.table.Table.support.Given as goal

abbrev pub invariant-loop-index : goal.invariant-loop-index
invariant-loop-index l = l.mask ≡ number_by (depends_on l.self) l.index
