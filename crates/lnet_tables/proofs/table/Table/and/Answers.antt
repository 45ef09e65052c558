use Rattle.lnet_tables.proofs.Ops.{by_and, zip_fields}
use Rattle.lnet_tables.proofs.table.Table.and.Goals as goal

pub invariant_of-result : goal.invariant_of-result
invariant_of-result c = (zip_fields _ _ by_and _ _ _ _ _ _ c.self.view_is c.other.view_is c.requires c.self.invariant c.other.invariant).0

pub returns : goal.returns
returns c = (zip_fields _ _ by_and _ _ _ _ _ _ c.self.view_is c.other.view_is c.requires c.self.invariant c.other.invariant).1
