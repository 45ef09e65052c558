use Rattle.std.proofs.Common.{refl}
use Rattle.lnet_tables.specs.Bits.{depends_on}
use Rattle.lnet_tables.proofs.table.Table.cofactors_differ.Goals as goal

pub returns : goal.returns
unfolding depends_on
returns c = rw (c.ne.ensures, c.cofactor.ensures, c.cofactor-2.ensures) refl
