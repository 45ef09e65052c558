use Rattle.std.proofs.Common.{refl, ◌<◌, arith, true}
use Rattle.lnet_tables.specs.Bits.{with_bit}
use Rattle.lnet_tables.proofs.RowNumbers.{put_fits, put_is, one_is}
use Rattle.lnet_tables.proofs.rows.with_bit.Goals as goal

pub returns-then-value-clause-value : goal.returns-then-value-clause-value
unfolding with_bit
returns-then-value-clause-value c =
    let lt : c.args.index < 10 = omega arith in
    rw (c.if-value.true, put_is c.args.row c.args.index true lt, one_is c.args.index lt) refl

pub returns-then-value-clause-inside : goal.returns-then-value-clause-inside
unfolding with_bit
returns-then-value-clause-inside c =
    let lt : c.args.index < 10 = omega arith in
    rw (put_is c.args.row c.args.index true lt, one_is c.args.index lt) (put_fits c.args.row c.args.index c.args.vars c.requires.inside c.requires.row true)

pub returns-else-value-clause-value : goal.returns-else-value-clause-value
unfolding with_bit
returns-else-value-clause-value c =
    rw (c.if-value.false, put_is c.args.row c.args.index true (omega arith)) (omega arith)
