use Rattle.std.proofs.Common.{◌<◌, arith}
use Rattle.lnet_model.specs.Cuts.{bit_of_leaf}
use Rattle.lnet_cuts.proofs.TableRows.{cut-few, cut-inside, byte-small}
use Rattle.lnet_cuts.proofs.tabling.cut_row.Goals as goal

pub overflow_mul-at : goal.overflow_mul-at
overflow_mul-at c = let h : c.loop-i.at < 256 = cut-few (bit_of_leaf c.args.row c.args.all.now) c.args.leaves.now c.loop-i.i c.loop-i.at c.requires.leaves c.loop-i.invariant.value in
    record { fits = omega arith }

pub overflow_add-at : goal.overflow_add-at
overflow_add-at c = let h : c.loop-i.at < 256 = cut-few (bit_of_leaf c.args.row c.args.all.now) c.args.leaves.now c.loop-i.i c.loop-i.at c.requires.leaves c.loop-i.invariant.value in
    record { fits = omega (arith, byte-small c.leaf_bit.result, c.from.ensures) }

pub returns-clause-inside : goal.returns-clause-inside
returns-clause-inside c = cut-inside (bit_of_leaf c.args.row c.args.all.now) c.args.leaves.now c.loop-i.i c.loop-i.at c.loop-i-test.false c.loop-i.invariant.value

pub returns-clause-few : goal.returns-clause-few
returns-clause-few c = cut-few (bit_of_leaf c.args.row c.args.all.now) c.args.leaves.now c.loop-i.i c.loop-i.at c.requires.leaves c.loop-i.invariant.value
