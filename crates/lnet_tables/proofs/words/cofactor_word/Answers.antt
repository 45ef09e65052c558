use Rattle.std.proofs.Common.{ℕ}
use Rattle.lnet_tables.proofs.WordBits.{cofactor_low, cofactor_high, distance_is, distance_fits}
use Rattle.lnet_tables.proofs.words.cofactor_word.Goals as goal
use Rattle.lnet_tables.proofs.words.cofactor_word.Goals.{then-value, else-value}

pub overflow_shr-moved : goal.overflow_shr-moved
overflow_shr-moved c = distance_fits c.args.index c.requires

pub overflow_shl-result : goal.overflow_shl-result
overflow_shl-result c = distance_fits c.args.index c.requires

pub returns : goal.returns
returns c = λ r lt.
    let m : ℕ = c.low_rows.result in
    elim c.if-value.branch [
      | then-value w ↦
          rw (distance_is c.args.index c.requires, w.moved-is, distance_is c.args.index c.requires, w.if-value.true)
          (cofactor_high c.args.word m c.args.index r lt c.low_rows.ensures)
      | else-value w ↦
          rw (distance_is c.args.index c.requires, w.moved-is, w.if-value.false)
          (cofactor_low c.args.word m c.args.index r lt c.low_rows.ensures)
    ]
