use Rattle.std.proofs.Common.{◌≡◌, ◌∙◌, ◌^◌, sym, ap, length, arith}
use Rattle.std.proofs.lemmas.Nat.{one_shl}
use Rattle.lnet_tables.specs.Bits.{row}
use Rattle.lnet_cuts.proofs.TableRows.{lower-none, lower-same, lower-differ, table-lower, beq-not, beq-same}
use Rattle.lnet_cuts.proofs.tabling.is_lower.Goals as goal
use Rattle.lnet_cuts.proofs.tabling.is_lower.Goals.{then-bit, else-bit}

pub loop-row-init : goal.loop-row-init
loop-row-init c = lower-none (row c.args.c.now.table) (row c.args.d.now.table)

pub loop-row-preserved : goal.loop-row-preserved
loop-row-preserved c = elim c.if-bit.branch [
  | then-bit w ↦ w.lower-is ∙ lower-differ (row c.args.c.now.table) (row c.args.d.now.table) c.loop-row.row c.bit.result c.bit-bit.result (sym c.bit.ensures) (sym c.bit-bit.ensures)
      (beq-not c.bit.result c.bit-bit.result w.if-bit.true)
  | else-bit w ↦ w.lower-is ∙ lower-same (row c.args.c.now.table) (row c.args.d.now.table) c.loop-row.row c.loop-row.lower c.loop-row.invariant (sym c.bit.ensures
      ∙ beq-same c.bit.result c.bit-bit.result w.if-bit.false ∙ c.bit-bit.ensures)
]

pub returns : goal.returns
returns c =
    let n = length c.leaves.result.now in
    let e : c.loop-row.row ≡ 2 ^ n = omega (arith, one_shl n 64 (omega (arith, c.leaves.ensures.few)), c.loop-row-test.false, c.loop-row.auto.row-end) in
    let v : c.args.c.now.table.vars ≡ n = c.leaves.ensures.vars ∙ sym (ap length c.leaves.ensures.value) in
    table-lower c.args.c.now.table c.args.d.now.table c.loop-row.row n c.loop-row.lower v (sym c.requires.vars ∙ v) e c.loop-row.invariant
