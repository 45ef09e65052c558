use Rattle.std.proofs.Common.{ℕ, refl, ap, ◌∙◌, arith}
use Rattle.lnet_tables.specs.Bits.{bit_of}
use Rattle.lnet_edge.specs.Values.{cover_value}
use Rattle.lnet_rules.specs.Rules.{bits_of}
use Rattle.lnet_rules.proofs.CoverLemmas.{table-step, table-none, byte-bit}
use Rattle.lnet_rules.proofs.covering.table_of.Goals as goal

pub loop-number-init : goal.loop-number-init
loop-number-init c = table-none _

pub overflow_mul-table : goal.overflow_mul-table
overflow_mul-table c =
    let f = λ (r : ℕ). cover_value c.args.cover.now (bits_of c.args.operands r) in
    let h = (table-step f c.loop-number.number c.loop-number.table _ c.loop-number-test.true c.loop-number.auto.number c.loop-number.invariant refl).1 in
    omega arith

pub overflow_add-table : goal.overflow_add-table
overflow_add-table c =
    let f = λ (r : ℕ). cover_value c.args.cover.now (bits_of c.args.operands r) in
    let h = (table-step f c.loop-number.number c.loop-number.table c.from.result c.loop-number-test.true c.loop-number.auto.number c.loop-number.invariant (c.from.ensures ∙ byte-bit c.cover_holds.result ∙ ap bit_of c.cover_holds.ensures)).1 in
    omega arith

pub loop-number-preserved : goal.loop-number-preserved
loop-number-preserved c =
    let f = λ (r : ℕ). cover_value c.args.cover.now (bits_of c.args.operands r) in
    (table-step f c.loop-number.number c.loop-number.table c.from.result c.loop-number-test.true c.loop-number.auto.number c.loop-number.invariant (c.from.ensures ∙ byte-bit c.cover_holds.result ∙ ap bit_of c.cover_holds.ensures)).0
