use Rattle.std.proofs.Common.{sym, ap, ◌∙◌}
use Rattle.lnet_edge.specs.Values.{row_holds}
use Rattle.lnet_rules.specs.Rules.{bits_of}
use Rattle.lnet_rules.proofs.CoverLemmas.{cover-found, rows-next, row-length}
use Rattle.lnet_rules.proofs.covering.cover_holds.Goals as goal

pub returns-then-row_holds : goal.returns-then-row_holds
returns-then-row_holds c =
    c.value.ensures ∙ cover-found c.args.cover.now.rows (bits_of c.args.operands c.args.number) c.loop-k.k c.row.result.now c.row.ensures.row c.loop-k.invariant c.args.cover.now.value
    (ap (λ n. row_holds c.row.result.now (bits_of n c.args.number)) (sym (row-length c.args.cover.now.rows c.args.operands c.loop-k.k c.row.result.now c.requires c.row.ensures.row)) ∙ sym c.row_holds.ensures ∙ c.if-row_holds.true)

pub loop-k-preserved : goal.loop-k-preserved
loop-k-preserved c =
    rows-next c.args.cover.now.rows (bits_of c.args.operands c.args.number) c.loop-k.k c.row.result.now c.row.ensures.row c.loop-k.invariant
    (ap (λ n. row_holds c.row.result.now (bits_of n c.args.number)) (sym (row-length c.args.cover.now.rows c.args.operands c.loop-k.k c.row.result.now c.requires c.row.ensures.row)) ∙ sym c.row_holds.ensures ∙ c.if-row_holds.false)
