use Rattle.std.proofs.Common.{◌+◌, ◌*◌, arith, ap, sym, ◌∙◌}
use Rattle.lnet_tables.specs.Bits.{equal_rows}
use Rattle.lnet_resyn.specs.Majority.{first_pool, literal_rows}
use Rattle.lnet_resyn.proofs.Columns.{among-next, among-found, among-none}
use Rattle.lnet_resyn.proofs.majority.literal_of.Goals as goal

pub returns-then-eq-clause-value : goal.returns-then-eq-clause-value
returns-then-eq-clause-value c =
    let e = c.vars-vars.ensures.value in
    sym (c.loop-literal.invariant ∙ among-found c.args.table.now (first_pool c.args.table.now.vars) c.loop-literal.literal (2 * (c.args.table.now.vars + 1)) (omega arith) (ap (λ t. equal_rows t c.args.table.now) (ap (λ n. literal_rows n (first_pool n) c.loop-literal.literal) (sym e) ∙ sym c.literal_table.ensures) ∙ sym c.if-eq.ensures.value))

pub loop-literal-preserved : goal.loop-literal-preserved
loop-literal-preserved c =
    let e = c.vars-vars.ensures.value in
    c.loop-literal.invariant ∙ among-next c.args.table.now (first_pool c.args.table.now.vars) c.loop-literal.literal (2 * (c.args.table.now.vars + 1)) (omega arith) (ap (λ t. equal_rows t c.args.table.now) (ap (λ n. literal_rows n (first_pool n) c.loop-literal.literal) (sym e) ∙ sym c.literal_table.ensures) ∙ sym c.if-eq.ensures.value)

pub returns-clause-value : goal.returns-clause-value
returns-clause-value c =
    let e = c.vars-vars.ensures.value in
    sym (c.loop-literal.invariant ∙ among-none c.args.table.now (first_pool c.args.table.now.vars) c.loop-literal.literal (2 * (c.args.table.now.vars + 1)) (omega arith))
