use Rattle.std.proofs.Common.{◌-◌, arith, ap, sym, ◌∙◌}
use Rattle.lnet_resyn.specs.Majority.{column, first_pool}
use Rattle.lnet_resyn.proofs.Columns.{column-none, column-some}
use Rattle.lnet_resyn.proofs.majority.column_table.Goals as goal

pub returns-then-place-eq0-clause-value : goal.returns-then-place-eq0-clause-value
returns-then-place-eq0-clause-value c =
    c.constant.ensures ∙ sym (column-none c.args.vars) ∙ ap (column c.args.vars (first_pool c.args.vars)) (sym c.if-place-eq0.true)

pub returns-else-place-eq0-clause-value : goal.returns-else-place-eq0-clause-value
returns-else-place-eq0-clause-value c =
    let some = c.if-place-eq0.false in
    let inside = c.requires.inside in
    c.variable.ensures ∙ sym (column-some c.args.vars c.args.place (c.args.place - 1) (omega arith) (omega arith))
