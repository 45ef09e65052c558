use Rattle.std.proofs.Common.{List, sym, subst, ◌∙◌}
use Rattle.lnet_gates.specs.declared.signal.Signal.{Signal}
use Rattle.lnet_model.specs.Along.{nodes_read}
use Rattle.lnet_model.specs.Changes.{AreLive}
use Rattle.lnet_rules.proofs.RowLemmas.{literals-live}
use Rattle.lnet_rules.proofs.rows.build_row.Goals as goal

pub fold-requires-clause-live : goal.fold-requires-clause-live
fold-requires-clause-live g c =
    subst (λ (ss : List Signal). AreLive c.args.net.now.core.network (nodes_read ss)) (sym (c.deref.ensures.value ∙ c.in-Ok.ensures))
    (literals-live c.args.net.now.core.network c.args.row.now c.args.operands.now c.requires.live)
