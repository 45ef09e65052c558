use Rattle.std.proofs.Common.{sym, ap, ◌∙◌}
use Rattle.lnet_strash.specs.Standing.{entry}
use Rattle.lnet_strash.proofs.Entries.{entry-like}
use Rattle.lnet_strash.proofs.table.Strash.reserve.Goals as goal

pub returns-clause-entries : goal.returns-clause-entries
returns-clause-entries c = λ k.
    entry-like c.reserve.new.self.standing.items c.self.inside.chains.standing.items c.reserve.ensures.table.differ c.self.invariant.differ k
    (λ n p e. sym (c.reserve.ensures.standing n) ∙ e) (λ n p e. c.reserve.ensures.standing n ∙ e)
    ∙ ap (λ t. entry t k) c.self.view_is
