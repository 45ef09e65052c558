use Rattle.std.proofs.Common.{◌∙◌, None, length, set, length-set, sym, ap, subst}
use Rattle.std.specs.Prelude.{IsSome}
use Rattle.lnet_strash.specs.Standing.{Standing, KeysDiffer, entry}
use Rattle.lnet_strash.proofs.Entries.{at-entry}
use Rattle.lnet_strash.proofs.EntryChanges.{entry-present, entry-removed, entries-removed}
use Rattle.lnet_strash.proofs.table.Strash.remove.Goals as goal

pub returns-clause-standing : goal.returns-clause-standing
returns-clause-standing c = λ n p e.
    let stands = at-entry c.self.inside.chains.standing.items c.args.key.now n p (ap (λ t. entry t c.args.key.now) c.self.view_is ∙ e) in
    c.remove.ensures.standing n.0 (p, stands) ∙ ap (λ (t : Standing). set t n.0 None) c.self.view_is

pub returns-clause-removed : goal.returns-clause-removed
returns-clause-removed c =
    let t : Standing = c.self.inside.chains.standing.items in
    let was = entry-present t c.args.key.now (subst (λ z. IsSome (entry z c.args.key.now)) (sym c.self.view_is) c.requires.present) in
    let stands = at-entry t c.args.key.now was.0 was.1 was.2 in
    ap (λ z. entry z c.args.key.now) (c.remove.ensures.standing was.0.0 (was.1, stands)) ∙ entry-removed t was.0.0 c.args.key.now was.1 c.self.invariant.differ stands

pub returns-clause-others : goal.returns-clause-others
returns-clause-others c = λ k ne.
    let t : Standing = c.self.inside.chains.standing.items in
    let was = entry-present t c.args.key.now (subst (λ z. IsSome (entry z c.args.key.now)) (sym c.self.view_is) c.requires.present) in
    let stands = at-entry t c.args.key.now was.0 was.1 was.2 in
    let now = c.remove.ensures.standing was.0.0 (was.1, stands) in
    ap (λ z. entry z k) now ∙ entries-removed t was.0.0 c.args.key.now was.1 c.self.invariant.differ stands (subst KeysDiffer now c.remove.ensures.table.differ) k ne ∙ ap (λ z. entry z k) c.self.view_is

pub returns-clause-room : goal.returns-clause-room
returns-clause-room c =
    let was = entry-present c.args.self.now c.args.key.now c.requires.present in
    ap (λ (t : Standing). length t) (returns-clause-standing c was.0 was.1 was.2) ∙ length-set c.args.self.now was.0.0 None
