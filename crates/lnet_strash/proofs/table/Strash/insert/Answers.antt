use Rattle.std.proofs.Common.{◌≡◌, ◌<◌, None, length, sym, ap, subst, ◌∙◌}
use Rattle.lnet_strash.specs.Standing.{Standing, KeysDiffer, at, entry}
use Rattle.lnet_strash.proofs.Entries.{is-absent}
use Rattle.lnet_strash.proofs.EntryChanges.{stands-nowhere, entry-inserted, entries-inserted}
use Rattle.lnet_strash.proofs.table.Strash.insert.Goals as goal

pub insert-requires-clause-free : goal.insert-requires-clause-free
insert-requires-clause-free c =
    stands-nowhere c.self.inside.chains.standing.items c.self.invariant.differ c.args.n (λ k p e. c.requires.free k p (ap (λ t. entry t k) (sym c.self.view_is) ∙ e))

pub insert-requires-clause-absent : goal.insert-requires-clause-absent
insert-requires-clause-absent c =
    is-absent c.self.inside.chains.standing.items c.self.invariant.differ c.args.key (ap (λ t. entry t c.args.key) c.self.view_is ∙ c.requires.absent)

pub returns-clause-inserted : goal.returns-clause-inserted
returns-clause-inserted c =
    let t : Standing = c.self.inside.chains.standing.items in
    let inside : c.args.n.0 < length t = subst (λ z. c.args.n.0 < length z) (sym c.self.view_is) c.requires.room in
    ap (λ z. entry z c.args.key) c.insert.ensures.standing ∙ entry-inserted t c.args.n.0 c.args.key c.args.phase inside (subst KeysDiffer c.insert.ensures.standing c.insert.ensures.table.differ)

pub returns-clause-others : goal.returns-clause-others
returns-clause-others c = λ k ne.
    let t : Standing = c.self.inside.chains.standing.items in
    let inside : c.args.n.0 < length t = subst (λ z. c.args.n.0 < length z) (sym c.self.view_is) c.requires.room in
    let free : at t c.args.n.0 ≡ None = stands-nowhere t c.self.invariant.differ c.args.n (λ j p e. c.requires.free j p (ap (λ z. entry z j) (sym c.self.view_is) ∙ e)) in
    ap (λ z. entry z k) c.insert.ensures.standing ∙ entries-inserted t c.args.n.0 c.args.key c.args.phase inside (subst KeysDiffer c.insert.ensures.standing c.insert.ensures.table.differ) c.self.invariant.differ free k ne ∙ ap (λ z. entry z k) c.self.view_is
