use Rattle.std.proofs.Common.{◌≡◌, ◌+◌, [], ◌∷◌, ap, sym, ◌∙◌}
use Rattle.lnet_chains.specs.Lists.{list_of}
use Rattle.lnet_store.specs.StoreValues.{ParentsLeft}
use Rattle.lnet_store.specs.Cursors.{still, slot_at}
use Rattle.lnet_store.proofs.Cursors.{at-within, stands-at, still-some}
use Rattle.lnet_store.proofs.look.Parents.next.Goals as goal

pub invariant_of-self : goal.invariant_of-self
invariant_of-self c x e =
    let t = stands-at (list_of c.self.inside.chains.now c.self.inside.node.0) c.in_ok-place.place (c.self.invariant c.in_ok-place.place c.in_ok-place.was) in
    at-within (list_of c.self.inside.chains.now c.self.inside.node.0) (t.0 + 1) x (sym (c.next-self-inside.ensures c.self.inside.node.0 t.0 t.1) ∙ e)

pub returns-clause-given : goal.returns-clause-given
returns-clause-given c =
    let t = stands-at (list_of c.self.inside.chains.now c.self.inside.node.0) c.in_ok-place.place (c.self.invariant c.in_ok-place.place c.in_ok-place.was) in
    sym (ap (λ (h : ParentsLeft). h.rest) c.self.view_is)
    ∙ ap (λ o. still o (list_of c.self.inside.chains.now c.self.inside.node.0)) c.in_ok-place.was
    ∙ still-some (list_of c.self.inside.chains.now c.self.inside.node.0) t.0 c.in_ok-place.place (c.places-apart.ensures.apart.distinct c.self.inside.node.0) t.1
    ∙ ap (λ o. slot_at c.in_ok-place.place ∷ still o (list_of c.self.inside.chains.now c.self.inside.node.0)) (sym (c.next-self-inside.ensures c.self.inside.node.0 t.0 t.1))

pub returns-clause-ended : goal.returns-clause-ended
returns-clause-ended c e = let z : [] ≡ slot_at c.in_ok-place.place ∷ _ = sym e ∙ returns-clause-given c in cc
