use Rattle.std.proofs.Common.{◌≡◌, length, ap, subst, sym, ◌∙◌}
use Rattle.lnet_model.specs.Dags.{IsStored}
use Rattle.lnet_chains.specs.Lists.{list_of}
use Rattle.lnet_store.specs.StoreValues.{StoreValue, IsOneOf}
use Rattle.lnet_store.specs.Fields.{network_of}
use Rattle.lnet_store.specs.Linked.{AreLinked}
use Rattle.lnet_store.specs.Cursors.{still}
use Rattle.lnet_store.proofs.Cursors.{at-within, linked-len, linked-each, linked-all}
use Rattle.lnet_store.proofs.store.Store.parents.Goals as goal

pub invariant_of-result : goal.invariant_of-result
invariant_of-result c x e = at-within (list_of c.self.inside.chains c.args.n.0) 0 x (sym c.first.ensures ∙ e)

pub returns-clause-len : goal.returns-clause-len
returns-clause-len c =
    let is : network_of c.self.inside.nodes.nodes c.self.inside.inputs.items c.self.inside.outputs.items ≡ c.args.self.now.network = ap (λ (h : StoreValue). h.network) c.self.view_is in
    let stored : IsStored c.args.self.now.network = subst IsStored is c.self.invariant.0 in
    let links : AreLinked c.self.inside.chains c.self.inside.nodes.room c.args.self.now.network = subst (AreLinked c.self.inside.chains c.self.inside.nodes.room) is c.self.invariant.3 in
    ap (λ o. length (still o (list_of c.self.inside.chains c.args.n.0))) c.first.ensures ∙ linked-len c.self.inside.chains c.self.inside.nodes.room c.args.self.now.network c.args.n.0 links stored

pub returns-clause-each : goal.returns-clause-each
returns-clause-each c p i =
    let is : network_of c.self.inside.nodes.nodes c.self.inside.inputs.items c.self.inside.outputs.items ≡ c.args.self.now.network = ap (λ (h : StoreValue). h.network) c.self.view_is in
    let stored : IsStored c.args.self.now.network = subst IsStored is c.self.invariant.0 in
    let links : AreLinked c.self.inside.chains c.self.inside.nodes.room c.args.self.now.network = subst (AreLinked c.self.inside.chains c.self.inside.nodes.room) is c.self.invariant.3 in
    linked-each c.self.inside.chains c.self.inside.nodes.room c.args.self.now.network c.args.n.0 links stored p
    (subst (λ o. IsOneOf p (still o (list_of c.self.inside.chains c.args.n.0))) c.first.ensures i)

pub returns-clause-all : goal.returns-clause-all
returns-clause-all c p i =
    let is : network_of c.self.inside.nodes.nodes c.self.inside.inputs.items c.self.inside.outputs.items ≡ c.args.self.now.network = ap (λ (h : StoreValue). h.network) c.self.view_is in
    let stored : IsStored c.args.self.now.network = subst IsStored is c.self.invariant.0 in
    let links : AreLinked c.self.inside.chains c.self.inside.nodes.room c.args.self.now.network = subst (AreLinked c.self.inside.chains c.self.inside.nodes.room) is c.self.invariant.3 in
    subst (λ o. IsOneOf p (still o (list_of c.self.inside.chains c.args.n.0))) (sym c.first.ensures)
    (linked-all c.self.inside.chains c.self.inside.nodes.room c.args.self.now.network c.args.n.0 links stored p i)
