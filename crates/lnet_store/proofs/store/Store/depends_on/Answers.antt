use Rattle.std.proofs.Common.{◌≡◌, ◌↔◌, IsTrue, IsSome, subst, ap, sym, ◌∙◌}
use Rattle.std.specs.FinMap.{get}
use Rattle.lnet_model.specs.Networks.{entry_at}
use Rattle.lnet_model.specs.Along.{In}
use Rattle.lnet_model.specs.Dags.{IsStored}
use Rattle.lnet_store.specs.StoreValues.{StoreValue}
use Rattle.lnet_store.specs.Fields.{network_of, AreReferences}
use Rattle.lnet_store.proofs.StoreLemmas.{entry-of}
use Rattle.lnet_store.proofs.store.Store.depends_on.Goals as goal
use Rattle.std.proofs.Common.{true, false}
use Rattle.lnet_model.specs.Along.{fanin_nodes}
use Rattle.lnet_store.specs.Search.{Comes}
use Rattle.lnet_store.proofs.SearchLemmas.{start-live}

pub returns-then-not-is_live-clause-answer : goal.returns-then-not-is_live-clause-answer
returns-then-not-is_live-clause-answer c =
    let I = c.self.inside in
    let is : network_of c.self.inside.nodes.nodes c.self.inside.inputs.items c.self.inside.outputs.items ≡ c.args.self.now.network = ap (λ (h : StoreValue). h.network) c.self.view_is in
    let stored : IsStored c.args.self.now.network = subst IsStored is c.self.invariant.0 in
    let refs : AreReferences c.self.inside.counts.items c.args.self.now.network = subst (AreReferences c.self.inside.counts.items) is c.self.invariant.2 in
    let room = c.self.invariant.1 in (
      λ f. absurd (let z : false ≡ true = f in cc),
      λ d. (let live = c.is_live.ensures.1 (subst IsSome (sym (entry-of c.self.inside.nodes.nodes c.self.inside.inputs.items c.self.inside.outputs.items c.args.self.now.network is c.args.s.node.0)) (start-live (entry_at c.args.self.now.network) c.args.s.node.0 c.args.n.0 d)) in let z : false ≡ true = sym c.if-not-is_live.true ∙ live in z),
    )

pub search-found-requires-clause-closed : goal.search-found-requires-clause-closed
search-found-requires-clause-closed c n m i =
    let I = c.self.inside in
    let is : network_of c.self.inside.nodes.nodes c.self.inside.inputs.items c.self.inside.outputs.items ≡ c.args.self.now.network = ap (λ (h : StoreValue). h.network) c.self.view_is in
    let stored : IsStored c.args.self.now.network = subst IsStored is c.self.invariant.0 in
    let refs : AreReferences c.self.inside.counts.items c.args.self.now.network = subst (AreReferences c.self.inside.counts.items) is c.self.invariant.2 in
    let room = c.self.invariant.1 in
    subst IsSome (sym (entry-of c.self.inside.nodes.nodes c.self.inside.inputs.items c.self.inside.outputs.items c.args.self.now.network is m)) (stored.dag.closed n m (subst (λ o. In m (fanin_nodes o)) (entry-of c.self.inside.nodes.nodes c.self.inside.inputs.items c.self.inside.outputs.items c.args.self.now.network is n) i))

pub returns-clause-answer : goal.returns-clause-answer
returns-clause-answer c =
    let I = c.self.inside in
    let is : network_of c.self.inside.nodes.nodes c.self.inside.inputs.items c.self.inside.outputs.items ≡ c.args.self.now.network = ap (λ (h : StoreValue). h.network) c.self.view_is in
    let stored : IsStored c.args.self.now.network = subst IsStored is c.self.invariant.0 in
    let refs : AreReferences c.self.inside.counts.items c.args.self.now.network = subst (AreReferences c.self.inside.counts.items) is c.self.invariant.2 in
    let room = c.self.invariant.1 in
    let same : get I.nodes.nodes ≡ entry_at c.args.self.now.network = λ i n. entry-of c.self.inside.nodes.nodes c.self.inside.inputs.items c.self.inside.outputs.items c.args.self.now.network is n i in
    subst (λ g. IsTrue c.search-found.result ↔ Comes g c.args.s.node.0 c.args.n.0) same c.search-found.ensures.answer
