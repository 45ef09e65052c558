use Rattle.std.proofs.Common.{slice_index, ap, ◌∙◌}
use Rattle.lnet_model.specs.Fanouts.{references}
use Rattle.lnet_store.specs.StoreValues.{StoreValue}
use Rattle.lnet_store.specs.Fields.{AreReferences}
use Rattle.lnet_store.proofs.store.Store.refs.Goals as goal

pub returns : goal.returns
unfolding AreReferences
returns c =
    let I = c.self.inside in
    c.count_of.ensures ∙ ap (λ xs. slice_index xs c.args.n.0) c.deref.ensures.value ∙ c.self.invariant.2 c.args.n.0 ∙ ap (λ N. references N c.args.n.0) (ap (λ (h : StoreValue). h.network) c.self.view_is)
