use Rattle.std.proofs.Common.{◌≡◌, slice_get, subst, ap, ◌∙◌, arith}
use Rattle.std.proofs.lemmas.Grind.{common_steps}
use Rattle.std.proofs.lemmas.Option.{gets}
use Rattle.lnet_model.specs.Dags.{IsStored}
use Rattle.lnet_store.specs.StoreValues.{StoreValue}
use Rattle.lnet_store.proofs.StoreLemmas.{outputs-of, output-live}
use Rattle.lnet_store.proofs.store.Store.output.Goals as goal

pub returns-clause-value : goal.returns-clause-value
returns-clause-value c =
    let here : c.copied.result ≡ slice_get c.self.inside.outputs.items c.args.k = grind (arith, common_steps, gets) in
    here ∙ ap (λ xs. slice_get xs c.args.k) (outputs-of c.self.inside.nodes.nodes c.self.inside.inputs.items c.self.inside.outputs.items c.args.self.now.network (ap (λ (h : StoreValue). h.network) c.self.view_is))

pub returns-clause-live : goal.returns-clause-live
returns-clause-live c =
    let here : c.copied.result ≡ slice_get c.self.inside.outputs.items c.args.k = grind (arith, common_steps, gets) in
    output-live c.args.self.now.network c.args.k c.copied.result (subst IsStored (ap (λ (h : StoreValue). h.network) c.self.view_is) c.self.invariant.0) (here ∙ ap (λ xs. slice_get xs c.args.k) (outputs-of c.self.inside.nodes.nodes c.self.inside.inputs.items c.self.inside.outputs.items c.args.self.now.network (ap (λ (h : StoreValue). h.network) c.self.view_is)))
