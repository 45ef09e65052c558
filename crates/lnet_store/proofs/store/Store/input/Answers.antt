use Rattle.std.proofs.Common.{◌≡◌, slice_get, ap, sym, ◌∙◌, arith}
use Rattle.std.proofs.lemmas.Grind.{common_steps}
use Rattle.std.proofs.lemmas.Option.{gets, slice_get-map}
use Rattle.std.specs.Option.{option_map}
use Rattle.lnet_gates.specs.declared.signal.Node.{Node}
use Rattle.lnet_store.specs.StoreValues.{StoreValue}
use Rattle.lnet_store.proofs.StoreLemmas.{inputs-of}
use Rattle.lnet_store.proofs.store.Store.input.Goals as goal

pub returns : goal.returns
returns c =
    let here : c.copied.result ≡ slice_get c.self.inside.inputs.items c.args.k = grind (arith, common_steps, gets) in
    ap (λ o. option_map (λ (n : Node). n.0) o) here ∙ sym (slice_get-map (λ (n : Node). n.0) c.self.inside.inputs.items c.args.k) ∙ ap (λ xs. slice_get xs c.args.k) (inputs-of c.self.inside.nodes.nodes c.self.inside.inputs.items c.self.inside.outputs.items c.args.self.now.network (ap (λ (h : StoreValue). h.network) c.self.view_is))
