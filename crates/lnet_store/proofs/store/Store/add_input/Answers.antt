use Rattle.std.proofs.Common.{ap, sym, ◌∙◌}
use Rattle.lnet_model.specs.Networks.{NetworkValue}
use Rattle.lnet_model.specs.Changes.{without}
use Rattle.lnet_store.specs.StoreValues.{with_input}
use Rattle.lnet_store.proofs.ChangeLemmas.{input-was}
use Rattle.lnet_store.proofs.store.Store.add_input.Goals as goal

pub returns-in-Ok-clause-was : goal.returns-in-Ok-clause-was
returns-in-Ok-clause-was c =
    let net = c.place_input.ensures.network ∙ ap (λ M. with_input M c.in-Ok.n.0) c.in-Ok.ensures.network in
    ap (λ M. without M c.in-Ok.n.0) net ∙ input-was c.args.self.now.network c.in-Ok.n.0 c.in-Ok.ensures.number.free ∙ ap (λ (M : NetworkValue). record c.args.self.now.network { inputs = M.inputs }) (sym net)
