use Rattle.std.proofs.Common.{ap, ◌∙◌}
use Rattle.lnet_model.specs.Networks.{IsGate}
use Rattle.lnet_model.specs.Changes.{with_entry, without}
use Rattle.lnet_model.proofs.Stored.{take_back}
use Rattle.lnet_store.proofs.store.Store.add.Goals as goal

pub returns-in-Ok-clause-was : goal.returns-in-Ok-clause-was
returns-in-Ok-clause-was c = ap (λ M. without M c.in-Ok.n.0) (c.place.ensures.network ∙ ap (λ M. with_entry M c.in-Ok.n.0 (IsGate c.args.gate)) c.in-Ok.ensures.network) ∙ take_back c.args.self.now.network c.in-Ok.n.0 (IsGate c.args.gate) c.in-Ok.ensures.number.free
