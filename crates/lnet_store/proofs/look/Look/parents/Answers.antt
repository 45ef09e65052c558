use Rattle.std.proofs.Common.{subst, sym}
use Rattle.lnet_model.specs.Fanouts.{fan}
use Rattle.lnet_store.specs.StoreValues.{StoreValue, IsOneOf}
use Rattle.lnet_store.proofs.look.Look.parents.Goals as goal

pub returns-clause-each : goal.returns-clause-each
returns-clause-each c p i = subst (λ (h : StoreValue). IsOneOf p (fan h.network c.args.n.0)) c.self.view_is (c.parents.ensures.each p i)

pub returns-clause-all : goal.returns-clause-all
returns-clause-all c p i = c.parents.ensures.all p (subst (λ (h : StoreValue). IsOneOf p (fan h.network c.args.n.0)) (sym c.self.view_is) i)
