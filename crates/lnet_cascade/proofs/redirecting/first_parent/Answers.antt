use Rattle.std.proofs.Common.{sym, subst, inl, refl}
use Rattle.lnet_model.specs.Networks.{entry_at}
use Rattle.lnet_model.specs.Along.{In, fanin_nodes}
use Rattle.lnet_store.specs.StoreValues.{StoreValue, IsOneOf}
use Rattle.lnet_cascade.proofs.Parents.{fan-parent, parent-fan}
use Rattle.lnet_cascade.proofs.redirecting.first_parent.Goals as goal

pub returns-in-Some : goal.returns-in-Some
returns-in-Some c =
    let node = c.args.node.0 in
    subst (λ (s : StoreValue). In c.args.node.0 (fanin_nodes (entry_at s.network c.in-Some.parent.0))) c.look-look.ensures.look
    (fan-parent c.look-look.result.0.network c.args.node.0 c.in-Some.parent.0 c.in-Some.field-0-1
    (c.parents-parents.ensures.each (c.in-Some.parent.0, c.in-Some.field-0-1) (subst (IsOneOf (c.in-Some.parent.0, c.in-Some.field-0-1)) (sym c.in-Some.ensures.given) (inl refl))))

pub returns-in-None : goal.returns-in-None
returns-in-None c m i =
    let t = parent-fan c.look-look.result.0.network c.args.node.0 m (subst (λ (s : StoreValue). In c.args.node.0 (fanin_nodes (entry_at s.network m))) (sym c.look-look.ensures.look) i) in
    subst (IsOneOf (m, t.0)) c.in-None.ensures.given (c.parents-parents.ensures.all (m, t.0) t.1)
