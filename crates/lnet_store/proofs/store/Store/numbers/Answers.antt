use Rattle.std.proofs.Common.{IsSome, subst, ap, sym}
use Rattle.lnet_model.specs.Dags.{IsStored, NUMBERS}
use Rattle.lnet_store.specs.StoreValues.{StoreValue}
use Rattle.lnet_store.proofs.StoreLemmas.{entry-of}
use Rattle.lnet_store.proofs.store.Store.numbers.Goals as goal
use Rattle.lnet_model.proofs.Numbers.{numbers-by, numbers-at-most, live-below-numbers}

pub returns-clause-value : goal.returns-clause-value
returns-clause-value c =
    let e = entry-of c.self.inside.nodes.nodes c.self.inside.inputs.items c.self.inside.outputs.items c.args.self.now.network (ap (λ (h : StoreValue). h.network) c.self.view_is) in
    numbers-by c.args.self.now.network c.numbers.result (λ n live. c.numbers.ensures.below n (subst IsSome (sym (e n)) live)) (λ n is. subst IsSome (e n) (c.numbers.ensures.top n is))

pub returns-clause-limit : goal.returns-clause-limit
returns-clause-limit c = numbers-at-most c.args.self.now.network NUMBERS (subst IsStored (ap (λ (h : StoreValue). h.network) c.self.view_is) c.self.invariant.0).below

pub returns-clause-within : goal.returns-clause-within
returns-clause-within c = live-below-numbers c.args.self.now.network
