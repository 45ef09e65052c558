use Rattle.std.proofs.Common.{◌≡◌, ◌+◌, ◌<◌, ◌∷◌, length, length-set, get_or, take, false, sym, ap, subst, ◌∙◌, inl, inr, arith}
use Rattle.std.specs.Prelude.{◌⊎◌, ◌↔◌}
use Rattle.lnet_gates.specs.declared.signal.Signal.{Signal}
use Rattle.lnet_chains.specs.Lists.{ChainsValue, Within, list_of, with_first}
use Rattle.lnet_store.specs.Fields.{naming}
use Rattle.lnet_store.specs.Linked.{place}
use Rattle.lnet_store.proofs.CountLemmas.{read-In}
use Rattle.lnet_store.proofs.ChainSteps.{slot-apart, all-taken, linked-more, counted-more, IsSlotBelow}
use Rattle.lnet_store.proofs.linking.link_all.Goals as goal

abbrev past : Signal
past = record { node = record { 0 = 0 }; complement = false }

pub overflow_mul-slot : goal.overflow_mul-slot
overflow_mul-slot c = let h = c.requires.within in let p = c.requires.places in let r = c.places-places.ensures.count in omega arith

pub push-requires-clause-node : goal.push-requires-clause-node
push-requires-clause-node c =
    let h = c.requires.known (get_or c.args.signals.now c.signals.signal-index past).node.0 (read-In c.args.signals.now c.signals.signal-index past c.signals-test.true) in
    omega (arith, c.signals.invariant.1)

pub push-requires-clause-absent : goal.push-requires-clause-absent
push-requires-clause-absent c m h =
    let six = c.requires.six in
    let t = c.signals-test.true in
    elim ((c.signals.invariant.3 m c.signals.slot).0 h) as (λ _. ⊥) [
      | inl a ↦ c.requires.absent m c.signals.signal-index (omega arith) (subst (λ x. Within x (list_of c.args.chains.now m)) c.signals.invariant.0 a)
      | inr b ↦ slot-apart c.args.n.0 c.args.signals.now c.signals.signal-index m c.signals.slot c.signals.invariant.0 b
    ]

pub overflow_add-slot : goal.overflow_add-slot
overflow_add-slot c = let h = c.requires.within in let p = c.requires.places in let s = c.signals.invariant.0 in let six = c.requires.six in let t = c.signals-test.true in
    let r = c.places-places.ensures.count in omega arith

pub signals-preserved : goal.signals-preserved
signals-preserved c =
    let s = c.signals.invariant.0 in
    let known = c.requires.known (get_or c.args.signals.now c.signals.signal-index past).node.0 (read-In c.args.signals.now c.signals.signal-index past c.signals-test.true) in
    let node : (get_or c.args.signals.now c.signals.signal-index past).node.0 < length c.signals.chains.lists = omega (arith, c.signals.invariant.1) in
    let is : c.push.new.self ≡ with_first c.signals.chains (get_or c.args.signals.now c.signals.signal-index past).node.0 (place c.args.n.0 c.signals.signal-index) = c.push.ensures
    ∙ ap (with_first c.signals.chains (get_or c.args.signals.now c.signals.signal-index past).node.0) c.signals.invariant.0 in
    let len : length c.push.new.self.lists ≡ length c.signals.chains.lists = ap (λ (v : ChainsValue). length v.lists) is
    ∙ length-set c.signals.chains.lists (get_or c.args.signals.now c.signals.signal-index past).node.0
    (place c.args.n.0 c.signals.signal-index ∷ list_of c.signals.chains (get_or c.args.signals.now c.signals.signal-index past).node.0) in
    let places : c.push.new.self.places ≡ c.signals.chains.places = ap (λ (v : ChainsValue). v.places) is in (
      omega arith,
      len ∙ c.signals.invariant.1,
      (let p = c.signals.invariant.2 in omega arith),
      λ m p. subst (λ (v : ChainsValue). Within p (list_of v m) ↔ (Within p (list_of c.args.chains.now m) ⊎ IsSlotBelow c.args.n.0 c.args.signals.now (c.signals.signal-index + 1) m p)) (sym is)
          (linked-more c.signals.chains c.args.chains.now c.args.n.0 c.args.signals.now c.signals.signal-index past c.signals-test.true node c.signals.invariant.3 m p),
      λ m. subst (λ (v : ChainsValue). length (list_of v m) ≡ length (list_of c.args.chains.now m) + naming m (take (c.signals.signal-index + 1) c.args.signals.now)) (sym is)
          (counted-more c.signals.chains c.args.chains.now c.args.n.0 c.args.signals.now c.signals.signal-index past c.signals-test.true node c.signals.invariant.4 m),
    )

pub returns-clause-named : goal.returns-clause-named
returns-clause-named c m p = all-taken c.args.n.0 c.args.signals.now c.signals.signal-index m p _ _ (let t = c.signals-test.false in omega arith) (c.signals.invariant.3 m p)
