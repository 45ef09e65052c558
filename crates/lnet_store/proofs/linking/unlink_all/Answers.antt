use Rattle.std.proofs.Common.{◌≡◌, ◌+◌, ◌<◌, length, length-set, get_or, take, false, sym, ap, subst, ◌∙◌, arith}
use Rattle.std.specs.Prelude.{◌⊎◌, ◌↔◌}
use Rattle.lnet_gates.specs.declared.signal.Signal.{Signal}
use Rattle.lnet_chains.specs.Lists.{ChainsValue, Within, list_of, without, without_place}
use Rattle.lnet_store.specs.Fields.{naming}
use Rattle.lnet_store.specs.Linked.{place}
use Rattle.lnet_store.proofs.ChainSteps.{all-slots, all-taken, slot-stands, gone-more, linked-less, counted-less, IsSlotBelow}
use Rattle.lnet_store.proofs.ListSteps.{list-within}
use Rattle.lnet_store.proofs.linking.unlink_all.Goals as goal

abbrev past : Signal
past = record { node = record { 0 = 0 }; complement = false }

pub overflow_mul-slot : goal.overflow_mul-slot
overflow_mul-slot c = let h = c.requires.within in let p = c.requires.places in let r = c.places-places.ensures.count in omega arith

pub unlink-requires : goal.unlink-requires
unlink-requires c = subst (λ x. Within x (list_of c.signals.chains (get_or c.args.signals.now c.signals.signal-index past).node.0)) (sym c.signals.invariant.0)
    (slot-stands c.signals.chains c.args.chains.now c.args.n.0 c.args.signals.now c.signals.signal-index past c.signals-test.true c.requires.linked c.signals.invariant.3)

pub overflow_add-slot : goal.overflow_add-slot
overflow_add-slot c = let h = c.requires.within in let p = c.requires.places in let s = c.signals.invariant.0 in let six = c.requires.six in let t = c.signals-test.true in
    let r = c.places-places.ensures.count in omega arith

pub signals-preserved : goal.signals-preserved
signals-preserved c =
    let s = c.signals.invariant.0 in
    let stands = slot-stands c.signals.chains c.args.chains.now c.args.n.0 c.args.signals.now c.signals.signal-index past c.signals-test.true c.requires.linked c.signals.invariant.3 in
    let node : (get_or c.args.signals.now c.signals.signal-index past).node.0 < length c.signals.chains.lists = list-within c.signals.chains
    (get_or c.args.signals.now c.signals.signal-index past).node.0 (place c.args.n.0 c.signals.signal-index) stands in
    let is : c.unlink.new.self ≡ without_place c.signals.chains (get_or c.args.signals.now c.signals.signal-index past).node.0 (place c.args.n.0 c.signals.signal-index) = c.unlink.ensures
    ∙ ap (without_place c.signals.chains (get_or c.args.signals.now c.signals.signal-index past).node.0) c.signals.invariant.0 in
    let len : length c.unlink.new.self.lists ≡ length c.signals.chains.lists = ap (λ (v : ChainsValue). length v.lists) is
    ∙ length-set c.signals.chains.lists (get_or c.args.signals.now c.signals.signal-index past).node.0
    (without (place c.args.n.0 c.signals.signal-index) (list_of c.signals.chains (get_or c.args.signals.now c.signals.signal-index past).node.0)) in
    let places : c.unlink.new.self.places ≡ c.signals.chains.places = ap (λ (v : ChainsValue). v.places) is in
    let apart = c.places-apart.ensures.apart in (
      omega arith,
      len ∙ c.signals.invariant.1,
      (let p = c.signals.invariant.2 in omega arith),
      λ m p. subst (λ (v : ChainsValue). Within p (list_of c.args.chains.now m) ↔ (Within p (list_of v m) ⊎ IsSlotBelow c.args.n.0 c.args.signals.now (c.signals.signal-index + 1) m p)) (sym is)
          (linked-less c.signals.chains c.args.chains.now c.args.n.0 c.args.signals.now c.signals.signal-index past c.signals-test.true node apart stands c.signals.invariant.3 m p),
      λ m p. subst (λ (v : ChainsValue). Within p (list_of v m) → IsSlotBelow c.args.n.0 c.args.signals.now (c.signals.signal-index + 1) m p → ⊥) (sym is)
          (gone-more c.signals.chains c.args.chains.now c.args.n.0 c.args.signals.now c.signals.signal-index past c.signals-test.true node apart stands c.signals.invariant.4 m p),
      λ m. subst (λ (v : ChainsValue). length (list_of v m) + naming m (take (c.signals.signal-index + 1) c.args.signals.now) ≡ length (list_of c.args.chains.now m)) (sym is)
          (counted-less c.signals.chains c.args.chains.now c.args.n.0 c.args.signals.now c.signals.signal-index past c.signals-test.true node apart stands c.signals.invariant.5 m),
    )

pub returns-clause-named : goal.returns-clause-named
returns-clause-named c m p = all-taken c.args.n.0 c.args.signals.now c.signals.signal-index m p _ _ (let t = c.signals-test.false in omega arith) (c.signals.invariant.3 m p)

pub returns-clause-gone : goal.returns-clause-gone
returns-clause-gone c m p h s = c.signals.invariant.4 m p h (all-slots c.args.n.0 c.args.signals.now c.signals.signal-index m p (let t = c.signals-test.false in omega arith) s)
