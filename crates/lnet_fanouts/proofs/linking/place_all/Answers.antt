use Rattle.std.proofs.Common.{◌≡◌, ◌+◌, ◌<◌, length, length-set, get_or, false, subst, sym, ap, ◌∙◌, inl, inr, arith}
use Rattle.std.specs.Prelude.{◌⊎◌, ◌↔◌}
use Rattle.lnet_gates.specs.declared.signal.Signal.{Signal}
use Rattle.lnet_chains.specs.Lists.{ChainsValue, Within, list_of}
use Rattle.lnet_pools.specs.Ascending.{put_in, with_place}
use Rattle.lnet_store.specs.Linked.{place}
use Rattle.lnet_store.proofs.CountLemmas.{read-In}
use Rattle.lnet_store.proofs.ChainSteps.{slot-apart, all-taken, IsSlotBelow}
use Rattle.lnet_fanouts.proofs.SlotLemmas.{placed-more}
use Rattle.lnet_fanouts.proofs.linking.place_all.Goals as goal

abbrev past : Signal
past = record { node = record { 0 = 0 }; complement = false }

pub overflow_mul-slot : goal.overflow_mul-slot
overflow_mul-slot c = let h = c.requires.within in let p = c.requires.places in let r = c.places-places.ensures.count in omega arith

pub insert-requires-clause-node : goal.insert-requires-clause-node
insert-requires-clause-node c =
    let h = c.requires.known (get_or c.args.signals.now c.signals.signal-index past).node.0 (read-In c.args.signals.now c.signals.signal-index past c.signals-test.true) in
    omega (arith, c.signals.invariant.len)

pub insert-requires-clause-place : goal.insert-requires-clause-place
insert-requires-clause-place c =
    let h = c.requires.within in
    let s = c.signals.invariant.slot in
    let l = c.signals.invariant.len in
    let p = c.signals.invariant.places in
    let q = c.requires.places in
    let six = c.requires.six in
    let t = c.signals-test.true in
    omega arith

pub insert-requires-clause-absent : goal.insert-requires-clause-absent
insert-requires-clause-absent c m h =
    let six = c.requires.six in
    let t = c.signals-test.true in
    elim ((c.signals.invariant.named m c.signals.slot).0 h) as (λ _. ⊥) [
      | inl a ↦ c.requires.absent m c.signals.signal-index (omega arith) (subst (λ x. Within x (list_of c.args.pool.now m)) c.signals.invariant.slot a)
      | inr b ↦ slot-apart c.args.n.0 c.args.signals.now c.signals.signal-index m c.signals.slot c.signals.invariant.slot b
    ]

pub overflow_add-slot : goal.overflow_add-slot
overflow_add-slot c = let h = c.requires.within in let p = c.requires.places in let s = c.signals.invariant.slot in let six = c.requires.six in let t = c.signals-test.true in
    let r = c.places-places.ensures.count in omega arith

pub signals-preserved : goal.signals-preserved
signals-preserved c =
    let s = c.signals.invariant.slot in
    let known = c.requires.known (get_or c.args.signals.now c.signals.signal-index past).node.0 (read-In c.args.signals.now c.signals.signal-index past c.signals-test.true) in
    let node : (get_or c.args.signals.now c.signals.signal-index past).node.0 < length c.signals.pool.lists = omega (arith, c.signals.invariant.len) in
    let is : c.insert.new.self ≡ with_place c.signals.pool (get_or c.args.signals.now c.signals.signal-index past).node.0 (place c.args.n.0 c.signals.signal-index) = c.insert.ensures
    ∙ ap (with_place c.signals.pool (get_or c.args.signals.now c.signals.signal-index past).node.0) c.signals.invariant.slot in
    let len : length c.insert.new.self.lists ≡ length c.signals.pool.lists = ap (λ (v : ChainsValue). length v.lists) is
    ∙ length-set c.signals.pool.lists (get_or c.args.signals.now c.signals.signal-index past).node.0
    (put_in (place c.args.n.0 c.signals.signal-index) (list_of c.signals.pool (get_or c.args.signals.now c.signals.signal-index past).node.0)) in
    let places : c.insert.new.self.places ≡ c.signals.pool.places = ap (λ (v : ChainsValue). v.places) is in
    record {
      slot = omega arith;
      len = len ∙ c.signals.invariant.len;
      places = places ∙ c.signals.invariant.places;
      named = λ m p. subst (λ (v : ChainsValue). Within p (list_of v m) ↔ (Within p (list_of c.args.pool.now m) ⊎ IsSlotBelow c.args.n.0 c.args.signals.now (c.signals.signal-index + 1) m p)) (sym is)
          (placed-more c.signals.pool c.args.pool.now c.args.n.0 c.args.signals.now c.signals.signal-index past c.signals-test.true node c.signals.invariant.named m p);
    }

pub returns-clause-named : goal.returns-clause-named
returns-clause-named c m p = all-taken c.args.n.0 c.args.signals.now c.signals.signal-index m p _ _ (let t = c.signals-test.false in omega arith) (c.signals.invariant.named m p)
