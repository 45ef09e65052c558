use Rattle.std.proofs.Common.{◌≡◌, ◌+◌, ◌<◌, length, length-set, get_or, false, subst, sym, ap, ◌∙◌, inl, inr, arith}
use Rattle.std.specs.Prelude.{◌⊎◌, ◌↔◌}
use Rattle.lnet_gates.specs.declared.signal.Signal.{Signal}
use Rattle.lnet_chains.specs.Lists.{ChainsValue, Within, list_of, without, without_place}
use Rattle.lnet_store.specs.Linked.{place}
use Rattle.lnet_store.proofs.ChainSteps.{all-slots, all-taken, slot-stands, gone-more, linked-less, IsSlotBelow}
use Rattle.lnet_store.proofs.ListSteps.{list-within}
use Rattle.lnet_fanouts.proofs.linking.take_all.Goals as goal

abbrev past : Signal
past = record { node = record { 0 = 0 }; complement = false }

pub overflow_mul-slot : goal.overflow_mul-slot
overflow_mul-slot c = let h = c.if-n-nodes.false in let p = c.requires.places in let r = c.places-places.ensures.count in omega arith

pub remove-requires : goal.remove-requires
remove-requires c = subst (λ x. Within x (list_of c.signals.pool (get_or c.args.signals.now c.signals.signal-index past).node.0)) (sym c.signals.invariant.slot)
    (slot-stands c.signals.pool c.args.pool.now c.args.n.0 c.args.signals.now c.signals.signal-index past c.signals-test.true c.requires.linked c.signals.invariant.named)

pub overflow_add-slot : goal.overflow_add-slot
overflow_add-slot c = let h = c.if-n-nodes.false in let p = c.requires.places in let s = c.signals.invariant.slot in let six = c.requires.six in let t = c.signals-test.true in
    let r = c.places-places.ensures.count in omega arith

pub signals-preserved : goal.signals-preserved
signals-preserved c =
    let s = c.signals.invariant.slot in
    let stands = slot-stands c.signals.pool c.args.pool.now c.args.n.0 c.args.signals.now c.signals.signal-index past c.signals-test.true c.requires.linked c.signals.invariant.named in
    let node : (get_or c.args.signals.now c.signals.signal-index past).node.0 < length c.signals.pool.lists = list-within c.signals.pool
    (get_or c.args.signals.now c.signals.signal-index past).node.0 (place c.args.n.0 c.signals.signal-index) stands in
    let is : c.remove.new.self ≡ without_place c.signals.pool (get_or c.args.signals.now c.signals.signal-index past).node.0 (place c.args.n.0 c.signals.signal-index) = c.remove.ensures
    ∙ ap (without_place c.signals.pool (get_or c.args.signals.now c.signals.signal-index past).node.0) c.signals.invariant.slot in
    let len : length c.remove.new.self.lists ≡ length c.signals.pool.lists = ap (λ (v : ChainsValue). length v.lists) is
    ∙ length-set c.signals.pool.lists (get_or c.args.signals.now c.signals.signal-index past).node.0
    (without (place c.args.n.0 c.signals.signal-index) (list_of c.signals.pool (get_or c.args.signals.now c.signals.signal-index past).node.0)) in
    let places : c.remove.new.self.places ≡ c.signals.pool.places = ap (λ (v : ChainsValue). v.places) is in
    let apart = c.places-apart.ensures.apart in
    record {
      slot = omega arith;
      len = len ∙ c.signals.invariant.len;
      places = places ∙ c.signals.invariant.places;
      named = λ m p. subst (λ (v : ChainsValue). Within p (list_of c.args.pool.now m) ↔ (Within p (list_of v m) ⊎ IsSlotBelow c.args.n.0 c.args.signals.now (c.signals.signal-index + 1) m p)) (sym is)
          (linked-less c.signals.pool c.args.pool.now c.args.n.0 c.args.signals.now c.signals.signal-index past c.signals-test.true node apart stands c.signals.invariant.named m p);
      gone = λ m p. subst (λ (v : ChainsValue). Within p (list_of v m) → IsSlotBelow c.args.n.0 c.args.signals.now (c.signals.signal-index + 1) m p → ⊥) (sym is)
          (gone-more c.signals.pool c.args.pool.now c.args.n.0 c.args.signals.now c.signals.signal-index past c.signals-test.true node apart stands c.signals.invariant.gone m p);
    }

pub returns-clause-named : goal.returns-clause-named
returns-clause-named c m p = all-taken c.args.n.0 c.args.signals.now c.signals.signal-index m p _ _ (let t = c.signals-test.false in omega arith) (c.signals.invariant.named m p)

pub returns-clause-gone : goal.returns-clause-gone
returns-clause-gone c m p h s = c.signals.invariant.gone m p h (all-slots c.args.n.0 c.args.signals.now c.signals.signal-index m p (let t = c.signals-test.false in omega arith) s)

-- a number past the lists has no place in them

pub returns-then-n-nodes-clause-named : goal.returns-then-n-nodes-clause-named
returns-then-n-nodes-clause-named c m p = (
  λ i. inl i,
  λ h. elim h as (λ _. Within p (list_of c.args.pool.now m)) [ inl i ↦ i | inr s ↦ c.requires.linked m p s ],
)

pub returns-then-n-nodes-clause-gone : goal.returns-then-n-nodes-clause-gone
returns-then-n-nodes-clause-gone c m p i s =
    let low = c.places-places.ensures.ascending.inside m p i in
    let is = s.1 in
    let past = c.if-n-nodes.true in
    let nodes = c.nodes.ensures in
    let places = c.requires.places in
    omega arith
