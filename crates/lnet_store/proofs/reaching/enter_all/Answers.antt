use Rattle.std.proofs.Common.{◌∷◌, [], false, get_or, subst, sym, ◌∙◌, arith}
use Rattle.std.specs.Vec.{vec_capacity}
use Rattle.lnet_gates.specs.declared.signal.Signal.{Signal}
use Rattle.lnet_store.specs.Search.{HasPlaces}
use Rattle.lnet_store.proofs.CountLemmas.{read-In}
use Rattle.lnet_store.proofs.SearchLemmas.{enters-more, places-more}
use Rattle.lnet_store.proofs.reaching.enter_all.Goals as goal

abbrev past : Signal
past = record { node = record { 0 = 0 }; complement = false }

pub enter-requires-clause-known : goal.enter-requires-clause-known
enter-requires-clause-known c =
    let lt = c.requires.known (get_or c.args.signals.now c.signals.signal-index past).node.0 (read-In c.args.signals.now c.signals.signal-index past c.signals-test.true) in
    let len = c.signals.invariant.2 in
    omega arith

pub enter-requires-clause-places : goal.enter-requires-clause-places
enter-requires-clause-places c = subst (HasPlaces c.signals.queue.items ((get_or c.args.signals.now c.signals.signal-index past).node.0 ∷ [])) (sym c.signals.invariant.3) (places-more c.args.queue.now.items c.signals.queue.items c.args.signals.now c.signals.signal-index (vec_capacity c.args.queue.now) past c.signals-test.true c.signals.invariant.1 c.requires.places)

pub signals-preserved : goal.signals-preserved
signals-preserved c = (
  c.enter.ensures.marked,
  enters-more c.args.queue.now.items c.signals.queue.items c.enter.new.queue.items c.args.signals.now c.signals.signal-index past c.signals-test.true c.signals.invariant.1 c.enter.ensures.enters,
  c.enter.ensures.len ∙ c.signals.invariant.2,
  c.enter.ensures.capacity ∙ c.signals.invariant.3,
)
