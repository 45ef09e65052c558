use Rattle.std.proofs.Common.{refl, ◌≡◌, ◌-◌, ◌<◌, ◌≤◌, length, length-set, get_or, false, ◌∙◌, arith}
use Rattle.lnet_gates.specs.declared.signal.Signal.{Signal}
use Rattle.lnet_store.proofs.CountLemmas.{get-default, read-In, one-more, counted-less}
use Rattle.lnet_store.proofs.counting.uncount_all.Goals as goal

abbrev past : Signal
past = record { node = record { 0 = 0 }; complement = false }

pub index_mut-requires : goal.index_mut-requires
index_mut-requires c =
    let h = c.requires.known (get_or c.args.signals.now c.signals.signal-index past).node.0 (read-In c.args.signals.now c.signals.signal-index past c.signals-test.true) in
    omega (arith, c.signals.invariant.0)

pub overflow_sub-index_mut : goal.overflow_sub-index_mut
overflow_sub-index_mut c =
    let before = c.signals.invariant.1 (get_or c.args.signals.now c.signals.signal-index past).node.0 in
    let fits = c.requires.counted (get_or c.args.signals.now c.signals.signal-index past).node.0 in
    let more = one-more c.args.signals.now c.signals.signal-index past c.signals-test.true (get_or c.args.signals.now c.signals.signal-index past).node.0 refl in
    let known = c.requires.known (get_or c.args.signals.now c.signals.signal-index past).node.0 (read-In c.args.signals.now c.signals.signal-index past c.signals-test.true) in
    let within : (get_or c.args.signals.now c.signals.signal-index past).node.0 < length c.signals.counts.items = omega (arith, c.signals.invariant.0) in
    let value : c.index_mut.result.now ≡ get_or c.signals.counts.items (get_or c.args.signals.now c.signals.signal-index past).node.0 0 = c.index_mut.ensures.value ∙ get-default c.signals.counts.items (get_or c.args.signals.now c.signals.signal-index past).node.0 c.index_mut.result.now 0 within in
    omega arith

pub signals-preserved : goal.signals-preserved
signals-preserved c =
    let known = c.requires.known (get_or c.args.signals.now c.signals.signal-index past).node.0 (read-In c.args.signals.now c.signals.signal-index past c.signals-test.true) in
    let within : (get_or c.args.signals.now c.signals.signal-index past).node.0 < length c.signals.counts.items = omega (arith, c.signals.invariant.0) in
    let value : c.index_mut.result.now ≡ get_or c.signals.counts.items (get_or c.args.signals.now c.signals.signal-index past).node.0 0 = c.index_mut.ensures.value ∙ get-default c.signals.counts.items (get_or c.args.signals.now c.signals.signal-index past).node.0 c.index_mut.result.now 0 within in
    let before = c.signals.invariant.1 (get_or c.args.signals.now c.signals.signal-index past).node.0 in
    let fits = c.requires.counted (get_or c.args.signals.now c.signals.signal-index past).node.0 in
    let more = one-more c.args.signals.now c.signals.signal-index past c.signals-test.true (get_or c.args.signals.now c.signals.signal-index past).node.0 refl in
    let some : 1 ≤ c.index_mut.result.now = omega arith in
    (omega (arith, length-set c.signals.counts.items (get_or c.args.signals.now c.signals.signal-index past).node.0 (c.index_mut.result.now - 1), c.signals.invariant.0), counted-less c.args.signals.now c.signals.signal-index past c.signals-test.true (λ n. get_or c.args.counts.now.items n 0) c.signals.counts.items within c.signals.invariant.1 c.index_mut.result.now value some)
