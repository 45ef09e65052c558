use Rattle.std.proofs.Common.{◌≡◌, false, true, sym, ap, ◌∙◌, arith}
use Rattle.lnet_gates.specs.declared.signal.Signal.{Signal}
use Rattle.lnet_gates.specs.Gates.{GateValue}
use Rattle.lnet_simulate.specs.Cones.{marked_at}
use Rattle.lnet_simulate.proofs.FaninLemmas.{reads-nothing, listed-read, listed-below, listed-each}
use Rattle.lnet_simulate.proofs.cone.waiting_fanin.Goals as goal

abbrev none : Signal
none = record { node = record { 0 = 0 }; complement = false }

pub returns-in_default : goal.returns-in_default
returns-in_default g c = λ m i. absurd (reads-nothing c.args.net.now.core.network c.args.n.0 m (sym c.in_default.ensures) i)

pub bounds-marks-fanin : goal.bounds-marks-fanin
bounds-marks-fanin g c =
    let same = c.as_slice-fanin-items.ensures.value ∙ ap (λ (h : GateValue). h.fanins) c.gate.view_is in
    let low = listed-below c.args.net.now.core.network c.args.n.0 c.in-Some.gate.now c.as_slice-fanin-items.result.now c.loop-fanin.fanin-index none c.live_count-live.ensures.stored (sym c.in-Some.ensures) same c.loop-fanin-test.true in
    let sized = c.requires in
    omega arith

pub returns-then-not-marks-fanin : goal.returns-then-not-marks-fanin
returns-then-not-marks-fanin g c =
    let same = c.as_slice-fanin-items.ensures.value ∙ ap (λ (h : GateValue). h.fanins) c.gate.view_is in
    (listed-read c.args.net.now.core.network c.args.n.0 c.in-Some.gate.now c.as_slice-fanin-items.result.now c.loop-fanin.fanin-index none (sym c.in-Some.ensures) same c.loop-fanin-test.true, c.if-not-marks-fanin.true)

pub returns : goal.returns
returns g c =
    let same = c.as_slice-fanin-items.ensures.value ∙ ap (λ (h : GateValue). h.fanins) c.gate.view_is in
    listed-each (λ m. marked_at c.args.marks.now m ≡ true) c.args.net.now.core.network c.args.n.0 c.in-Some.gate.now c.as_slice-fanin-items.result.now (sym c.in-Some.ensures) same
    (λ k d low. c.loop-fanin.invariant k d (let done = c.loop-fanin-test.false in omega arith))
