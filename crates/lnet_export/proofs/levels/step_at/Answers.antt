use Rattle.std.proofs.Common.{◌≡◌, ◌+◌, ◌≤◌, false, map, take, get_or, sym, ap, ◌∙◌, arith}
use Rattle.lnet_gates.specs.declared.signal.Signal.{Signal}
use Rattle.lnet_gates.specs.Gates.{GateValue}
use Rattle.lnet_model.specs.Along.{nodes_read}
use Rattle.lnet_model.specs.Levels.{level}
use Rattle.lnet_export.proofs.LevelLemmas.{level-none, listed-read, listed-below, listed-level, greatest-more, greatest-small}
use Rattle.lnet_export.proofs.levels.step_at.Goals as goal

abbrev none : Signal
none = record { node = record { 0 = 0 }; complement = false }

pub returns-in_default : goal.returns-in_default
returns-in_default g c = sym (level-none c.args.net.now.core.network c.args.n.0 c.live_count-live.ensures.stored.dag.acyclic (sym c.in_default.ensures))

pub bounds : goal.bounds
bounds g c =
    let same = c.as_slice-fanin-items.ensures.value ∙ ap (λ (h : GateValue). h.fanins) c.gate.view_is in
    let low = listed-below c.args.net.now.core.network c.args.n.0 c.in-Some.gate.now c.as_slice-fanin-items.result.now c.loop-fanin.fanin-index none c.live_count-live.ensures.stored (sym c.in-Some.ensures) same c.loop-fanin-test.true in
    let sized = c.requires.levels.sized in
    omega arith

pub returns-in-None : goal.returns-in-None
returns-in-None g c =
    let same = c.as_slice-fanin-items.ensures.value ∙ ap (λ (h : GateValue). h.fanins) c.gate.view_is in
    (listed-read c.args.net.now.core.network c.args.n.0 c.in-Some.gate.now c.as_slice-fanin-items.result.now c.loop-fanin.fanin-index none (sym c.in-Some.ensures) same c.loop-fanin-test.true, c.in-None.is)

pub loop-fanin-preserved : goal.loop-fanin-preserved
loop-fanin-preserved g c =
    let known = c.requires.levels.right (get_or c.as_slice-fanin-items.result.now c.loop-fanin.fanin-index none).node.0 c.in-Some-levels.level c.in-Some-levels.is in
    let so_far = c.loop-fanin.invariant in
    let now = c.max-greatest.ensures in
    let more = greatest-more c.args.net.now.core.network c.as_slice-fanin-items.result.now c.loop-fanin.fanin-index none c.loop-fanin-test.true in
    omega arith

pub overflow_add-result : goal.overflow_add-result
overflow_add-result g c =
    let small = greatest-small c.args.net.now.core.network (nodes_read (take c.loop-fanin.fanin-index c.as_slice-fanin-items.result.now)) in
    let so_far = c.loop-fanin.invariant in
    let limit = c.live_count-live.ensures.limit in
    omega arith

pub returns : goal.returns
returns g c =
    let same = c.as_slice-fanin-items.ensures.value ∙ ap (λ (h : GateValue). h.fanins) c.gate.view_is in
    listed-level c.args.net.now.core.network c.args.n.0 c.in-Some.gate.now c.as_slice-fanin-items.result.now c.loop-fanin.fanin-index c.loop-fanin.greatest c.live_count-live.ensures.stored (sym c.in-Some.ensures) same c.loop-fanin-test.false c.loop-fanin.invariant
