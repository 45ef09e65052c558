use Rattle.std.proofs.Common.{◌<◌, ℕ, List, length, get_or, sym, ap, ◌∙◌, arith, length-set}
use Rattle.std.proofs.lemmas.Option.{slice_get-get_or}
use Rattle.lnet_simulate.proofs.ValueLemmas.{input-below, inputs-more, inputs-set}
use Rattle.lnet_simulate.proofs.passing.set_inputs.Goals as goal
use Rattle.lnet_simulate.proofs.passing.set_inputs.Goals.{in-Some, in_default}

pub bounds-words-node : goal.bounds-words-node
bounds-words-node g c =
    let low = input-below c.args.net.now.core.network c.in-Some.node.0 c.loop-k.k c.live_count-live.ensures.stored (sym c.in-Some.ensures) in
    let sized = c.requires.sized in
    let same = c.loop-k.invariant.sized in
    omega arith

pub loop-k-preserved : goal.loop-k-preserved
loop-k-preserved g c = elim c.match-input_at.branch [
  | in-Some w ↦
      let N = c.args.net.now.core.network in
      let at = sym w.in-Some.ensures in
      let low = input-below N w.in-Some.node.0 c.loop-k.k c.live_count-live.ensures.stored at in
      let sized = c.requires.sized in
      let same = c.loop-k.invariant.sized in
      let within : w.in-Some.node.0 < length c.loop-k.words = omega arith in
      record {
        sized = ap length w.words-is ∙ length-set c.loop-k.words w.in-Some.node.0 (get_or c.args.inputs.now c.loop-k.k 0) ∙ same;
        set = λ i n below here. ap (λ (ws : List ℕ). get_or ws n 0) w.words-is ∙ inputs-more N c.args.inputs.now c.loop-k.words w.in-Some.node.0 c.loop-k.k c.live_count-live.ensures.stored at within c.loop-k.invariant.set i n below here;
      }
  | in_default w ↦
      let below : c.loop-k.k < length c.args.net.now.core.network.inputs = (let lt = c.loop-k-test.true in let end = c.input_count-k-end.ensures in omega arith) in
      absurd (let z = w.in_default.ensures ∙ slice_get-get_or c.args.net.now.core.network.inputs c.loop-k.k 0 below in cc)
]

pub returns-clause-inputs : goal.returns-clause-inputs
returns-clause-inputs g c =
    inputs-set c.args.net.now.core.network c.args.inputs.now c.loop-k.words c.loop-k.k c.live_count-live.ensures.stored c.requires.inputs (let done = c.loop-k-test.false in let end = c.input_count-k-end.ensures in let sized = c.requires.inputs in omega arith) c.loop-k.invariant.set
