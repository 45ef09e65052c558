use Rattle.std.proofs.Common.{◌<◌, ◌++◌, ◌∷◌, [], false, length, vec_items, List, sym, ap, ◌∙◌, arith}
use Rattle.std.proofs.lemmas.Option.{slice_get-get_or}
use Rattle.lnet_gates.specs.declared.signal.Node.{Node}
use Rattle.lnet_gates.specs.declared.signal.Signal.{Signal}
use Rattle.lnet_simulate.proofs.OutputLemmas.{take-more-map, take-all-map}
use Rattle.lnet_simulate.proofs.simulating.output_nodes.Goals as goal
use Rattle.lnet_simulate.proofs.simulating.output_nodes.Goals.{in-Some+in_ok-push, in_default}

pub loop-k-preserved : goal.loop-k-preserved
loop-k-preserved g c = elim c.match-output_at.branch [
  | in-Some+in_ok-push w ↦
      let outs = c.args.net.now.core.network.outputs in
      let more = take-more-map (λ (s : Signal). s.node) outs c.loop-k.k w.in-Some.signal (sym w.in-Some.ensures.value) in
      ap vec_items w.nodes-is ∙ w.in_ok-push.ensures.items
      ∙ ap (λ (ns : List Node). ns ++ w.in-Some.signal.node ∷ []) c.loop-k.invariant
      ∙ sym more
  | in_default w ↦
      let below : c.loop-k.k < length c.args.net.now.core.network.outputs = (let lt = c.loop-k-test.true in let end = c.output_count-k-end.ensures in omega arith) in
      let none : Signal = record { node = record { 0 = 0 }; complement = false } in
      absurd (w.in_default.not-Some _ (c.output_at.ensures.value ∙ slice_get-get_or c.args.net.now.core.network.outputs c.loop-k.k none below))
]

pub returns : goal.returns
returns g c = c.loop-k.invariant ∙ take-all-map (λ (s : Signal). s.node) c.args.net.now.core.network.outputs c.loop-k.k (let done = c.loop-k-test.false in let end = c.output_count-k-end.ensures in omega arith)
