use Rattle.std.proofs.Common.{◌≡◌, ◌+◌, ◌<◌, ◌++◌, ◌∷◌, [], false, length, map, zip, take, vec_items, None, Some, sym, ap, ◌∙◌, arith, add-one}
use Rattle.std.proofs.lemmas.Option.{slice_get-get_or}
use Rattle.lnet_gates.specs.declared.signal.Signal.{Signal}
use Rattle.lnet_edge.specs.declared.circuit.WireRef.{WireRef}
use Rattle.lnet_edge.specs.declared.circuit.OutputPort.{OutputPort}
use Rattle.lnet_export.specs.Exported.{ref_in, output_port}
use Rattle.lnet_export.proofs.RowLemmas.{zip-more, zip-all}
use Rattle.lnet_export.proofs.ports.output_ports.Goals as goal
use Rattle.lnet_export.proofs.ports.output_ports.Goals.{in-Some+in_ok-name+in_ok-push, in_default}

pub loop-k-preserved : goal.loop-k-preserved
loop-k-preserved g c = elim c.match-output_at.branch [
  | in-Some+in_ok-name+in_ok-push w ↦
      let N = c.args.net.now.core.network in
      let names = c.args.names.now.outputs in
      let name = w.in_ok-name.name in
      let signal = w.in-Some.signal in
      let more = zip-more (output_port N) N.outputs names c.loop-k.k signal name c.requires (sym w.in-Some.ensures.value) (w.in_ok-name.ensures ∙ w.output_name.ensures.value) in
      let port = ap (λ (r : WireRef). let p : OutputPort = record { source = r; name = name } in p) w.ref_of.ensures in
      ap vec_items w.ports-is ∙ w.in_ok-push.ensures.items
      ∙ ap (λ (p : OutputPort). c.loop-k.ports.items ++ p ∷ []) port
      ∙ ap (λ ps. ps ++ output_port N (signal, name) ∷ []) c.loop-k.invariant
      ∙ sym (ap (λ j. take j (map (output_port N) (zip N.outputs names))) (add-one c.loop-k.k) ∙ more)
  | in_default w ↦
      let below : c.loop-k.k < length c.args.net.now.core.network.outputs = (let lt = c.loop-k-test.true in let end = c.output_count-k-end.ensures in omega arith) in
      let none : Signal = record { node = record { 0 = 0 }; complement = false } in
      absurd (w.in_default.not-Some _ (c.output_at.ensures.value ∙ slice_get-get_or c.args.net.now.core.network.outputs c.loop-k.k none below))
]

pub returns : goal.returns
returns g c = c.loop-k.invariant ∙ zip-all (output_port c.args.net.now.core.network) c.args.net.now.core.network.outputs c.args.names.now.outputs c.loop-k.k (let done = c.loop-k-test.false in let end = c.output_count-k-end.ensures in omega arith)
