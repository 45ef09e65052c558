use Rattle.std.proofs.Common.{◌≡◌, ◌+◌, ◌<◌, ◌++◌, ◌∷◌, [], length, map, zip, take, vec_items, None, Some, sym, ap, ◌∙◌, arith, add-one}
use Rattle.std.proofs.lemmas.Option.{slice_get-get_or}
use Rattle.lnet_export.specs.Exported.{input_port}
use Rattle.lnet_export.proofs.RowLemmas.{zip-more, zip-all}
use Rattle.lnet_export.proofs.ports.input_ports.Goals as goal
use Rattle.lnet_export.proofs.ports.input_ports.Goals.{in-Some+in_ok-name+in_ok-push, in_default}

pub loop-k-preserved : goal.loop-k-preserved
loop-k-preserved g c = elim c.match-input_at.branch [
  | in-Some+in_ok-name+in_ok-push w ↦
      let ns = c.args.net.now.core.network.inputs in
      let names = c.args.names.now.inputs in
      let name = w.in_ok-name.name in
      let node = w.in-Some.node in
      let more = zip-more input_port ns names c.loop-k.k node.0 name c.requires (sym w.in-Some.ensures) (w.in_ok-name.ensures ∙ w.input_name.ensures.value) in
      ap vec_items w.ports-is ∙ w.in_ok-push.ensures.items
      ∙ ap (λ ps. ps ++ input_port (node.0, name) ∷ []) c.loop-k.invariant
      ∙ sym (ap (λ j. take j (map input_port (zip ns names))) (add-one c.loop-k.k) ∙ more)
  | in_default w ↦
      let below : c.loop-k.k < length c.args.net.now.core.network.inputs = (let lt = c.loop-k-test.true in let end = c.input_count-k-end.ensures in omega arith) in
      absurd (let z = w.in_default.ensures ∙ slice_get-get_or c.args.net.now.core.network.inputs c.loop-k.k 0 below in cc)
]

pub returns : goal.returns
returns g c = c.loop-k.invariant ∙ zip-all input_port c.args.net.now.core.network.inputs c.args.names.now.inputs c.loop-k.k (let done = c.loop-k-test.false in let end = c.input_count-k-end.ensures in omega arith)
