use Rattle.std.proofs.Common.{◌≡◌, ◌+◌, ◌≤◌, ◌<◌, ℕ, Bool, false, map, length, All, List, sym, ap, subst, ◌∙◌, arith}
use Rattle.lnet_model.specs.Values.{network_outputs}
use Rattle.lnet_edge.specs.declared.circuit.InputPort.{InputPort}
use Rattle.lnet_edge.specs.declared.circuit.OutputPort.{OutputPort}
use Rattle.lnet_edge.specs.declared.circuit.Rule.TheVariants as rule
use Rattle.lnet_edge.specs.Circuits.{CircuitValue, EquationValue}
use Rattle.lnet_edge.specs.CircuitLists.{equation_views, listed_circuit}
use Rattle.lnet_edge.specs.Plain.{IsPlain}
use Rattle.lnet_edge.specs.Values.{circuit_outputs}
use Rattle.lnet_edge.specs.Wires.{HasArities, IsBroken, IsRefused}
use Rattle.lnet_export.specs.Exported.{equations_in, exported}
use Rattle.lnet_export.proofs.Circuits.{AreNamesOf, arities-exported, exported-few, exported-IsCircuit, exported-IsPlain}
use Rattle.lnet_export.proofs.ExportedValues.{exported-outputs}
use Rattle.lnet_export.proofs.ExportLemmas.{AreLists, equations-made, lists-exported, lists-few, lists-few_outputs, not-broken, exported-ands}
use Rattle.lnet_export.proofs.PortLemmas.{inputs-names, outputs-names}
use Rattle.lnet_export.proofs.exporting.export.Goals as goal

pub new-requires-clause-arities : goal.new-requires-clause-arities
new-requires-clause-arities g c =
    let N = c.args.net.now.core.network in
    let names = c.args.names.now in
    let ins = c.in_ok-inputs.inputs.items in
    let outs = c.in_ok-outputs.outputs.items in
    let es = c.in_ok-equations.equations.items in
    let made : AreLists N names ins outs es = record { inputs = c.in_ok-inputs.ensures; outputs = c.in_ok-outputs.ensures; equations = equations-made N (equation_views es) c.deref-2.result.now c.in_ok-rows.rows.items c.in_ok-equations.ensures c.deref-2.ensures.value c.in_ok-rows.ensures } in
    let named : AreNamesOf N names = record { inputs = c.requires.inputs; outputs = c.requires.outputs } in
    let stored = c.live_count-live.ensures.stored in
    let limit = c.live_count-live.ensures.limit in
    subst HasArities (sym made.equations) (arities-exported N stored)

pub new-requires-clause-few : goal.new-requires-clause-few
new-requires-clause-few g c =
    let N = c.args.net.now.core.network in
    let names = c.args.names.now in
    let ins = c.in_ok-inputs.inputs.items in
    let outs = c.in_ok-outputs.outputs.items in
    let es = c.in_ok-equations.equations.items in
    let made : AreLists N names ins outs es = record { inputs = c.in_ok-inputs.ensures; outputs = c.in_ok-outputs.ensures; equations = equations-made N (equation_views es) c.deref-2.result.now c.in_ok-rows.rows.items c.in_ok-equations.ensures c.deref-2.ensures.value c.in_ok-rows.ensures } in
    let named : AreNamesOf N names = record { inputs = c.requires.inputs; outputs = c.requires.outputs } in
    let stored = c.live_count-live.ensures.stored in
    let limit = c.live_count-live.ensures.limit in
    let few = lists-few N names ins outs es stored limit named made in
    omega arith

pub new-requires-clause-few_outputs : goal.new-requires-clause-few_outputs
new-requires-clause-few_outputs g c =
    let N = c.args.net.now.core.network in
    let names = c.args.names.now in
    let ins = c.in_ok-inputs.inputs.items in
    let outs = c.in_ok-outputs.outputs.items in
    let es = c.in_ok-equations.equations.items in
    let made : AreLists N names ins outs es = record { inputs = c.in_ok-inputs.ensures; outputs = c.in_ok-outputs.ensures; equations = equations-made N (equation_views es) c.deref-2.result.now c.in_ok-rows.rows.items c.in_ok-equations.ensures c.deref-2.ensures.value c.in_ok-rows.ensures } in
    let named : AreNamesOf N names = record { inputs = c.requires.inputs; outputs = c.requires.outputs } in
    let stored = c.live_count-live.ensures.stored in
    let limit = c.live_count-live.ensures.limit in
    lists-few_outputs N names ins outs es stored named made

pub returns-in-Ok-clause-circuit : goal.returns-in-Ok-clause-circuit
returns-in-Ok-clause-circuit g c =
    let N = c.args.net.now.core.network in
    let names = c.args.names.now in
    let ins = c.in_ok-inputs.inputs.items in
    let outs = c.in_ok-outputs.outputs.items in
    let es = c.in_ok-equations.equations.items in
    let made : AreLists N names ins outs es = record { inputs = c.in_ok-inputs.ensures; outputs = c.in_ok-outputs.ensures; equations = equations-made N (equation_views es) c.deref-2.result.now c.in_ok-rows.rows.items c.in_ok-equations.ensures c.deref-2.ensures.value c.in_ok-rows.ensures } in
    let named : AreNamesOf N names = record { inputs = c.requires.inputs; outputs = c.requires.outputs } in
    let stored = c.live_count-live.ensures.stored in
    let limit = c.live_count-live.ensures.limit in
    let is : c.in-Ok.circuit ≡ exported N names = c.in-Ok.ensures.lists ∙ lists-exported N names ins outs es made in
    is

pub returns-in-Ok-clause-outputs : goal.returns-in-Ok-clause-outputs
returns-in-Ok-clause-outputs g c =
    let N = c.args.net.now.core.network in
    let names = c.args.names.now in
    let ins = c.in_ok-inputs.inputs.items in
    let outs = c.in_ok-outputs.outputs.items in
    let es = c.in_ok-equations.equations.items in
    let made : AreLists N names ins outs es = record { inputs = c.in_ok-inputs.ensures; outputs = c.in_ok-outputs.ensures; equations = equations-made N (equation_views es) c.deref-2.result.now c.in_ok-rows.rows.items c.in_ok-equations.ensures c.deref-2.ensures.value c.in_ok-rows.ensures } in
    let named : AreNamesOf N names = record { inputs = c.requires.inputs; outputs = c.requires.outputs } in
    let stored = c.live_count-live.ensures.stored in
    let limit = c.live_count-live.ensures.limit in
    let is : c.in-Ok.circuit ≡ exported N names = c.in-Ok.ensures.lists ∙ lists-exported N names ins outs es made in
    λ a. ap (λ (x : CircuitValue). circuit_outputs x a) is ∙ exported-outputs N names stored limit named a

pub returns-in-Ok-clause-plain : goal.returns-in-Ok-clause-plain
returns-in-Ok-clause-plain g c =
    let N = c.args.net.now.core.network in
    let names = c.args.names.now in
    let ins = c.in_ok-inputs.inputs.items in
    let outs = c.in_ok-outputs.outputs.items in
    let es = c.in_ok-equations.equations.items in
    let made : AreLists N names ins outs es = record { inputs = c.in_ok-inputs.ensures; outputs = c.in_ok-outputs.ensures; equations = equations-made N (equation_views es) c.deref-2.result.now c.in_ok-rows.rows.items c.in_ok-equations.ensures c.deref-2.ensures.value c.in_ok-rows.ensures } in
    let named : AreNamesOf N names = record { inputs = c.requires.inputs; outputs = c.requires.outputs } in
    let stored = c.live_count-live.ensures.stored in
    let limit = c.live_count-live.ensures.limit in
    let is : c.in-Ok.circuit ≡ exported N names = c.in-Ok.ensures.lists ∙ lists-exported N names ins outs es made in
    subst (λ (x : CircuitValue). IsPlain x.equations) (sym is) (exported-IsPlain N stored)

pub returns-in-Ok-clause-ands : goal.returns-in-Ok-clause-ands
returns-in-Ok-clause-ands g c =
    let N = c.args.net.now.core.network in
    let names = c.args.names.now in
    let ins = c.in_ok-inputs.inputs.items in
    let outs = c.in_ok-outputs.outputs.items in
    let es = c.in_ok-equations.equations.items in
    let made : AreLists N names ins outs es = record { inputs = c.in_ok-inputs.ensures; outputs = c.in_ok-outputs.ensures; equations = equations-made N (equation_views es) c.deref-2.result.now c.in_ok-rows.rows.items c.in_ok-equations.ensures c.deref-2.ensures.value c.in_ok-rows.ensures } in
    let named : AreNamesOf N names = record { inputs = c.requires.inputs; outputs = c.requires.outputs } in
    let stored = c.live_count-live.ensures.stored in
    let limit = c.live_count-live.ensures.limit in
    let is : c.in-Ok.circuit ≡ exported N names = c.in-Ok.ensures.lists ∙ lists-exported N names ins outs es made in
    let strashed = c.live_count-live.ensures.strashed in
    λ aig. subst (λ (x : CircuitValue). All (λ (e : EquationValue). e.rule ≡ rule.And false) x.equations) (sym is) (exported-ands N g.G.Gates.KIND aig (λ n h at. (strashed.native n h at).has) strashed.and_phase)

pub returns-in-Ok-clause-few : goal.returns-in-Ok-clause-few
returns-in-Ok-clause-few g c =
    let N = c.args.net.now.core.network in
    let names = c.args.names.now in
    let ins = c.in_ok-inputs.inputs.items in
    let outs = c.in_ok-outputs.outputs.items in
    let es = c.in_ok-equations.equations.items in
    let made : AreLists N names ins outs es = record { inputs = c.in_ok-inputs.ensures; outputs = c.in_ok-outputs.ensures; equations = equations-made N (equation_views es) c.deref-2.result.now c.in_ok-rows.rows.items c.in_ok-equations.ensures c.deref-2.ensures.value c.in_ok-rows.ensures } in
    let named : AreNamesOf N names = record { inputs = c.requires.inputs; outputs = c.requires.outputs } in
    let stored = c.live_count-live.ensures.stored in
    let limit = c.live_count-live.ensures.limit in
    let is : c.in-Ok.circuit ≡ exported N names = c.in-Ok.ensures.lists ∙ lists-exported N names ins outs es made in
    let few = exported-few N names stored named in
    let same : length c.in-Ok.circuit.inputs + length c.in-Ok.circuit.equations ≡ length (exported N names).inputs + length (exported N names).equations = ap (λ (x : CircuitValue). length x.inputs + length x.equations) is in
    omega arith

pub returns-in-Ok-clause-input_names : goal.returns-in-Ok-clause-input_names
returns-in-Ok-clause-input_names g c =
    let N = c.args.net.now.core.network in
    let names = c.args.names.now in
    let ins = c.in_ok-inputs.inputs.items in
    let outs = c.in_ok-outputs.outputs.items in
    let es = c.in_ok-equations.equations.items in
    let made : AreLists N names ins outs es = record { inputs = c.in_ok-inputs.ensures; outputs = c.in_ok-outputs.ensures; equations = equations-made N (equation_views es) c.deref-2.result.now c.in_ok-rows.rows.items c.in_ok-equations.ensures c.deref-2.ensures.value c.in_ok-rows.ensures } in
    let named : AreNamesOf N names = record { inputs = c.requires.inputs; outputs = c.requires.outputs } in
    let stored = c.live_count-live.ensures.stored in
    let limit = c.live_count-live.ensures.limit in
    let is : c.in-Ok.circuit ≡ exported N names = c.in-Ok.ensures.lists ∙ lists-exported N names ins outs es made in
    ap (λ (x : CircuitValue). map (λ (p : InputPort). p.name) x.inputs) is ∙ inputs-names N.inputs names.inputs named.inputs

pub returns-in-Ok-clause-output_names : goal.returns-in-Ok-clause-output_names
returns-in-Ok-clause-output_names g c =
    let N = c.args.net.now.core.network in
    let names = c.args.names.now in
    let ins = c.in_ok-inputs.inputs.items in
    let outs = c.in_ok-outputs.outputs.items in
    let es = c.in_ok-equations.equations.items in
    let made : AreLists N names ins outs es = record { inputs = c.in_ok-inputs.ensures; outputs = c.in_ok-outputs.ensures; equations = equations-made N (equation_views es) c.deref-2.result.now c.in_ok-rows.rows.items c.in_ok-equations.ensures c.deref-2.ensures.value c.in_ok-rows.ensures } in
    let named : AreNamesOf N names = record { inputs = c.requires.inputs; outputs = c.requires.outputs } in
    let stored = c.live_count-live.ensures.stored in
    let limit = c.live_count-live.ensures.limit in
    let is : c.in-Ok.circuit ≡ exported N names = c.in-Ok.ensures.lists ∙ lists-exported N names ins outs es made in
    ap (λ (x : CircuitValue). map (λ (p : OutputPort). p.name) x.outputs) is ∙ outputs-names N N.outputs names.outputs named.outputs

pub unreachable-requires : goal.unreachable-requires
unreachable-requires g c =
    let N = c.args.net.now.core.network in
    let names = c.args.names.now in
    let ins = c.in_ok-inputs.inputs.items in
    let outs = c.in_ok-outputs.outputs.items in
    let es = c.in_ok-equations.equations.items in
    let made : AreLists N names ins outs es = record { inputs = c.in_ok-inputs.ensures; outputs = c.in_ok-outputs.ensures; equations = equations-made N (equation_views es) c.deref-2.result.now c.in_ok-rows.rows.items c.in_ok-equations.ensures c.deref-2.ensures.value c.in_ok-rows.ensures } in
    let named : AreNamesOf N names = record { inputs = c.requires.inputs; outputs = c.requires.outputs } in
    let stored = c.live_count-live.ensures.stored in
    let limit = c.live_count-live.ensures.limit in
    let is = lists-exported N names ins outs es made in
    not-broken (exported N names) c.in-Err-Fault.field-0-0 (exported-IsCircuit N names stored limit named) (subst (λ (x : CircuitValue). IsBroken x c.in-Err-Fault.field-0-0) is (subst (IsRefused (listed_circuit ins outs es)) c.in-Err-Fault.field-0-is c.in-Err-Fault.ensures.refused))
