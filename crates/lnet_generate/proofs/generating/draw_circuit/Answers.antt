use Rattle.std.proofs.Common.{◌≡◌, ◌+◌, ◌∙◌, List, length, sym, ap, subst, arith}
use Rattle.rand_core.specs.Stream.{Stream}
use Rattle.std.proofs.lemmas.List.{length-map}
use Rattle.lnet_edge.specs.Circuits.{EquationValue}
use Rattle.lnet_edge.specs.CircuitLists.{equation_views, listed_circuit}
use Rattle.lnet_edge.specs.Wires.{HasArities}
use Rattle.lnet_edge.proofs.WireLemmas.{length-views}
use Rattle.lnet_generate.specs.Drawing.{draw_uses, shown}
use Rattle.lnet_generate.proofs.Numbered.{drawn-arities, length-gates, length-inputs, length-uses}
use Rattle.lnet_generate.proofs.Steps.{listed-drawn, unrefused}
use Rattle.lnet_generate.proofs.generating.draw_circuit.Goals as goal

pub new-requires-clause-arities : goal.new-requires-clause-arities
new-requires-clause-arities g c = subst HasArities (sym (ap (λ (p : List EquationValue × Stream). p.0) c.in_ok-equations.ensures)) (drawn-arities c.args.kind c.args.inputs c.args.gates c.args.outputs (g.R.Rng.stream c.args.rng.now))

pub new-requires-clause-few : goal.new-requires-clause-few
new-requires-clause-few g c =
    let i : length c.in_ok-ports.ports.items ≡ c.args.inputs = ap length c.in_ok-ports.ensures ∙ length-inputs 1 c.args.inputs in
    let e : length c.in_ok-equations.equations.items ≡ c.args.gates = sym (length-views c.in_ok-equations.equations.items) ∙ ap (λ (p : List EquationValue × Stream). length p.0) c.in_ok-equations.ensures ∙ length-gates c.args.kind c.args.gates c.args.inputs (g.R.Rng.stream c.args.rng.now) in
    let a = c.requires.inputs.1 in
    let b = c.requires.gates in
    omega arith

pub new-requires-clause-few_outputs : goal.new-requires-clause-few_outputs
new-requires-clause-few_outputs g c =
    let o : length c.in_ok-shown.shown.items ≡ c.args.outputs = ap length c.in_ok-shown.ensures ∙ length-map (draw_uses c.args.outputs (c.args.inputs + c.args.gates) (g.R.Rng.stream c.draw_gates.new.rng)).0 shown ∙ length-uses c.args.outputs (c.args.inputs + c.args.gates) (g.R.Rng.stream c.draw_gates.new.rng) in
    let b = c.requires.outputs in
    omega arith

pub unreachable-requires : goal.unreachable-requires
unreachable-requires g c = unrefused (listed_circuit c.in_ok-ports.ports.items c.in_ok-shown.shown.items c.in_ok-equations.equations.items) c.args.kind c.args.inputs c.args.gates c.args.outputs (g.R.Rng.stream c.args.rng.now) c.in-Err-Fault.field-0-0 (listed-drawn c.args.kind c.args.inputs c.args.gates c.args.outputs (g.R.Rng.stream c.args.rng.now) (g.R.Rng.stream c.draw_gates.new.rng) c.in_ok-ports.ports.items (equation_views c.in_ok-equations.equations.items) c.in_ok-shown.shown.items c.in_ok-ports.ensures c.in_ok-equations.ensures c.in_ok-shown.ensures) (rw c.in-Err-Fault.field-0-is at c.in-Err-Fault.ensures.refused)
