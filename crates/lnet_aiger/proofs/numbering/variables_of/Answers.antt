use Rattle.std.proofs.Common.{◌≡◌, ℕ, suc, ◌+◌, List, [], ◌∷◌, ◌++◌, length, sym, refl, ap, subst, ◌∙◌, arith}
use Rattle.lnet_edge.specs.declared.circuit.InputPort.{InputPort}
use Rattle.lnet_edge.specs.Circuits.{EquationValue}
use Rattle.lnet_edge.specs.Wires.{input_wires, targets}
use Rattle.lnet_edge.proofs.WireLemmas.{length-input_wires}
use Rattle.lnet_aiger.specs.Numberings.{KnowsPlaces}
use Rattle.lnet_aiger.proofs.numbering.variables_of.Goals as goal

pub returns-clause-places : goal.returns-clause-places
returns-clause-places c =
    let constant = c.in_ok-number_wire.ensures [] (λ w. rw c.new-variables.ensures.empty refl) refl in
    let inputs = c.in_ok-number_inputs.ensures (0 ∷ []) constant refl in
    let len : length (0 ∷ input_wires c.inputs.result.now) ≡ length c.inputs-2.result.now + 1 = ends (length-input_wires c.inputs.result.now) (ap length (c.inputs.ensures ∙ sym c.inputs-2.ensures)) in
    let all = c.in_ok-number_equations.ensures (0 ∷ input_wires c.inputs.result.now) inputs len in
    subst (λ (ps : List InputPort). KnowsPlaces c.number_equations.new.variables (0 ∷ (input_wires ps ++ targets c.args.circuit.now.equations))) c.inputs.ensures
    (subst (λ (es : List EquationValue). KnowsPlaces c.number_equations.new.variables (0 ∷ (input_wires c.inputs.result.now ++ targets es))) c.equations.ensures.value all)
  where
    ends : {a b d : ℕ} → a ≡ b → b ≡ d → suc a ≡ d + 1
    ends e f = omega arith
