-- The circuit of a written text has the outputs of the circuit.
use Rattle.std.proofs.Common.{◌≡◌, ℕ, pred, Bool, true, false, cond, eqb, List, [], ◌∷◌, length, map, Option, codes, refl, sym, ap, subst, ◌∙◌, inl, inr}
use Rattle.std.specs.Prelude.{◌⊎◌, Contains, flat_map}
use Rattle.std.specs.List.{AllByRecursion}
use Rattle.std.proofs.lemmas.Bool.Decides.{eqb_tells}
use Rattle.std.proofs.lemmas.List.Elements.{recursion_from_All, All-contains_itself}
use Rattle.lnet_edge.specs.declared.circuit.OutputPort.{OutputPort}
use Rattle.lnet_edge.specs.declared.circuit.WireRef.{WireRef}
use Rattle.lnet_edge.specs.Circuits.{CircuitValue, EquationValue}
use Rattle.lnet_edge.specs.Plain.{IsPlain}
use Rattle.lnet_edge.specs.Values.{complemented, under_rule, cover_value, value_of, ref_value, circuit_outputs}
use Rattle.lnet_edge.specs.Wires.{input_wires, output_wires, targets, operand_wires, driven_wires, IsCircuit}
use Rattle.lnet_edge.proofs.ValueLemmas.{value-equation, value-constant}
use Rattle.lnet_naming.specs.Settling.{input_labels, output_labels}
use Rattle.lnet_nodes.specs.Nodes.{label_of, node_name}
use Rattle.lnet_blif.specs.Numbering.{output_of}
use Rattle.lnet_blif.specs.Texts.{names_of}
use Rattle.lnet_benchmeans.proofs.Differing.{all_weak, all_first, all_second}
use Rattle.lnet_benchmeans.proofs.Plain.{IsOneOf, used_one, plain_ahead}
use Rattle.lnet_benchmeans.proofs.TableForm.{gates_named, shown_met}
use Rattle.lnet_bliftext.specs.Written.{CoverLines, gate_cover, output_cover, output_covers, written_covers, written_statements}
use Rattle.lnet_blifmeans.proofs.Shape.{true_cover}
use Rattle.lnet_blifmeans.proofs.Once.{count_outputs}
use Rattle.lnet_blifmeans.proofs.Ordered.{cover_showing}
use Rattle.lnet_blifmeans.proofs.Means.{written_circuit}
use Rattle.lnet_blifmeans.proofs.NameValues.{name_value, CoversHold, covers_hold, inputs_hold, input_valued}
use Rattle.lnet_blifmeans.proofs.GateValues.{Agree, used_values, GatesHold, gates_agree}

-- ---- the cover of an output

-- the use of a wire has the value of a cover that shows it
abbrev ShowsAs : (List ℕ → Bool) → (ℕ → Option (List ℕ)) → List ℕ → WireRef → Bool → Bool → Type 0
ShowsAs v label name r constant shown = cover_value (true_cover (cover_showing label name r constant).rows) (map v (cover_showing label name r constant).operands) ≡ shown

constant_shows : (v : List ℕ → Bool) (label : ℕ → Option (List ℕ)) (name : List ℕ) (r : WireRef) → ShowsAs v label name r true (complemented r.complement false)
constant_shows v label name r = by r.complement where
  by : (complement : Bool) → cover_value (true_cover (cond complement ([] ∷ []) [])) [] ≡ complemented complement false
  by true = refl
  by false = refl

node_shows : (v : List ℕ → Bool) (label : ℕ → Option (List ℕ)) (name : List ℕ) (r : WireRef) → ShowsAs v label name r false (complemented r.complement (v (node_name label r.wire.0)))
node_shows v label name r = by r.complement (v (node_name label r.wire.0)) where
  by : (complement bit : Bool) → cover_value (true_cover (cond complement (codes "0") (codes "1") ∷ [])) (bit ∷ []) ≡ complemented complement bit
  by true true = refl
  by true false = refl
  by false true = refl
  by false false = refl

output_shows : (v : List ℕ → Bool) (label : ℕ → Option (List ℕ)) (value : ℕ → Bool) (name : List ℕ) (r : WireRef) → value 0 ≡ false → ((r.wire.0 ≡ 0) ⊎ (v (node_name label r.wire.0) ≡ value r.wire.0)) → ShowsAs v label name r (eqb r.wire.0 0) (complemented r.complement (value r.wire.0))
output_shows v label value name r none known = elim (eqb_tells r.wire.0 0) as (λ _. ShowsAs v label name r (eqb r.wire.0 0) (complemented r.complement (value r.wire.0))) [
  | inl h ↦ subst (λ (b : Bool). ShowsAs v label name r b (complemented r.complement (value r.wire.0))) (sym h.0) (constant_shows v label name r ∙ ap (complemented r.complement) (sym none ∙ ap value (sym h.1)))
  | inr h ↦ subst (λ (b : Bool). ShowsAs v label name r b (complemented r.complement (value r.wire.0))) (sym h.0) (node_shows v label name r ∙ ap (complemented r.complement) (agrees h.1 known))
]
  where
    agrees : (r.wire.0 ≡ 0 → ⊥) → ((r.wire.0 ≡ 0) ⊎ (v (node_name label r.wire.0) ≡ value r.wire.0)) → v (node_name label r.wire.0) ≡ value r.wire.0
    agrees apart (inl is) = absurd (apart is)
    agrees apart (inr same) = same

-- what covers of outputs say of their names, whether they show constants or not
output_covered : (v : List ℕ → Bool) (label : ℕ → Option (List ℕ)) (name : List ℕ) (r : WireRef) → v (output_cover label name r).target ≡ cover_value (true_cover (output_cover label name r).rows) (map v (output_cover label name r).operands) → v name ≡ cover_value (true_cover (output_cover label name r).rows) (map v (output_cover label name r).operands)
output_covered v label name r = by (eqb r.wire.0 0) where
  by : (b : Bool) → v (cover_showing label name r b).target ≡ cover_value (true_cover (cover_showing label name r b).rows) (map v (cover_showing label name r b).operands) → v name ≡ cover_value (true_cover (cover_showing label name r b).rows) (map v (cover_showing label name r b).operands)
  by true holds = holds
  by false holds = holds

abbrev shown_values : (ℕ → Bool) → List OutputPort → List Bool
shown_values value ps = map (λ (p : OutputPort). complemented p.source.complement (value p.source.wire.0)) ps

outputs_agree : (v : List ℕ → Bool) (label : ℕ → Option (List ℕ)) (value : ℕ → Bool) (names : List (List ℕ)) (ps : List OutputPort) → value 0 ≡ false → length names ≡ length ps → CoversHold v (output_covers label names ps) → AllByRecursion (λ w. (w ≡ 0) ⊎ (v (node_name label w) ≡ value w)) (output_wires ps) → map v names ≡ shown_values value ps
outputs_agree v label value [] [] none same holds known = refl
outputs_agree v label value [] (p ∷ ps) none same holds known = absurd cc
outputs_agree v label value (name ∷ names) [] none same holds known = absurd cc
outputs_agree v label value (name ∷ names) (p ∷ ps) none same holds known =
    ap (λ (b : Bool). b ∷ map v names) (output_covered v label name p.source holds.0 ∙ output_shows v label value name p.source none known.0)
    ∙ ap (λ (bs : List Bool). complemented p.source.complement (value p.source.wire.0) ∷ bs) (outputs_agree v label value names ps none (ap pred same) holds.1 known.1)

-- ---- all nodes

gates_hold : (c : CircuitValue) (a : ℕ → Bool) → IsCircuit c → GatesHold (value_of c a) c.equations
gates_hold c a is = all_weak (Contains c.equations) (λ (e : EquationValue). value_of c a e.target ≡ under_rule e.rule (used_values (value_of c a) e.operands)) c.equations (λ e stands. value-equation c a e is stands) (recursion_from_All (Contains c.equations) c.equations (All-contains_itself c.equations))

nodes_agree : (c : CircuitValue) (a : ℕ → Bool) (v : List ℕ → Bool) → IsCircuit c → IsPlain c.equations → Agree v (label_of c) (value_of c a) (IsOneOf (input_wires c.inputs)) → CoversHold v (map (gate_cover (label_of c)) c.equations) → Agree v (label_of c) (value_of c a) (λ w. IsOneOf (input_wires c.inputs) w ⊎ IsOneOf (targets c.equations) w)
nodes_agree c a v is plain inputs covered = gates_agree v (label_of c) (value_of c a) (IsOneOf (input_wires c.inputs)) c.equations (value-constant c a is) (plain_ahead c is plain) (gates_named c is) (gates_hold c a is) covered inputs

-- the names of outputs have the values of outputs
labels_valued : (c : CircuitValue) (a : ℕ → Bool) (v : List ℕ → Bool) → IsCircuit c → IsPlain c.equations → Agree v (label_of c) (value_of c a) (IsOneOf (input_wires c.inputs)) → CoversHold v (written_covers c) → map v (output_labels c.inputs c.outputs) ≡ shown_values (value_of c a) c.outputs
labels_valued c a v is plain inputs covered =
    let label = label_of c in
    let gates = map (gate_cover label) c.equations in
    let outs = output_covers label (output_labels c.inputs c.outputs) c.outputs in
    let holds : CoverLines → Type 0 = λ k. v k.target ≡ cover_value (true_cover k.rows) (map v k.operands) in
    let agree = nodes_agree c a v is plain inputs (all_first holds gates outs covered) in
    let L : ℕ → Type 0 = λ w. v (node_name (label_of c) w) ≡ value_of c a w in
    outputs_agree v label (value_of c a) (output_labels c.inputs c.outputs) c.outputs (value-constant c a is) (count_outputs c) (all_second holds gates outs covered)
    (all_weak (IsOneOf (driven_wires c)) (λ w. (w ≡ 0) ⊎ L w) (output_wires c.outputs) (shown_met L (input_wires c.inputs) (targets c.equations) agree)
    (all_first (IsOneOf (driven_wires c)) (output_wires c.outputs) (flat_map operand_wires c.equations) (used_one c is)))

-- ---- circuits

shaped_outputs : (d : CircuitValue) (names : List (List ℕ)) (a : ℕ → Bool) (outs : List (List ℕ)) → map (λ (p : OutputPort). ref_value d a p.source) (map (output_of names) outs) ≡ map (name_value d names a) outs
shaped_outputs d names a [] = refl
shaped_outputs d names a (x ∷ xs) = ap (λ (bs : List Bool). name_value d names a x ∷ bs) (shaped_outputs d names a xs)

pub written_values : (c : CircuitValue) → IsCircuit c → IsPlain c.equations → IsCircuit (written_circuit c) → (a : ℕ → Bool) → circuit_outputs (written_circuit c) a ≡ circuit_outputs c a
unfolding circuit_outputs
written_values c is plain rules a =
    let names = names_of (written_statements c) in
    let ins = input_labels c.inputs in
    let outs = output_labels c.inputs c.outputs in
    let ks = written_covers c in
    let d = written_circuit c in
    let v = name_value d names a in
    shaped_outputs d names a outs ∙ labels_valued c a v is plain (input_valued c a v is (inputs_hold names ins outs ks a rules)) (covers_hold names ins outs ks a rules)
