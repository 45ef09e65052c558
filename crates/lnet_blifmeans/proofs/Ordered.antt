-- The covers of a written text are in order.
use Rattle.std.proofs.Common.{◌≡◌, ◌≢◌, ℕ, Bool, true, false, cond, eqb, List, [], ◌∷◌, ◌++◌, map, Option, sym, subst, inl, inr}
use Rattle.std.specs.Prelude.{◌⊎◌, not, Contains, flat_map}
use Rattle.std.specs.Cmp.Lexicographic.{nat_list_eq_equiv}
use Rattle.std.specs.List.{AllByRecursion}
use Rattle.std.proofs.lemmas.Bool.Decides.{eqb_tells}
use Rattle.std.proofs.lemmas.List.Elements.{recursion_from_All, All-contains_itself}
use Rattle.std.proofs.lemmas.Map.Views.{list_any-from_Contains}
use Rattle.lnet_edge.specs.declared.circuit.OutputPort.{OutputPort}
use Rattle.lnet_edge.specs.declared.circuit.WireRef.{WireRef}
use Rattle.lnet_edge.specs.Circuits.{CircuitValue, EquationValue}
use Rattle.lnet_edge.specs.Plain.{IsPlain}
use Rattle.lnet_edge.specs.Wires.{input_wires, output_wires, targets, operand_wires, driven_wires, IsCircuit}
use Rattle.lnet_wires.specs.Naming.{is_seen}
use Rattle.lnet_naming.specs.Settling.{made_name, input_labels, output_labels}
use Rattle.lnet_nodes.specs.Nodes.{label_of, node_name}
use Rattle.lnet_nodes.specs.Rows.{variables}
use Rattle.lnet_blif.specs.Texts.{names_of}
use Rattle.lnet_blifwriter.specs.Texts.{operand_names}
use Rattle.lnet_benchmeans.specs.Driving.{HasWires}
use Rattle.lnet_benchmeans.proofs.Differing.{all_weak, all_first, all_second}
use Rattle.lnet_benchmeans.proofs.Falling.{IsAhead}
use Rattle.lnet_benchmeans.proofs.Plain.{IsOneOf, used_one, plain_ahead, one-sooner, one-none}
use Rattle.lnet_benchmeans.proofs.Middle.{gate_names}
use Rattle.lnet_benchmeans.proofs.Nodes.{input_named}
use Rattle.lnet_benchmeans.proofs.Tables.{AreNamed, more_named, more_seen}
use Rattle.lnet_benchmeans.proofs.TableForm.{gates_named, shown_met}
use Rattle.lnet_bliftext.specs.Written.{CoverLines, gate_cover, output_cover, output_covers, written_covers, written_statements}
use Rattle.lnet_bliftext.proofs.CoverForms.{shown_by, rows_fit}
use Rattle.lnet_blifmeans.proofs.Shape.{cover_targets, driven_are}
use Rattle.lnet_blifmeans.proofs.Seen.{driven_seen}
use Rattle.lnet_blifmeans.proofs.Once.{targets_are, names_differ}
use Rattle.lnet_blifmeans.proofs.Rules.{AreAhead, IsOrderly}

-- ---- gates

variables_seen : (label : ℕ → Option (List ℕ)) (K : ℕ → Type 0) (known : List (List ℕ)) → AreNamed label K known → (rs : List WireRef) → AllByRecursion (λ v. (v ≡ 0) ⊎ K v) (map (λ (r : WireRef). r.wire.0) rs) → AllByRecursion (λ x. is_seen known x ≡ true) (operand_names label (variables rs))
variables_seen label K known each [] all = tt
variables_seen label K known each (r ∷ rs) all =
    elim (eqb_tells r.wire.0 0) as (λ _. AllByRecursion (λ x. is_seen known x ≡ true) (operand_names label (cond (not (eqb r.wire.0 0)) (r ∷ variables rs) (variables rs)))) [
      | inl h ↦ subst (λ (b : Bool). AllByRecursion (λ x. is_seen known x ≡ true) (operand_names label (cond (not b) (r ∷ variables rs) (variables rs)))) (sym h.0) (variables_seen label K known each rs all.1)
      | inr h ↦ subst (λ (b : Bool). AllByRecursion (λ x. is_seen known x ≡ true) (operand_names label (cond (not b) (r ∷ variables rs) (variables rs)))) (sym h.0) (each r.wire.0 (used h.1 all.0), variables_seen label K known each rs all.1)
    ]
  where
    used : r.wire.0 ≢ 0 → ((r.wire.0 ≡ 0) ⊎ K r.wire.0) → K r.wire.0
    used apart (inl is) = absurd (apart is)
    used apart (inr k) = k

-- the covers of gates, and what stands behind them
gates_then : (label : ℕ → Option (List ℕ)) (es : List EquationValue) (ks : List CoverLines) (known : List (List ℕ)) (K : ℕ → Type 0) → IsAhead K es → AreNamed label K known → AllByRecursion (λ t. node_name label t ≡ made_name 110 t) (targets es) → ((known' : List (List ℕ)) (L : ℕ → Type 0) → ((w : ℕ) → (K w ⊎ IsOneOf (targets es) w) → L w) → AreNamed label L known' → AreAhead known' ks) → AreAhead known (map (gate_cover label) es ++ ks)
gates_then label [] ks known K ahead each named rest = rest known K (one-none K) each
gates_then label (e ∷ es) ks known K ahead each named rest = (
  variables_seen label K known each e.operands ahead.0,
  gates_then label es ks (made_name 110 e.target ∷ known) (λ v. (v ≡ e.target) ⊎ K v) ahead.1 (more_named label K known e.target named.0 each) named.1 (λ known' L later. rest known' L (λ w h. later w (one-sooner K e.target (targets es) w h))),
)

-- ---- outputs

-- the covers of outputs, by whether they show a constant
abbrev pub cover_showing : (ℕ → Option (List ℕ)) → List ℕ → WireRef → Bool → CoverLines
cover_showing label name r constant = shown_by label name r constant r.complement

shown_then : (label : ℕ → Option (List ℕ)) (L : ℕ → Type 0) (known : List (List ℕ)) (name : List ℕ) (r : WireRef) (ks : List CoverLines) → AreNamed label L known → ((r.wire.0 ≡ 0) ⊎ L r.wire.0) → AreAhead (name ∷ known) ks → AreAhead known (output_cover label name r ∷ ks)
shown_then label L known name r ks each (inl is) rest = subst (λ (w : ℕ). AreAhead known (cover_showing label name r (eqb w 0) ∷ ks)) (sym is) (tt, rest)
shown_then label L known name r ks each (inr l) rest = elim (eqb r.wire.0 0) as (λ b. AreAhead known (cover_showing label name r b ∷ ks)) [ true ↦ (tt, rest) | false ↦ ((each r.wire.0 l, tt), rest) ]

outputs_last : (label : ℕ → Option (List ℕ)) (L : ℕ → Type 0) (names : List (List ℕ)) (ps : List OutputPort) (known : List (List ℕ)) → AreNamed label L known → AllByRecursion (λ w. (w ≡ 0) ⊎ L w) (output_wires ps) → AreAhead known (output_covers label names ps)
outputs_last label L [] ps known each all = tt
outputs_last label L (name ∷ names) [] known each all = tt
outputs_last label L (name ∷ names) (p ∷ ps) known each all = shown_then label L known name p.source (output_covers label names ps) each all.0 (outputs_last label L names ps (name ∷ known) (λ w l. more_seen known name (node_name label w) (each w l)) all.1)

covers_ahead : (c : CircuitValue) → IsCircuit c → IsPlain c.equations → AreAhead (input_labels c.inputs) (written_covers c)
covers_ahead c is plain =
    let ins = input_wires c.inputs in
    let ts = targets c.equations in
    let label = label_of c in
    let names = output_labels c.inputs c.outputs in
    gates_then label c.equations (output_covers label names c.outputs) (input_labels c.inputs) (IsOneOf ins) (plain_ahead c is plain) (λ w one. input_named c w one) (gates_named c is) (λ known' L later each.
    outputs_last label L names c.outputs known' each
    (all_weak (IsOneOf (driven_wires c)) (λ w. (w ≡ 0) ⊎ L w) (output_wires c.outputs) (shown_met L ins ts later)
    (all_first (IsOneOf (driven_wires c)) (output_wires c.outputs) (flat_map operand_wires c.equations) (used_one c is))))

-- ---- names of outputs are driven

driven_seen_at : (xs : List (List ℕ)) → AllByRecursion (λ x. is_seen xs x ≡ true) xs
driven_seen_at xs = all_weak (Contains xs) (λ x. is_seen xs x ≡ true) xs (λ x one. list_any-from_Contains nat_list_eq_equiv x xs one) (recursion_from_All (Contains xs) xs (All-contains_itself xs))

outputs_seen : (c : CircuitValue) → AllByRecursion (λ x. is_seen (input_labels c.inputs ++ cover_targets (written_covers c)) x ≡ true) (output_labels c.inputs c.outputs)
outputs_seen c =
    let ins = input_labels c.inputs in
    let gates = flat_map (gate_names (λ n. false)) (targets c.equations) in
    let all = ins ++ cover_targets (written_covers c) in
    let P : List ℕ → Type 0 = λ x. is_seen all x ≡ true in
    all_second P gates (output_labels c.inputs c.outputs) (subst (AllByRecursion P) (targets_are c) (all_second P ins (cover_targets (written_covers c)) (driven_seen_at all)))

-- ---- all together

pub written_orderly : (c : CircuitValue) → HasWires c → IsCircuit c → IsPlain c.equations → IsOrderly (names_of (written_statements c)) (input_labels c.inputs) (output_labels c.inputs c.outputs) (written_covers c)
written_orderly c wires is plain =
    let ins = input_labels c.inputs in
    let outs = output_labels c.inputs c.outputs in
    let names = names_of (written_statements c) in
    record {
      once = names_differ c wires is;
      seen = subst (AllByRecursion (λ x. is_seen names x ≡ true)) (driven_are ins outs (written_covers c)) (driven_seen [] (written_statements c));
      ahead = covers_ahead c is plain;
      shown = outputs_seen c;
      rows = rows_fit c;
    }
