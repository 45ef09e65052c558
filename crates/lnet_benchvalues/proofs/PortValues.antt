-- The values of the names of inputs, and those that outputs show.
use Rattle.std.proofs.Common.{◌≡◌, ℕ, suc, ◌+◌, ◌<◌, Bool, List, [], ◌∷◌, length, map, get_or, refl, ap, subst, ◌∙◌, arith}
use Rattle.std.specs.List.{AllByRecursion}
use Rattle.lnet_edge.specs.declared.circuit.OutputPort.{OutputPort}
use Rattle.lnet_edge.specs.Circuits.{CircuitValue, AllFrom}
use Rattle.lnet_edge.specs.Wires.{input_wires, IsCircuit}
use Rattle.lnet_edge.specs.Values.{value_of, ref_value, circuit_outputs}
use Rattle.lnet_edge.proofs.ValueLemmas.{value-input}
use Rattle.lnet_edge.proofs.WireLemmas.{length-input_wires}
use Rattle.lnet_wires.specs.Naming.{wire_of}
use Rattle.lnet_bench.specs.Statements.{StatementValue, Input, Output, Gate, Constant}
use Rattle.lnet_bench.specs.Numbering.{use_of, inputs_by, outputs_by}
use Rattle.lnet_bench.specs.Texts.{driven_by, names_of, circuit_of}
use Rattle.lnet_benchmeans.specs.Driving.{driven_names, shown_names, IsOrdered}
use Rattle.lnet_benchmeans.proofs.Differing.{all_weak}
use Rattle.lnet_benchvalues.specs.Named.{name_value, given_names}
use Rattle.lnet_benchvalues.proofs.NameValues.{IsWired, all_wired}

-- ---- inputs

given_all : (P : List ℕ → Type 0) (ss : List StatementValue) → AllByRecursion P (driven_names ss) → AllByRecursion P (given_names ss)
given_all P [] all = tt
given_all P (Input name ∷ ss) all = (all.0, given_all P ss all.1)
given_all P (Output name ∷ ss) all = given_all P ss all
given_all P (Gate target rule operands ∷ ss) all = given_all P ss all.1
given_all P (Constant target value ∷ ss) all = given_all P ss all.1

wires_given : (names : List (List ℕ)) (ss : List StatementValue) → input_wires (inputs_by names ss) ≡ map (wire_of names) (given_names ss)
wires_given names [] = refl
wires_given names (Input name ∷ ss) = ap (λ (ws : List ℕ). wire_of names name ∷ ws) (wires_given names ss)
wires_given names (Output name ∷ ss) = wires_given names ss
wires_given names (Gate target rule operands ∷ ss) = wires_given names ss
wires_given names (Constant target value ∷ ss) = wires_given names ss

each_wire : (V : ℕ → Bool) (a : ℕ → Bool) (i : ℕ) (ws : List ℕ) → ((k : ℕ) → k < length ws → V (get_or ws k 0) ≡ a (i + k)) → AllFrom (λ k w. V w ≡ a k) i ws
each_wire V a i [] each = tt
each_wire V a i (w ∷ ws) each = (
  (let e : i + 0 ≡ i = omega arith in each 0 (omega arith) ∙ ap a e),
  each_wire V a (i + 1) ws (λ k low. let e : i + suc k ≡ (i + 1) + k = omega arith in each (suc k) (omega arith) ∙ ap a e),
)

each_name : (V : ℕ → Bool) (a : ℕ → Bool) (f : List ℕ → ℕ) (v : List ℕ → Bool) (i : ℕ) (xs : List (List ℕ)) → AllByRecursion (λ x. v x ≡ V (f x)) xs → AllFrom (λ k w. V w ≡ a k) i (map f xs) → AllFrom (λ k x. v x ≡ a k) i xs
each_name V a f v i [] same all = tt
each_name V a f v i (x ∷ xs) same all = (same.0 ∙ all.0, each_name V a f v (i + 1) xs same.1 all.1)

-- the name of input k has the value a k
pub inputs_hold : (ss : List StatementValue) (a : ℕ → Bool) → IsOrdered ss → IsCircuit (circuit_of ss) → AllFrom (λ k x. name_value ss a x ≡ a k) 0 (given_names ss)
inputs_hold ss a ordered is =
    let d = circuit_of ss in
    let names = names_of ss in
    let V = value_of d a in
    let n = length-input_wires d.inputs in
    let wires : AllFrom (λ k w. V w ≡ a k) 0 (input_wires d.inputs) = each_wire V a 0 (input_wires d.inputs) (λ k low. let e : k ≡ 0 + k = omega arith in value-input d a k is (omega arith) ∙ ap a e) in
    let same = all_weak (IsWired ss) (λ x. name_value ss a x ≡ V (wire_of names x)) (given_names ss) (λ x known. ap (ref_value d a) known) (given_all (IsWired ss) ss (all_wired ss ordered)) in
    each_name V a (wire_of names) (name_value ss a) 0 (given_names ss) same (subst (λ (ws : List ℕ). AllFrom (λ k w. V w ≡ a k) 0 ws) (wires_given names ss) wires)

-- ---- outputs

shown_by : (given : List StatementValue) (names : List (List ℕ)) (d : CircuitValue) (a : ℕ → Bool) (ss : List StatementValue) → map (λ (p : OutputPort). ref_value d a p.source) (outputs_by (driven_by given) names ss) ≡ map (λ x. ref_value d a (use_of (driven_by given) names x)) (shown_names ss)
shown_by given names d a [] = refl
shown_by given names d a (Input name ∷ ss) = shown_by given names d a ss
shown_by given names d a (Output name ∷ ss) = ap (λ (bs : List Bool). ref_value d a (use_of (driven_by given) names name) ∷ bs) (shown_by given names d a ss)
shown_by given names d a (Gate target rule operands ∷ ss) = shown_by given names d a ss
shown_by given names d a (Constant target value ∷ ss) = shown_by given names d a ss

-- the values of outputs are those of the names that they show
pub outputs_hold : (ss : List StatementValue) (a : ℕ → Bool) → circuit_outputs (circuit_of ss) a ≡ map (name_value ss a) (shown_names ss)
unfolding circuit_outputs
outputs_hold ss a = shown_by ss (names_of ss) (circuit_of ss) a ss
