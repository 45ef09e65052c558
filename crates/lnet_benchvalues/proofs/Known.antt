-- Nodes whose names have their values.
use Rattle.std.proofs.Common.{◌≡◌, ℕ, zero, suc, ◌+◌, ◌<◌, Bool, List, [], ◌∷◌, length, unwrap_or, Option, Some, sym, ap, subst, ◌∙◌, inl, inr, arith}
use Rattle.std.specs.Prelude.{◌⊎◌, slice_get}
use Rattle.std.specs.List.{AllByRecursion}
use Rattle.lnet_edge.specs.Circuits.{CircuitValue, AllFrom}
use Rattle.lnet_edge.specs.Wires.{input_wires, IsCircuit}
use Rattle.lnet_edge.specs.Values.{value_of, ref_value, driven, input_or, equation_at}
use Rattle.lnet_edge.proofs.ValueLemmas.{value_once}
use Rattle.lnet_naming.specs.Settling.{made_name, input_labels}
use Rattle.lnet_edge.specs.Shown.{input_names}
use Rattle.lnet_nodes.specs.Nodes.{name_at, label_of, node_name}
use Rattle.lnet_benchmeans.proofs.Plain.{IsOneOf}
use Rattle.lnet_benchmeans.proofs.Nodes.{place_some, length_labels}
use Rattle.lnet_benchmeans.proofs.Once.{length-input_names}

-- the name of each node of these wires has the node's value
abbrev pub AreKnown : (List ℕ → Bool) → (ℕ → Bool) → (ℕ → Option (List ℕ)) → (ℕ → Type 0) → Type 0
AreKnown v V label K = (w : ℕ) → K w → v (node_name label w) ≡ V w

-- one more gate is known
pub known_more : (v : List ℕ → Bool) (V : ℕ → Bool) (label : ℕ → Option (List ℕ)) (K : ℕ → Type 0) (t : ℕ) → AreKnown v V label K → v (node_name label t) ≡ V t → AreKnown v V label (λ w. (w ≡ t) ⊎ K w)
known_more v V label K t each one w (inl is) = ap (λ (u : ℕ). v (node_name label u)) is ∙ one ∙ ap V (sym is)
known_more v V label K t each one w (inr k) = each w k

pub one_holds : (P : ℕ → Type 0) (xs : List ℕ) → AllByRecursion P xs → (w : ℕ) → IsOneOf xs w → P w
one_holds P [] all w one = absurd one
one_holds P (x ∷ xs) all w (inl is) = subst P (sym is) all.0
one_holds P (x ∷ xs) all w (inr one) = one_holds P xs all.1 w one

-- ---- inputs

at_place : (v : List ℕ → Bool) (a : ℕ → Bool) (other : List ℕ) (i : ℕ) (xs : List (List ℕ)) (k : ℕ) → AllFrom (λ k x. v x ≡ a k) i xs → k < length xs → v (unwrap_or (slice_get xs k) other) ≡ a (i + k)
at_place v a other i [] k all low = absurd (omega arith)
at_place v a other i (x ∷ xs) zero all low = let e : i ≡ i + 0 = omega arith in all.0 ∙ ap a e
at_place v a other i (x ∷ xs) (suc k) all low = let e : (i + 1) + k ≡ i + suc k = omega arith in at_place v a other (i + 1) xs k all.1 (omega arith) ∙ ap a e

-- the names of inputs have the inputs' values
pub inputs_known : (c : CircuitValue) (a : ℕ → Bool) (v : List ℕ → Bool) → IsCircuit c → AllFrom (λ k x. v x ≡ a k) 0 (input_labels c.inputs) → AreKnown v (value_of c a) (label_of c) (IsOneOf (input_wires c.inputs))
inputs_known c a v is all w one =
    let p = place_some 0 w c.inputs one in
    let count = length_labels 105 0 [] (input_names c.inputs) ∙ length-input_names c.inputs in
    let low = p.1 in
    let e : 0 + p.0 ≡ p.0 = omega arith in
    ap (λ (o : Option ℕ). v (unwrap_or (name_at (input_labels c.inputs) o) (made_name 110 w))) (p.2 ∙ ap Some e)
    ∙ at_place v a (made_name 110 w) 0 (input_labels c.inputs) p.0 all (omega arith)
    ∙ sym (value_once c a w is ∙ ap (λ (o : Option ℕ). input_or o a (driven (ref_value c a) (equation_at w c.equations))) p.2)
