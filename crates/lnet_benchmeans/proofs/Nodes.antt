-- The names of nodes among those that are driven.
use Rattle.std.proofs.Common.{◌≡◌, ◌≢◌, ℕ, zero, suc, ◌+◌, ◌<◌, Bool, true, false, cond, eqb, List, [], ◌∷◌, length, unwrap_or, Option, Some, None, refl, sym, ap, ◌∙◌, inl, inr, arith}
use Rattle.std.specs.Prelude.{◌||◌, slice_get}
use Rattle.std.specs.List.{AllByRecursion}
use Rattle.std.specs.Str.{bytes_eq}
use Rattle.std.proofs.lemmas.Bool.{ne_eqb}
use Rattle.std.proofs.lemmas.Bool.Decides.{eqb_tells}
use Rattle.std.proofs.lemmas.Slice.Eq.{bytes_eq-Decides}
use Rattle.lnet_edge.specs.declared.circuit.InputPort.{InputPort}
use Rattle.lnet_edge.specs.Circuits.{CircuitValue}
use Rattle.lnet_edge.specs.Values.{input_place}
use Rattle.lnet_edge.specs.Wires.{input_wires}
use Rattle.lnet_wires.specs.Naming.{is_seen}
use Rattle.lnet_naming.specs.Settling.{made_name, settle, settle_all, input_labels}
use Rattle.lnet_edge.specs.Shown.{input_names}
use Rattle.lnet_nodes.specs.Nodes.{name_at, label_of, node_name}
use Rattle.lnet_benchmeans.proofs.Plain.{IsOneOf}
use Rattle.lnet_benchmeans.proofs.Once.{length-input_names}

pub eqb_same : (p q : ℕ) → p ≡ q → eqb p q ≡ true
eqb_same p q e = elim (eqb_tells p q) as (λ _. eqb p q ≡ true) [ inl h ↦ h.0 | inr h ↦ absurd (h.1 e) ]

-- the place of an input that drives the wire
pub place_some : (i w : ℕ) (ps : List InputPort) → IsOneOf (input_wires ps) w → (k : ℕ) × (k < length ps) × (input_place i w ps ≡ Some (i + k))
place_some i w [] one = absurd one
place_some i w (p ∷ ps) one = elim (eqb_tells p.wire.0 w) as (λ _. (k : ℕ) × (k < length (p ∷ ps)) × (input_place i w (p ∷ ps) ≡ Some (i + k))) [
  | inl h ↦
      let e : i ≡ i + 0 = omega arith in
      (0, omega arith, ap (λ (b : Bool). cond b (Some i) (input_place (i + 1) w ps)) h.0 ∙ ap Some e)
  | inr h ↦
      let r = place_some (i + 1) w ps (another p.wire.0 (input_wires ps) (λ e. h.1 (sym e)) one) in
      let e : (i + 1) + r.0 ≡ i + suc r.0 = omega arith in
      (suc r.0, (let low = r.1 in omega arith), ap (λ (b : Bool). cond b (Some i) (input_place (i + 1) w ps)) (ne_eqb p.wire.0 w h.1) ∙ r.2 ∙ ap Some e)
]
  where
    another : (x : ℕ) (xs : List ℕ) → w ≢ x → IsOneOf (x ∷ xs) w → IsOneOf xs w
    another x xs apart (inl is) = absurd (apart is)
    another x xs apart (inr rest) = rest

place_none : (i w : ℕ) (ps : List InputPort) → AllByRecursion (λ v. v ≢ w) (input_wires ps) → input_place i w ps ≡ None
place_none i w [] apart = refl
place_none i w (p ∷ ps) apart = ap (λ (b : Bool). cond b (Some i) (input_place (i + 1) w ps)) (ne_eqb p.wire.0 w apart.0) ∙ place_none (i + 1) w ps apart.1

-- a name at a place is one of the names
get_seen : (names : List (List ℕ)) (k : ℕ) → k < length names → (x : List ℕ) × (slice_get names k ≡ Some x) × (is_seen names x ≡ true)
get_seen [] k low = absurd (omega arith)
get_seen (name ∷ names) zero low = (name, refl, ap (λ (b : Bool). b || is_seen names name) ((bytes_eq-Decides name name).1 refl))
get_seen (name ∷ names) (suc k) low =
    let r = get_seen names k (omega arith) in
    (r.0, r.1, elim (bytes_eq r.0 name) as (λ b. (b || is_seen names r.0) ≡ true) [ true ↦ refl | false ↦ r.2 ])

pub length_labels : (letter place : ℕ) (kept : List (List ℕ)) (names : List (Option (List ℕ))) → length (settle_all letter place kept names).0 ≡ length names
length_labels letter place kept [] = refl
length_labels letter place kept (name ∷ names) = ap suc (length_labels letter (place + 1) (settle letter place kept name).1 names)

-- the node of an input has one of the inputs' names
pub input_named : (c : CircuitValue) (w : ℕ) → IsOneOf (input_wires c.inputs) w → is_seen (input_labels c.inputs) (node_name (label_of c) w) ≡ true
input_named c w one =
    let p = place_some 0 w c.inputs one in
    let count = length_labels 105 0 [] (input_names c.inputs) ∙ length-input_names c.inputs in
    let low = p.1 in
    let r = get_seen (input_labels c.inputs) p.0 (omega arith) in
    let e : 0 + p.0 ≡ p.0 = omega arith in
    ap (λ (o : Option ℕ). is_seen (input_labels c.inputs) (unwrap_or (name_at (input_labels c.inputs) o) (made_name 110 w))) (p.2 ∙ ap Some e)
    ∙ ap (λ (o : Option (List ℕ)). is_seen (input_labels c.inputs) (unwrap_or o (made_name 110 w))) r.1
    ∙ r.2

-- another node has the name of a gate
pub gate_named : (c : CircuitValue) (w : ℕ) → AllByRecursion (λ v. v ≢ w) (input_wires c.inputs) → node_name (label_of c) w ≡ made_name 110 w
gate_named c w apart = ap (λ (o : Option ℕ). unwrap_or (name_at (input_labels c.inputs) o) (made_name 110 w)) (place_none 0 w c.inputs apart)
