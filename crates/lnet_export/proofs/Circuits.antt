-- The circuit of a network keeps the rules of circuits, and is plain.
use Rattle.std.proofs.Common.{◌≡◌, ℕ, zero, suc, ◌+◌, ◌<◌, ◌≤◌, ◌⊎◌, true, ◌&&◌, IsSome, List, [], ◌∷◌, ◌++◌, length, map, flat_map, get_or, slice_get, Contains, All, Option, None, Some, refl, sym, ap, subst, ◌∙◌, inl, inr, arith, length-append}
use Rattle.std.specs.List.{AllByRecursion, list_all}
use Rattle.std.proofs.lemmas.List.{length-map}
use Rattle.std.proofs.lemmas.List.Elements.{All-from_recursion}
use Rattle.std.proofs.lemmas.Option.{slice_get-get_or}
use Rattle.lnet_gates.specs.declared.signal.Signal.{Signal}
use Rattle.lnet_gates.specs.Gates.{GateValue}
use Rattle.lnet_model.specs.Networks.{NetworkValue, Entry, Constant, Input, IsGate, IsLive, entry_at, live_count}
use Rattle.lnet_model.specs.Along.{In, at_entry, nodes_read, fanin_nodes}
use Rattle.lnet_model.specs.Changes.{IsGateAt}
use Rattle.lnet_model.specs.Dags.{IsStored, NUMBERS}
use Rattle.lnet_model.specs.Levels.{level, level_step}
use Rattle.lnet_model.proofs.Levels.{level-falls}
use Rattle.lnet_model.proofs.Map.{Apart, count_apart}
use Rattle.lnet_model.proofs.Over.{over-once}
use Rattle.lnet_edge.specs.declared.circuit.WireRef.{WireRef}
use Rattle.lnet_edge.specs.Circuits.{EquationValue}
use Rattle.lnet_edge.specs.Wires.{output_wires, targets, operand_wires, driven_wires, used_wires, Repeats, IsUndriven, IsTwice, Reads, IsWalk, end_of, IsCyclic, HasArity, HasArities, IsCircuit}
use Rattle.lnet_edge.specs.Plain.{is_gate_equation, IsPlain}
use Rattle.lnet_edge.proofs.SearchLemmas.{reads_from}
use Rattle.lnet_edge.proofs.WireLemmas.{length-targets}
use Rattle.lnet_names.specs.NameLists.{NamesValue}
use Rattle.lnet_export.specs.Exported.{wire_for, wire_at, ref_in, gates_in_order, equations_in, exported}
use Rattle.lnet_export.proofs.Lists.{in-left, in-right, in-cases, in-contains, in-at, contains-in, each-append, each-weaker, each-in, apart-append, apart-once, apart-by_place}
use Rattle.lnet_export.proofs.Orders.{Before, order-at, order-gates, order-in_order, order-has}
use Rattle.lnet_export.proofs.GateEquations.{IsEquationOf, equations-each, equations-targets, equation-of}
use Rattle.lnet_export.proofs.RuleValues.{rule-arity, rule-is_gate}
use Rattle.lnet_export.proofs.PortLemmas.{inputs-wires, inputs-count, outputs-wires, outputs-count}

-- there is a name, or none, for each input and each output
pub record AreNamesOf (N : NetworkValue) (names : NamesValue) : Type 0 where
  pub inputs : length names.inputs ≡ length N.inputs
  pub outputs : length names.outputs ≡ length N.outputs

-- ---- what is driven

-- the constant's wire, and the wires of the inputs and of the gates
abbrev pub wires_of : NetworkValue → List ℕ
wires_of N = 0 ∷ (N.inputs ++ gates_in_order N)

pub driven-is : (N : NetworkValue) (names : NamesValue) → AreNamesOf N names → driven_wires (exported N names) ≡ wires_of N
driven-is N names named = λ i. 0 ∷ (inputs-wires N.inputs names.inputs named.inputs i ++ equations-targets N i)

input-at : (N : NetworkValue) → IsStored N → (n : ℕ) → In n N.inputs → (k : ℕ) × (entry_at N n ≡ Some (Input k))
input-at N stored n i =
    let c = in-contains n N.inputs i in
    (c.0, (stored.inputs n c.0).1 (slice_get-get_or N.inputs c.0 n c.1 ∙ ap Some c.2))

pub listed-input : (N : NetworkValue) → IsStored N → (n k : ℕ) → entry_at N n ≡ Some (Input k) → (k < length N.inputs) × (get_or N.inputs k 0 ≡ n)
listed-input N stored n k is = found N.inputs k ((stored.inputs n k).0 is)
  where
    found : (xs : List ℕ) (k : ℕ) → slice_get xs k ≡ Some n → (k < length xs) × (get_or xs k 0 ≡ n)
    found [] k e = absurd (let z : None ≡ Some n = e in cc)
    found (x ∷ xs) zero e = (omega arith, let z : Some x ≡ Some n = e in cc)
    found (x ∷ xs) (suc k) e = let r = found xs k e in ((let h = r.0 in omega arith), r.1)

wire-in : (N : NetworkValue) → IsStored N → (n : ℕ) → In (wire_at N n) (wires_of N)
wire-in N stored n = by (entry_at N n) refl
  where
    by : (o : Option Entry) → entry_at N n ≡ o → In (wire_at N n) (wires_of N)
    by None is = inl (ap (wire_for n) is)
    by (Some Constant) is = inl (ap (wire_for n) is)
    by (Some (Input k)) is =
        let r = listed-input N stored n k is in
        inr (in-left (wire_at N n) N.inputs (gates_in_order N) (subst (λ z. In z N.inputs) (r.1 ∙ sym (ap (wire_for n) is)) (in-at N.inputs k 0 r.0)))
    by (Some (IsGate g)) is = inr (in-right (wire_at N n) N.inputs (gates_in_order N) (subst (λ z. In z (gates_in_order N)) (sym (ap (wire_for n) is)) (order-has N n g is)))

-- each wire that is named stands for a node
wires-named : (N : NetworkValue) → IsStored N → (ss : List Signal) → AllByRecursion (λ w. In w (wires_of N)) (map (λ (s : Signal). wire_at N s.node.0) ss)
wires-named N stored [] = tt
wires-named N stored (s ∷ ss) = (wire-in N stored s.node.0, wires-named N stored ss)

operands-are : (N : NetworkValue) (ss : List Signal) → map (λ (r : WireRef). r.wire.0) (map (ref_in N) ss) ≡ map (λ (s : Signal). wire_at N s.node.0) ss
operands-are N [] = refl
operands-are N (s ∷ ss) = ap (λ ws. wire_at N s.node.0 ∷ ws) (operands-are N ss)

pub operands-of : (N : NetworkValue) (e : EquationValue) (p : IsEquationOf N e) → operand_wires e ≡ map (λ (s : Signal). wire_at N s.node.0) p.gate.fanins
operands-of N e p = ap operand_wires p.same ∙ operands-are N p.gate.fanins

operands-named : (N : NetworkValue) → IsStored N → (es : List EquationValue) → AllByRecursion (IsEquationOf N) es → AllByRecursion (λ w. In w (wires_of N)) (flat_map operand_wires es)
operands-named N stored [] all = tt
operands-named N stored (e ∷ es) all =
    each-append (λ w. In w (wires_of N)) (operand_wires e) (flat_map operand_wires es)
    (subst (AllByRecursion (λ w. In w (wires_of N))) (sym (operands-of N e all.0)) (wires-named N stored all.0.gate.fanins))
    (operands-named N stored es all.1)

driven-exported : (N : NetworkValue) (names : NamesValue) → IsStored N → AreNamesOf N names → ¬ (IsUndriven (exported N names))
driven-exported N names stored named (w, used, undriven) =
    let outputs = subst (AllByRecursion (λ z. In z (wires_of N))) (sym (outputs-wires N N.outputs names.outputs named.outputs)) (wires-named N stored N.outputs) in
    let all = each-append (λ z. In z (wires_of N)) (output_wires (exported N names).outputs) (flat_map operand_wires (equations_in N)) outputs (operands-named N stored (equations_in N) (equations-each N)) in
    let here = each-in (λ z. In z (wires_of N)) (used_wires (exported N names)) w all (contains-in w (used_wires (exported N names)) used) in
    undriven (subst (λ ws. Contains ws w) (sym (driven-is N names named)) (in-contains w (wires_of N) here))

-- ---- driven once

no-input-gate : (N : NetworkValue) (n k : ℕ) (g : GateValue) → entry_at N n ≡ Some (Input k) → entry_at N n ≡ Some (IsGate g) → ⊥
no-input-gate N n k g a b = let z : Some (Input k) ≡ Some (IsGate g) = sym a ∙ b in cc

no-constant-input : (N : NetworkValue) (n k : ℕ) → entry_at N n ≡ Some Constant → entry_at N n ≡ Some (Input k) → ⊥
no-constant-input N n k a b = let z : Some Constant ≡ Some (Input k) = sym a ∙ b in cc

no-constant-gate : (N : NetworkValue) (n : ℕ) (g : GateValue) → entry_at N n ≡ Some Constant → entry_at N n ≡ Some (IsGate g) → ⊥
no-constant-gate N n g a b = let z : Some Constant ≡ Some (IsGate g) = sym a ∙ b in cc

gate-in : (N : NetworkValue) (n : ℕ) → In n (gates_in_order N) → IsGateAt N n
gate-in N n i = each-in (IsGateAt N) (gates_in_order N) n (order-gates N) i

inputs-apart : (N : NetworkValue) → IsStored N → Apart N.inputs
inputs-apart N stored = apart-by_place N.inputs (λ i j below within same.
    let a = (stored.inputs (get_or N.inputs i 0) i).1 (slice_get-get_or N.inputs i 0 (omega arith)) in
    let b = (stored.inputs (get_or N.inputs i 0) j).1 (slice_get-get_or N.inputs j 0 within ∙ ap Some (sym same)) in
    let z : Some (Input i) ≡ Some (Input j) = sym a ∙ b in
    let e : i ≡ j = cc in
    omega arith)

not-before-itself : (N : NetworkValue) (n : ℕ) → Before N n n → ⊥
not-before-itself N n (inl h) = omega arith
not-before-itself N n (inr h) = let k = h.1 in omega arith

gates-apart : (N : NetworkValue) → Apart (gates_in_order N)
gates-apart N = apart-by_place (gates_in_order N) (λ i j below within same.
    not-before-itself N (get_or (gates_in_order N) j 0) (subst (λ z. Before N z (get_or (gates_in_order N) j 0)) same (order-at N (gates_in_order N) i j (order-in_order N) below within)))

wires-apart : (N : NetworkValue) → IsStored N → Apart (wires_of N)
wires-apart N stored = (
  λ i. elim (in-cases 0 N.inputs (gates_in_order N) i) [
    | inl h ↦ let r = input-at N stored 0 h in no-constant-input N 0 r.0 stored.whole.first r.1
    | inr h ↦ let r = gate-in N 0 h in no-constant-gate N 0 r.0 stored.whole.first r.1
  ],
  apart-append N.inputs (gates_in_order N) (inputs-apart N stored) (gates-apart N) (λ n a b. let p = input-at N stored n a in let q = gate-in N n b in no-input-gate N n p.0 q.0 p.1 q.1),
)

once-exported : (N : NetworkValue) (names : NamesValue) → IsStored N → AreNamesOf N names → ¬ (IsTwice (exported N names))
once-exported N names stored named twice = apart-once (wires_of N) (wires-apart N stored) (subst Repeats (driven-is N names named) twice)

-- ---- counts

live-by : (N : NetworkValue) (n : ℕ) (e : Entry) → entry_at N n ≡ Some e → IsLive N n
live-by N n e is = subst (λ o. IsSome o) (sym is) refl

wires-live : (N : NetworkValue) → IsStored N → (n : ℕ) → In n (wires_of N) → IsLive N n
wires-live N stored n (inl e) = live-by N n Constant (ap (entry_at N) e ∙ stored.whole.first)
wires-live N stored n (inr i) = elim (in-cases n N.inputs (gates_in_order N) i) [
  | inl h ↦ let r = input-at N stored n h in live-by N n (Input r.0) r.1
  | inr h ↦ let r = gate-in N n h in live-by N n (IsGate r.0) r.1
]

wires-few : (N : NetworkValue) → IsStored N → length (wires_of N) ≤ live_count N
unfolding live_count entry_at
wires-few N stored = count_apart (wires_of N) N.nodes (wires-apart N stored) (wires-live N stored)

-- the constant, the inputs and the gates are no more than the live numbers
pub exported-few : (N : NetworkValue) (names : NamesValue) → IsStored N → AreNamesOf N names → suc (length (exported N names).inputs + length (exported N names).equations) ≤ live_count N
exported-few N names stored named =
    let all = wires-few N stored in
    let both = length-append N.inputs (gates_in_order N) in
    let inputs = inputs-count N.inputs names.inputs named.inputs in
    let equations : length (equations_in N) ≡ length (gates_in_order N) = sym (length-targets (equations_in N)) ∙ ap length (equations-targets N) in
    omega arith

-- ---- no cycle

level-zero : (N : NetworkValue) → IsStored N → level N 0 ≡ 0
level-zero N stored = over-once N level_step 0 stored.dag.acyclic 0 ∙ ap (at_entry 0 (λ e. level_step 0 e _)) stored.whole.first

-- the wire of a number is no higher
wire-level : (N : NetworkValue) → IsStored N → (n : ℕ) → level N (wire_at N n) ≤ level N n
wire-level N stored n = by (entry_at N n) refl
  where
    zero-low : level N 0 ≤ level N n
    zero-low = let e = level-zero N stored in omega arith

    same-low : level N n ≤ level N n
    same-low = omega arith

    by : (o : Option Entry) → entry_at N n ≡ o → level N (wire_at N n) ≤ level N n
    by None is = subst (λ z. level N z ≤ level N n) (sym (ap (wire_for n) is)) zero-low
    by (Some Constant) is = subst (λ z. level N z ≤ level N n) (sym (ap (wire_for n) is)) zero-low
    by (Some (Input k)) is = subst (λ z. level N z ≤ level N n) (sym (ap (wire_for n) is)) same-low
    by (Some (IsGate g)) is = subst (λ z. level N z ≤ level N n) (sym (ap (wire_for n) is)) same-low

fanin-of : (N : NetworkValue) (v : ℕ) (ss : List Signal) → In v (map (λ (s : Signal). wire_at N s.node.0) ss) → (m : ℕ) × In m (nodes_read ss) × (v ≡ wire_at N m)
fanin-of N v [] i = absurd i
fanin-of N v (s ∷ ss) (inl e) = (s.node.0, inl refl, e)
fanin-of N v (s ∷ ss) (inr i) = let r = fanin-of N v ss i in (r.0, inr r.1, r.2)

reads-lower : (N : NetworkValue) → IsStored N → (w v : ℕ) → Reads (equations_in N) w v → level N v < level N w
reads-lower N stored w v (e, stands, target, reads) =
    let p = equation-of N e stands in
    let r = fanin-of N v p.gate.fanins (subst (In v) (operands-of N e p) (contains-in v (operand_wires e) reads)) in
    let read : In r.0 (fanin_nodes (entry_at N e.target)) = subst (λ o. In r.0 (fanin_nodes o)) (sym p.at) r.1 in
    let falls = level-falls N stored.dag.acyclic e.target r.0 read in
    let low = wire-level N stored r.0 in
    let here : level N v ≡ level N (wire_at N r.0) = ap (level N) r.2 in
    let there : level N e.target ≡ level N w = ap (level N) target in
    omega arith

walks-fall : (N : NetworkValue) → IsStored N → (w : ℕ) (vs : List ℕ) → IsWalk (equations_in N) w vs → level N (end_of w vs) ≤ level N w
walks-fall N stored w [] walk = omega arith
walks-fall N stored w (v ∷ vs) walk = let low = reads-lower N stored w v walk.0 in let rest = walks-fall N stored v vs walk.1 in omega arith

acyclic-exported : (N : NetworkValue) (names : NamesValue) → IsStored N → ¬ (IsCyclic (exported N names))
acyclic-exported N names stored (w, (v, vs, walk, back)) =
    let low = reads-lower N stored w v walk.0 in
    let rest = walks-fall N stored v vs walk.1 in
    let same : level N (end_of v vs) ≡ level N w = ap (level N) back in
    omega arith

-- ---- the rules of circuits

arity-of : (N : NetworkValue) → IsStored N → (e : EquationValue) → IsEquationOf N e → HasArity e.rule (length e.operands)
arity-of N stored e p =
    subst (λ (f : EquationValue). HasArity f.rule (length f.operands)) (sym p.same)
    (rule-arity p.gate.op p.gate.phase (length p.gate.fanins) (length (map (ref_in N) p.gate.fanins)) (stored.dag.arities e.target p.gate p.at) (length-map p.gate.fanins (ref_in N)))

pub arities-exported : (N : NetworkValue) → IsStored N → HasArities (equations_in N)
arities-exported N stored = All-from_recursion (λ (e : EquationValue). HasArity e.rule (length e.operands)) (equations_in N) (each-weaker (IsEquationOf N) (λ (e : EquationValue). HasArity e.rule (length e.operands)) (arity-of N stored) (equations_in N) (equations-each N))

pub exported-IsCircuit : (N : NetworkValue) (names : NamesValue) → IsStored N → live_count N ≤ NUMBERS → AreNamesOf N names → IsCircuit (exported N names)
exported-IsCircuit N names stored limit named = record {
  driven = driven-exported N names stored named;
  once = once-exported N names stored named;
  acyclic = acyclic-exported N names stored;
  arities = arities-exported N stored;
  few = let h = exported-few N names stored named in omega arith;
  few_outputs = let h = stored.few_outputs in let n = outputs-count N N.outputs names.outputs named.outputs in omega arith;
}

-- ---- plain

gate-equation : (N : NetworkValue) → IsStored N → (e : EquationValue) → IsEquationOf N e → is_gate_equation e ≡ true
gate-equation N stored e p =
    ap is_gate_equation p.same
    ∙ rule-is_gate p.gate.op p.gate.phase (length p.gate.fanins) (length (map (ref_in N) p.gate.fanins)) (stored.dag.arities e.target p.gate p.at) (length-map p.gate.fanins (ref_in N))

gate-equations : (N : NetworkValue) → IsStored N → (es : List EquationValue) → AllByRecursion (IsEquationOf N) es → list_all is_gate_equation es ≡ true
gate-equations N stored [] all = refl
gate-equations N stored (e ∷ es) all = ap (λ b. b && list_all is_gate_equation es) (gate-equation N stored e all.0) ∙ gate-equations N stored es all.1

later-not-lower : (N : NetworkValue) (i k : ℕ) → i < length (gates_in_order N) → k < length (gates_in_order N) → level N (get_or (gates_in_order N) k 0) < level N (get_or (gates_in_order N) i 0) → k < i
later-not-lower N i k i_low k_low falls = elim (order-cases i k) [
  | inl h ↦ elim (order-at N (gates_in_order N) i k (order-in_order N) h k_low) as (λ _. k < i) [ inl b ↦ absurd (omega arith) | inr b ↦ absurd (let e = b.0 in omega arith) ]
  | inr h ↦ elim (same-cases i k h) as (λ _. k < i) [
    | inl e ↦ absurd (let z : level N (get_or (gates_in_order N) i 0) ≡ level N (get_or (gates_in_order N) k 0) = ap (λ j. level N (get_or (gates_in_order N) j 0)) e in omega arith)
    | inr b ↦ b
  ]
]
  where
    order-cases : (i k : ℕ) → (i < k) ⊎ (k ≤ i)
    order-cases i k = grind arith

    same-cases : (i k : ℕ) → k ≤ i → (i ≡ k) ⊎ (k < i)
    same-cases i k h = grind arith

pub exported-IsPlain : (N : NetworkValue) → IsStored N → IsPlain (equations_in N)
exported-IsPlain N stored = record {
  gates = gate-equations N stored (equations_in N) (equations-each N);
  ordered = λ i k i_low k_low reads.
      let same = equations-targets N in
      let count : length (equations_in N) ≡ length (gates_in_order N) = sym (length-targets (equations_in N)) ∙ ap length same in
      let falls = reads-lower N stored (get_or (targets (equations_in N)) i 0) (get_or (targets (equations_in N)) k 0) (reads_from (equations_in N) i (get_or (targets (equations_in N)) k 0) i_low reads) in
      later-not-lower N i k (omega arith) (omega arith) (subst (λ (ts : List ℕ). level N (get_or ts k 0) < level N (get_or ts i 0)) same falls);
}
