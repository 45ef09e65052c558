-- The values of the outputs of a network that is built, and that each of its gates is named.
use Rattle.std.proofs.Common.{◌≡◌, ℕ, ◌+◌, ◌≤◌, Bool, true, false, List, [], ◌∷◌, ◌++◌, map, length, All, refl, sym, ap, subst, ◌∙◌, arith, append_assoc}
use Rattle.std.specs.FinMap.{len, empty, len-empty, get-empty, len-insert}
use Rattle.std.specs.Prelude.{cond, is_some}
use Rattle.std.specs.Ordering.{nat_cmp}
use Rattle.std.proofs.lemmas.List.{length-append, length-map}
use Rattle.std.proofs.lemmas.Cmp.{nat_cmp_total}
use Rattle.lnet_gates.specs.declared.signal.Signal.{Signal}
use Rattle.lnet_gates.specs.declared.gate.Kind.{Kind}
use Rattle.lnet_model.specs.Networks.{NetworkValue, Entry, Constant, entry_at, live_count}
use Rattle.lnet_model.specs.Along.{over}
use Rattle.lnet_model.specs.Values.{signal_value, network_outputs}
use Rattle.lnet_model.specs.Dags.{IsStored, NUMBERS}
use Rattle.lnet_store.specs.StoreValues.{first_network, with_new_output}
use Rattle.lnet_store.proofs.StoreLemmas.{first-stored}
use Rattle.lnet_hashed.specs.Strashed.{of_kind}
use Rattle.lnet_edge.specs.declared.circuit.OutputPort.{OutputPort}
use Rattle.lnet_edge.specs.Circuits.{CircuitValue}
use Rattle.lnet_edge.specs.Wires.{IsCircuit, output_wires}
use Rattle.lnet_edge.specs.Values.{ref_value, circuit_outputs}
use Rattle.lnet_order.specs.Orders.{order_of}
use Rattle.lnet_order.specs.Sound.{AreDriven}
use Rattle.lnet_order.proofs.PlaceLemmas.{contains-next}
use Rattle.lnet_order.proofs.SoundLemmas.{order-sound}
use Rattle.lnet_build.specs.Built.{Building, first_building, with_ports, raised, with_outputs, output_signals, read_as, unswept, numbers_needed}
use Rattle.lnet_build.specs.Signals.{FitsPlace}
use Rattle.lnet_build.proofs.StandLemmas.{places-grows}
use Rattle.lnet_build.proofs.PortValues.{IsSound, ports-sound, ports-count, ports-known}
use Rattle.lnet_build.proofs.EquationValues.{IsRaised, read-value, places-raised}

-- ---- the beginning

kind-stored : (kind : Kind) (N : NetworkValue) → IsStored N → IsStored (of_kind kind N)
unfolding entry_at
kind-stored kind N h = record {
  dag = record { acyclic = h.dag.acyclic; closed = h.dag.closed; arities = h.dag.arities };
  whole = record { first = h.whole.first; closed = h.whole.closed; outputs_live = h.whole.outputs_live };
  constants = h.constants;
  inputs = h.inputs;
  below = h.below;
  few_outputs = h.few_outputs;
}

pub first-count : (kind : Kind) → live_count (first_building kind).network ≡ 1
unfolding live_count first_network
first-count kind =
    let zero_long = len-empty {K = ℕ} nat_cmp Entry in
    len-insert nat_cmp_total empty 0 Constant
    ∙ ap (λ o. cond (is_some o) (len (empty {K = ℕ} {X = Entry} {R = nat_cmp})) (len (empty {K = ℕ} {X = Entry} {R = nat_cmp}) + 1)) (get-empty {X = Entry} nat_cmp 0)
    ∙ ap (λ n. n + 1) zero_long

first-sound : (c : CircuitValue) (kind : Kind) → IsSound c 0 (first_building kind)
unfolding first_network
first-sound c kind = record {
  stored = kind-stored kind first_network first-stored;
  outputs = refl;
  inputs = refl;
  live = λ w s found. absurd cc;
  valued = λ w s found a. absurd cc;
}

module _ (kind : Kind) (c : CircuitValue) where
  -- the inputs are a part of what is needed
  pub ports-within : 1 + length c.inputs ≤ numbers_needed kind c
  unfolding raised
  ports-within =
      let first = first-count kind in
      let ports = ports-count (first_building kind) c.inputs in
      let more = places-grows kind c.equations (with_ports (first_building kind) c.inputs) (order_of c) in
      omega arith

  module _ (circuit : IsCircuit c) (words : All (FitsPlace c.equations) (order_of c)) (few : numbers_needed kind c ≤ NUMBERS) where
    pub raised-sound : IsRaised c (order_of c) (raised kind c)
    unfolding raised
    raised-sound =
        let first = first-count kind in
        let within = ports-within in
        let none : 0 + length c.inputs ≡ length c.inputs = omega arith in
        let ports = subst (λ k. IsSound c k (with_ports (first_building kind) c.inputs)) none (ports-sound c circuit c.inputs 0 (first_building kind) refl (first-sound c kind) (omega arith)) in
        let start : IsRaised c [] (with_ports (first_building kind) c.inputs) = record {
          sound = ports;
          inputs = λ w k found. ports-known (first_building kind) c.inputs 0 w k found;
          done_known = λ k e there at. absurd (let z : false ≡ true = there in cc);
        } in
        places-raised c circuit kind (order_of c) [] (with_ports (first_building kind) c.inputs) start (order-sound c circuit).order words few

-- ---- the outputs

output-values : (N : NetworkValue) (s : Signal) (a : ℕ → Bool) (ss : List Signal) → map (signal_value (with_new_output N s) a) ss ≡ map (signal_value N a) ss
unfolding with_new_output over entry_at live_count
output-values N s a ss = refl

added-outputs : (N : NetworkValue) (s : Signal) → (with_new_output N s).outputs ≡ N.outputs ++ s ∷ []
unfolding with_new_output
added-outputs N s = refl

pub with_outputs-values : (N : NetworkValue) (ss : List Signal) (a : ℕ → Bool) → network_outputs (with_outputs N ss) a ≡ map (signal_value N a) (N.outputs ++ ss)
unfolding network_outputs
with_outputs-values N [] a = ap (map (signal_value N a)) (sym (nil N.outputs))
  where
    nil : (xs : List Signal) → xs ++ [] ≡ xs
    nil [] = refl
    nil (x ∷ xs) = ap (λ ys. x ∷ ys) (nil xs)
with_outputs-values N (s ∷ ss) a =
    with_outputs-values (with_new_output N s) ss a
    ∙ output-values N s a ((with_new_output N s).outputs ++ ss)
    ∙ ap (λ os. map (signal_value N a) (os ++ ss)) (added-outputs N s)
    ∙ ap (map (signal_value N a)) (append_assoc N.outputs (s ∷ []) ss)

ports-values : (c : CircuitValue) (circuit : IsCircuit c) (done : List ℕ) (b : Building) (a : ℕ → Bool) (ps : List OutputPort) → IsRaised c done b → AreDriven c.equations done (output_wires ps) → map (signal_value b.network a) (output_signals b.signals ps) ≡ map (λ (p : OutputPort). ref_value c a p.source) ps
ports-values c circuit done b a [] h driven_done = refl
ports-values c circuit done b a (p ∷ ps) h driven_done =
    λ i. read-value c circuit done b p.source a h (driven_done p.source.wire.0 (0, omega arith, refl)) i
    ∷ ports-values c circuit done b a ps h (λ v has. driven_done v (contains-next p.source.wire.0 v (output_wires ps) has)) i

-- ---- how many inputs and outputs there are

with_outputs-inputs : (N : NetworkValue) (ss : List Signal) → (with_outputs N ss).inputs ≡ N.inputs
unfolding with_new_output
with_outputs-inputs N [] = refl
with_outputs-inputs N (s ∷ ss) = with_outputs-inputs (with_new_output N s) ss

with_outputs-outputs : (N : NetworkValue) (ss : List Signal) → length (with_outputs N ss).outputs ≡ length N.outputs + length ss
with_outputs-outputs N [] = omega arith
with_outputs-outputs N (s ∷ ss) =
    let more = with_outputs-outputs (with_new_output N s) ss in
    let one = ap (λ (os : List Signal). length os) (added-outputs N s) ∙ length-append N.outputs (s ∷ []) in
    omega arith

-- as many as the circuit has, before the sweep
pub unswept-ports : (kind : Kind) (c : CircuitValue) → IsCircuit c → All (FitsPlace c.equations) (order_of c) → numbers_needed kind c ≤ NUMBERS → (length (unswept kind c).inputs ≡ length c.inputs) × (length (unswept kind c).outputs ≡ length c.outputs)
unswept-ports kind c circuit words few =
    let b : Building = raised kind c in
    let h = raised-sound kind c circuit words few in
    let ss = output_signals b.signals c.outputs in
    let outputs = with_outputs-outputs b.network ss in
    let none = ap (λ (os : List Signal). length os) h.sound.outputs in
    let count = length-map c.outputs (λ (p : OutputPort). read_as b.signals p.source) in
    (ap (λ (ns : List ℕ). length ns) (with_outputs-inputs b.network ss) ∙ h.sound.inputs, omega arith)

-- the outputs have the circuit's values, before the sweep
pub unswept-values : (kind : Kind) (c : CircuitValue) → IsCircuit c → All (FitsPlace c.equations) (order_of c) → numbers_needed kind c ≤ NUMBERS → (a : ℕ → Bool) → network_outputs (unswept kind c) a ≡ circuit_outputs c a
unfolding circuit_outputs
unswept-values kind c circuit words few a =
    let b : Building = raised kind c in
    let h = raised-sound kind c circuit words few in
    with_outputs-values b.network (output_signals b.signals c.outputs) a
    ∙ ap (λ os. map (signal_value b.network a) (os ++ output_signals b.signals c.outputs)) h.sound.outputs
    ∙ ports-values c circuit (order_of c) b a c.outputs h (order-sound c circuit).driven
