-- The values of the inputs of a network that is built.
use Rattle.std.proofs.Common.{◌≡◌, ◌≢◌, ℕ, zero, suc, ◌+◌, ◌<◌, ◌≤◌, ◌==◌, Bool, true, false, List, [], ◌∷◌, map, length, get_or, drop, Option, None, Some, IsSome, refl, sym, ap, subst, ◌∙◌, inl, inr, arith, length-append}
use Rattle.std.specs.Prelude.{if◌then◌else◌}
use Rattle.std.proofs.lemmas.Bool.Decides.{eqb_tells}
use Rattle.lnet_gates.specs.declared.signal.Signal.{Signal}
use Rattle.lnet_gates.specs.Gates.{flip}
use Rattle.lnet_model.specs.Networks.{NetworkValue, Input, IsLive, entry_at, live_count, fanins_of}
use Rattle.lnet_model.specs.Along.{at_entry, over}
use Rattle.lnet_model.specs.Values.{value_step, node_value, signal_value}
use Rattle.lnet_model.specs.Changes.{with_entry}
use Rattle.lnet_model.specs.Dags.{IsStored, NUMBERS}
use Rattle.lnet_model.proofs.Over.{over-once}
use Rattle.lnet_model.proofs.Changes.{with_entry-here, add-over}
use Rattle.lnet_store.specs.StoreValues.{with_input}
use Rattle.lnet_store.proofs.ChangeLemmas.{stored-input}
use Rattle.lnet_hashed.specs.Strashed.{least_free}
use Rattle.lnet_hashed.proofs.Adding.{least-free-is, least-low}
use Rattle.lnet_edge.specs.declared.circuit.InputPort.{InputPort}
use Rattle.lnet_edge.specs.Circuits.{CircuitValue}
use Rattle.lnet_edge.specs.Wires.{IsCircuit}
use Rattle.lnet_edge.specs.Values.{input_place, value_of}
use Rattle.lnet_edge.proofs.ValueLemmas.{value-input}
use Rattle.lnet_edge.proofs.DriverLemmas.{wire_at-inputs}
use Rattle.lnet_build.specs.Built.{Building, known, with_port, with_ports}
use Rattle.lnet_build.proofs.StandLemmas.{input-here, input-keeps, entered-count}

-- the network without outputs, of so many inputs, and of each wire that is built a live signal of the wire's value
pub record IsSound (c : CircuitValue) (count : ℕ) (b : Building) : Type 0 where
  pub stored : IsStored b.network
  pub outputs : b.network.outputs ≡ []
  pub inputs : length b.network.inputs ≡ count
  pub live : (w : ℕ) (s : Signal) → known b.signals w ≡ Some s → IsLive b.network s.node.0
  pub valued : (w : ℕ) (s : Signal) → known b.signals w ≡ Some s → (a : ℕ → Bool) → signal_value b.network a s ≡ value_of c a w

-- ---- a network with one more input

module _ (N : NetworkValue) (n : ℕ) (stored : IsStored N) (free : entry_at N n ≡ None) where
  not-new : (m : ℕ) → IsLive N m → m ≢ n
  not-new m h is = let none : false ≡ true = subst IsSome (ap (entry_at N) is ∙ free) h in cc

  input-values : (a : ℕ → Bool) (m : ℕ) → IsLive N m → node_value (with_input N n) a m ≡ node_value N a m
  unfolding with_input with_entry over entry_at live_count
  input-values a m h = add-over N n (Input (length N.inputs)) stored.dag.closed free (λ k i. absurd i) (value_step a) false stored.dag.acyclic m (not-new m h)

  entry-new : entry_at (with_input N n) n ≡ Some (Input (length N.inputs))
  unfolding with_input with_entry entry_at
  entry-new = with_entry-here N n (Input (length N.inputs))

  new-value : IsStored (with_input N n) → (a : ℕ → Bool) → node_value (with_input N n) a n ≡ a (length N.inputs)
  new-value now a =
      over-once (with_input N n) (value_step a) false now.dag.acyclic n
      ∙ ap (at_entry false (λ e. value_step a n e (map {B = Signal × Bool} (λ s. (s, node_value (with_input N n) a s.node.0)) (fanins_of e)))) entry-new

  input-outputs : (with_input N n).outputs ≡ N.outputs
  unfolding with_input
  input-outputs = refl

  input-inputs : length (with_input N n).inputs ≡ length N.inputs + 1
  unfolding with_input
  input-inputs = length-append N.inputs (n ∷ [])

-- ---- the ports

module _ (c : CircuitValue) (circuit : IsCircuit c) where
  port-sound : (i : ℕ) (b : Building) (p : InputPort) → i < length c.inputs → p ≡ get_or c.inputs i p → IsSound c i b → live_count b.network < NUMBERS → IsSound c (i + 1) (with_port b p)
  port-sound i b p low is h few =
      let N = b.network in
      let n = least_free N in
      let free = (least-free-is N).free in
      let below = least-low N n (least-free-is N) in
      let now = stored-input N n h.stored free (omega arith) in
      let count = input-inputs N n h.stored free in
      let old = h.inputs in
      record {
        stored = now;
        outputs = input-outputs N n h.stored free ∙ h.outputs;
        inputs = omega arith;
        live = λ w s found. elim (eqb_tells p.wire.0 w) as (λ _. IsLive (with_input N n) s.node.0) [
          | inl q ↦ subst (λ (x : Signal). IsLive (with_input N n) x.node.0) (new-signal w s q.0 found) (input-here N n)
          | inr q ↦ input-keeps N n s.node.0 (h.live w s (old-signal w s q.0 found))
        ];
        valued = λ w s found a. elim (eqb_tells p.wire.0 w) as (λ _. signal_value (with_input N n) a s ≡ value_of c a w) [
          | inl q ↦
              sym (ap (signal_value (with_input N n) a) (new-signal w s q.0 found))
              ∙ new-value N n h.stored free now a
              ∙ ap a h.inputs
              ∙ sym (value-input c a i circuit low)
              ∙ ap (value_of c a) (sym (wire_at-inputs c.inputs i p low is) ∙ q.1)
          | inr q ↦ ap (flip s.complement) (input-values N n h.stored free a s.node.0 (h.live w s (old-signal w s q.0 found))) ∙ h.valued w s (old-signal w s q.0 found) a
        ];
      }
    where
      new-signal : (w : ℕ) (s : Signal) → (p.wire.0 == w) ≡ true → known (with_port b p).signals w ≡ Some s → (record { node = record { 0 = least_free b.network }; complement = false }) ≡ s
      new-signal w s q found =
          let new : Signal = record { node = record { 0 = least_free b.network }; complement = false } in
          let same : Some new ≡ Some s = sym (ap (λ t. if t then Some new else known b.signals w) q) ∙ found in
          cc

      old-signal : (w : ℕ) (s : Signal) → (p.wire.0 == w) ≡ false → known (with_port b p).signals w ≡ Some s → known b.signals w ≡ Some s
      old-signal w s q found =
          let new : Signal = record { node = record { 0 = least_free b.network }; complement = false } in
          sym (ap (λ t. if t then Some new else known b.signals w) q) ∙ found

  -- the first of the ports from i on stands at place i
  first-port : (i : ℕ) (p : InputPort) (ps qs : List InputPort) → drop i qs ≡ p ∷ ps → (i < length qs) × (p ≡ get_or qs i p) × (drop (i + 1) qs ≡ ps)
  first-port zero p ps [] e = absurd cc
  first-port zero p ps (q ∷ qs) e = let a : q ≡ p = cc in let b : qs ≡ ps = cc in (omega arith, sym a, b)
  first-port (suc i) p ps [] e = absurd cc
  first-port (suc i) p ps (q ∷ qs) e =
      let r = first-port i p ps qs e in
      let more : suc i + 1 ≡ suc (i + 1) = omega arith in
      (let l = r.0 in omega arith, r.1, ap (λ j. drop j (q ∷ qs)) more ∙ r.2)

  pub ports-sound : (ps : List InputPort) (i : ℕ) (b : Building) → drop i c.inputs ≡ ps → IsSound c i b → live_count b.network + length ps ≤ NUMBERS → IsSound c (i + length ps) (with_ports b ps)
  ports-sound [] i b rest h few = let z : i ≡ i + 0 = omega arith in subst (λ k. IsSound c k b) z h
  ports-sound (p ∷ ps) i b rest h few =
      let f = first-port i p ps c.inputs rest in
      let once = port-sound i b p f.0 f.1 h (omega arith) in
      let count = entered-count b.network (with_port b p).network refl in
      let more : (i + 1) + length ps ≡ i + suc (length ps) = omega arith in
      subst (λ k. IsSound c k (with_ports (with_port b p) ps)) more (ports-sound ps (i + 1) (with_port b p) f.2 once (omega arith))

-- ---- what is known, and how many numbers there are

pub ports-count : (b : Building) (ps : List InputPort) → live_count (with_ports b ps).network ≡ live_count b.network + length ps
ports-count b [] = omega arith
ports-count b (p ∷ ps) =
    let count = entered-count b.network (with_port b p).network refl in
    let rest = ports-count (with_port b p) ps in
    omega arith

pub some-if : {A : Type 0} (t : Bool) (x : A) (o : Option A) → IsSome o → IsSome (if t then Some x else o)
some-if true x o h = refl
some-if false x o h = h

pub ports-keep : (b : Building) (ps : List InputPort) (w : ℕ) → IsSome (known b.signals w) → IsSome (known (with_ports b ps).signals w)
ports-keep b [] w h = h
ports-keep b (p ∷ ps) w h = ports-keep (with_port b p) ps w (some-if (p.wire.0 == w) (record { node = record { 0 = least_free b.network }; complement = false }) (known b.signals w) h)

pub ports-known : (b : Building) (ps : List InputPort) (i w k : ℕ) → input_place i w ps ≡ Some k → IsSome (known (with_ports b ps).signals w)
ports-known b [] i w k h = absurd cc
ports-known b (p ∷ ps) i w k h = elim (eqb_tells p.wire.0 w) as (λ _. IsSome (known (with_ports b (p ∷ ps)).signals w)) [
  | inl q ↦ ports-keep (with_port b p) ps w (subst (λ t. IsSome (if t then Some (record { node = record { 0 = least_free b.network }; complement = false }) else known b.signals w)) (sym q.0) refl)
  | inr q ↦ ports-known (with_port b p) ps (i + 1) w k (sym (ap (λ t. if t then Some i else input_place (i + 1) w ps) q.0) ∙ h)
]
