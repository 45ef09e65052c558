-- What is raised, by the calls that raise it.
use Rattle.std.proofs.Common.{◌≡◌, ℕ, ◌+◌, ◌<◌, ◌≤◌, List, [], map, length, All, nat_eq, ap, subst, ◌∙◌, arith}
use Rattle.std.specs.Map.{lookup}
use Rattle.lnet_gates.specs.declared.signal.Signal.{Signal}
use Rattle.lnet_gates.specs.declared.gate.Kind.{Kind}
use Rattle.lnet_model.specs.Networks.{NetworkValue, live_count}
use Rattle.lnet_model.specs.Dags.{NUMBERS, OUTPUTS}
use Rattle.lnet_store.specs.StoreValues.{first_network}
use Rattle.lnet_hashed.specs.Strashed.{of_kind}
use Rattle.lnet_edge.specs.declared.circuit.Equation.{Equation}
use Rattle.lnet_edge.specs.declared.circuit.InputPort.{InputPort}
use Rattle.lnet_edge.specs.declared.circuit.OutputPort.{OutputPort}
use Rattle.lnet_edge.specs.CircuitLists.{equation_views}
use Rattle.lnet_edge.specs.Circuits.{CircuitValue, EquationValue}
use Rattle.lnet_edge.specs.Wires.{IsCircuit}
use Rattle.lnet_edge.proofs.WireLemmas.{length-views}
use Rattle.lnet_order.specs.Orders.{order_of}
use Rattle.lnet_build.specs.Built.{Building, first_building, with_ports, with_places, raised, read_as, with_outputs, unswept, numbers_needed}
use Rattle.lnet_build.specs.Signals.{SignalMap, read_in, FitsPlace, Stand}
use Rattle.lnet_build.proofs.StandLemmas.{read-same}
use Rattle.lnet_build.proofs.BuiltValues.{first-count, ports-within, raised-sound}

pub first-stand : (kind : Kind) (N : NetworkValue) (m : SignalMap) → N ≡ of_kind kind first_network → m.entries ≡ [] → Stand N m (first_building kind)
first-stand kind N m network empty = record {
  network = network;
  signals = λ w. ap (lookup (nat_eq w)) empty;
}

pub first-few : (kind : Kind) (N : NetworkValue) → N ≡ of_kind kind first_network → live_count N ≡ 1
first-few kind N is = ap live_count is ∙ first-count kind

module _ (kind : Kind) (c : CircuitValue) (equations : List Equation) (views : equation_views equations ≡ c.equations) (ports : List InputPort) (ports_is : ports ≡ c.inputs) (places : List ℕ) (places_is : places ≡ order_of c) where
  -- more inputs than there are numbers
  pub ports-past : NUMBERS ≤ length ports → NUMBERS < numbers_needed kind c
  ports-past past = let h = ports-within kind c in let e = ap (λ (ps : List InputPort). length ps) ports_is in omega arith

  pub within-views : All (λ k. k < length c.equations) places → All (λ k. k < length equations) places
  within-views h k d low = let a = h k d low in let n = length-views equations in let e = ap (λ (es : List EquationValue). length es) views in omega arith

  raised-is : with_places kind (equation_views equations) (with_ports (first_building kind) ports) places ≡ raised kind c
  unfolding raised
  raised-is = λ i. with_places kind (views i) (with_ports (first_building kind) (ports_is i)) (places_is i)

  module _ (N : NetworkValue) (m : SignalMap) (start : Stand N m (first_building kind)) (N1 : NetworkValue) (m1 : SignalMap) (entered : (b : Building) → Stand N m b → Stand N1 m1 (with_ports b ports)) where
    -- what is past the limit for the calls is so for the circuit
    pub raised-full : ((b : Building) → Stand N1 m1 b → NUMBERS < live_count (with_places kind (equation_views equations) b places).network) → NUMBERS < numbers_needed kind c
    raised-full past =
        subst (λ (b : Building). NUMBERS < live_count b.network) raised-is (past (with_ports (first_building kind) ports) (entered (first_building kind) start))

    module _ (N2 : NetworkValue) (m2 : SignalMap) (built : (b : Building) → Stand N1 m1 b → Stand N2 m2 (with_places kind (equation_views equations) b places)) where
      pub raised-stand : Stand N2 m2 (raised kind c)
      raised-stand = subst (Stand N2 m2) raised-is (built (with_ports (first_building kind) ports) (entered (first_building kind) start))

      pub raised-few : live_count N2 ≤ NUMBERS → numbers_needed kind c ≤ NUMBERS
      raised-few few = subst (λ n. n ≤ NUMBERS) (ap live_count raised-stand.network) few

      pub words-are : All (FitsPlace (equation_views equations)) places → All (FitsPlace c.equations) (order_of c)
      words-are h = subst (λ es. All (FitsPlace es) (order_of c)) views (subst (All (FitsPlace (equation_views equations))) places_is h)

      pub outputs-few : IsCircuit c → All (FitsPlace (equation_views equations)) places → live_count N2 ≤ NUMBERS → (outputs : List OutputPort) → outputs ≡ c.outputs → length N2.outputs + length outputs ≤ OUTPUTS
      outputs-few circuit words few outputs is =
          let h = raised-sound kind c circuit (words-are words) (raised-few few) in
          let none = ap (λ (X : NetworkValue). length X.outputs) raised-stand.network ∙ ap (λ (os : List Signal). length os) h.sound.outputs in
          let same = ap (λ (os : List OutputPort). length os) is in
          let most = circuit.few_outputs in
          omega arith

      pub unswept-is : (outputs : List OutputPort) → outputs ≡ c.outputs → with_outputs N2 (map (λ (p : OutputPort). read_in m2 p.source) outputs) ≡ unswept kind c
      unswept-is outputs is =
          let h = raised-stand in
          (λ i. with_outputs (h.network i) (map (λ (p : OutputPort). read_same p i) (is i)))
        where
          read_same : (p : OutputPort) → read_in m2 p.source ≡ read_as (raised kind c).signals p.source
          read_same p = read-same N2 m2 (raised kind c) raised-stand p.source
