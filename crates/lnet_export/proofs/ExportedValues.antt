-- The circuit of a network computes what the network does.
use Rattle.std.proofs.Common.{◌≡◌, ℕ, ◌<◌, ◌≤◌, Bool, true, false, List, [], ◌∷◌, length, map, get_or, Option, None, Some, refl, sym, ap, subst, ◌∙◌, inl, inr, arith}
use Rattle.std.proofs.lemmas.List.{length-map}
use Rattle.lnet_gates.specs.declared.signal.Signal.{Signal}
use Rattle.lnet_gates.specs.Gates.{GateValue, flip, apply}
use Rattle.lnet_model.specs.Networks.{NetworkValue, Entry, Constant, Input, IsGate, entry_at, live_count, fanins_of}
use Rattle.lnet_model.specs.Along.{In, at_entry, nodes_read, fanin_nodes}
use Rattle.lnet_model.specs.Dags.{IsStored, NUMBERS}
use Rattle.lnet_model.specs.Values.{value_step, node_value, signal_value, network_outputs}
use Rattle.lnet_model.proofs.Over.{over-once, along_induction}
use Rattle.lnet_model.proofs.Values.{gate_value}
use Rattle.lnet_edge.specs.declared.circuit.WireRef.{WireRef}
use Rattle.lnet_edge.specs.declared.circuit.OutputPort.{OutputPort}
use Rattle.lnet_edge.specs.Wires.{input_wires, IsCircuit}
use Rattle.lnet_edge.specs.Values.{complemented, under_rule, value_of, ref_value, circuit_outputs}
use Rattle.lnet_edge.proofs.ValueLemmas.{value-equation, value-input, value-constant}
use Rattle.lnet_names.specs.NameLists.{NamesValue}
use Rattle.lnet_export.specs.Exported.{wire_for, wire_at, ref_in, equation_in, rule_of, equations_in, exported}
use Rattle.lnet_export.proofs.GateEquations.{equations-have}
use Rattle.lnet_export.proofs.RuleValues.{rule-value}
use Rattle.lnet_export.proofs.PortLemmas.{inputs-wires, inputs-count, outputs-map}
use Rattle.lnet_export.proofs.Circuits.{AreNamesOf, listed-input, exported-IsCircuit}

same-complement : (c b : Bool) → complemented c b ≡ flip c b
same-complement true b = refl
same-complement false b = refl

module _ (N : NetworkValue) (names : NamesValue) (stored : IsStored N) (limit : live_count N ≤ NUMBERS) (named : AreNamesOf N names) (a : ℕ → Bool) where
  circuit : IsCircuit (exported N names)
  circuit = exported-IsCircuit N names stored limit named

  -- the wire of the number has the node's value
  abbrev Agrees : ℕ → Type 0
  Agrees n = value_of (exported N names) a (wire_at N n) ≡ node_value N a n

  signal-agrees : (s : Signal) → Agrees s.node.0 → ref_value (exported N names) a (ref_in N s) ≡ signal_value N a s
  signal-agrees s agrees = ap (complemented s.complement) agrees ∙ same-complement s.complement (node_value N a s.node.0)

  signals-agree : (ss : List Signal) → ((m : ℕ) → In m (nodes_read ss) → Agrees m) → map (ref_value (exported N names) a) (map (ref_in N) ss) ≡ map (signal_value N a) ss
  signals-agree [] agree = refl
  signals-agree (s ∷ ss) agree = λ i. signal-agrees s (agree s.node.0 (inl refl)) i ∷ signals-agree ss (λ m h. agree m (inr h)) i

  -- what has wire 0 is false in the network, too
  constant-agrees : (n : ℕ) → wire_at N n ≡ 0 → node_value N a n ≡ false → Agrees n
  constant-agrees n wire value = ap (value_of (exported N names) a) wire ∙ value-constant (exported N names) a circuit ∙ sym value

  input-agrees : (n k : ℕ) → entry_at N n ≡ Some (Input k) → node_value N a n ≡ a k → Agrees n
  input-agrees n k is value =
      let place = listed-input N stored n k is in
      let low : k < length (exported N names).inputs = (let h = place.0 in let c = inputs-count N.inputs names.inputs named.inputs in omega arith) in
      let at : get_or (input_wires (exported N names).inputs) k 0 ≡ n = ap (λ (ws : List ℕ). get_or ws k 0) (inputs-wires N.inputs names.inputs named.inputs) ∙ place.1 in
      ap (value_of (exported N names) a) (ap (wire_for n) is ∙ sym at) ∙ value-input (exported N names) a k circuit low ∙ sym value

  gate-agrees : (n : ℕ) (g : GateValue) → entry_at N n ≡ Some (IsGate g) → ((m : ℕ) → In m (nodes_read g.fanins) → Agrees m) → Agrees n
  gate-agrees n g is below =
      ap (value_of (exported N names) a) (ap (wire_for n) is)
      ∙ value-equation (exported N names) a (equation_in N n g) circuit (equations-have N n g is)
      ∙ ap (under_rule (rule_of g)) (signals-agree g.fanins below)
      ∙ rule-value g.op g.phase (length g.fanins) (map (signal_value N a) g.fanins) (stored.dag.arities n g is) (length-map g.fanins (signal_value N a))
      ∙ sym (gate_value N a n g stored.dag.acyclic is)

  node-agrees : (n : ℕ) → ((m : ℕ) → In m (fanin_nodes (entry_at N n)) → Agrees m) → Agrees n
  node-agrees n below = by (entry_at N n) refl
    where
      once : (o : Option Entry) → entry_at N n ≡ o → node_value N a n ≡ at_entry false (λ e. value_step a n e (map {B = Signal × Bool} (λ s. (s, node_value N a s.node.0)) (fanins_of e))) o
      once o is = over-once N (value_step a) false stored.dag.acyclic n ∙ ap (at_entry false (λ e. value_step a n e (map {B = Signal × Bool} (λ s. (s, node_value N a s.node.0)) (fanins_of e)))) is

      by : (o : Option Entry) → entry_at N n ≡ o → Agrees n
      by None is = constant-agrees n (ap (wire_for n) is) (once None is)
      by (Some Constant) is = constant-agrees n (ap (wire_for n) is) (once (Some Constant) is)
      by (Some (Input k)) is = input-agrees n k is (once (Some (Input k)) is)
      by (Some (IsGate g)) is = gate-agrees n g is (λ m i. below m (subst (λ o. In m (fanin_nodes o)) (sym is) i))

  agrees : (n : ℕ) → Agrees n
  agrees n = along_induction N Agrees stored.dag.acyclic node-agrees n

  -- the outputs have the network's values
  pub exported-outputs : circuit_outputs (exported N names) a ≡ network_outputs N a
  unfolding circuit_outputs network_outputs
  exported-outputs = outputs-map N (λ (p : OutputPort). ref_value (exported N names) a p.source) (signal_value N a) N.outputs names.outputs named.outputs (λ s name. signal-agrees s (agrees s.node.0))
