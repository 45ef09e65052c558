-- The network that is built of a circuit. Source: the order of building is this project's own.
use Rattle.std.specs.Prelude.{ℕ, ◌==◌, false, List, [], ◌∷◌, map, slice_get, Option, None, Some, if◌then◌else◌}
use Rattle.std.specs.Option.{unwrap_or}
use Rattle.lnet_gates.specs.declared.signal.Signal.{Signal}
use Rattle.lnet_gates.specs.declared.gate.Kind.{Kind}
use Rattle.lnet_gates.specs.Operands.{constant, flipped}
use Rattle.lnet_model.specs.Networks.{NetworkValue, live_count}
use Rattle.lnet_store.specs.StoreValues.{first_network, with_input, with_new_output}
use Rattle.lnet_hashed.specs.Strashed.{Placed, of_kind, least_free}
use Rattle.lnet_hashed.specs.Swept.{IsSwept}
use Rattle.lnet_edge.specs.declared.circuit.WireRef.{WireRef}
use Rattle.lnet_edge.specs.declared.circuit.InputPort.{InputPort}
use Rattle.lnet_edge.specs.declared.circuit.OutputPort.{OutputPort}
use Rattle.lnet_edge.specs.Circuits.{CircuitValue, EquationValue}
use Rattle.lnet_rules.specs.Rules.{rule_built}
use Rattle.lnet_order.specs.Orders.{order_of}
use Rattle.lnet_names.specs.NameLists.{NamesValue}

-- a network, and the signal of each wire that is built so far, the newest first
pub record Building : Type 0 where
  pub network : NetworkValue
  pub signals : List (ℕ × Signal)

-- the signal of a wire that is built
abbrev pub known : List (ℕ × Signal) → ℕ → Option Signal
known [] w = None
known (k ∷ ks) w = if k.0 == w then Some k.1 else known ks w

-- a wire as it is used: the constant false where nothing drives it
abbrev pub read_as : List (ℕ × Signal) → WireRef → Signal
read_as ks r = flipped r.complement (unwrap_or (known ks r.wire.0) (constant false))

-- ---- inputs

-- each input in order under the least number that isn't live: the nodes from 1 on
abbrev pub with_port : Building → InputPort → Building
with_port b p = record {
  network = with_input b.network (least_free b.network);
  signals = (p.wire.0, record { node = record { 0 = least_free b.network }; complement = false }) ∷ b.signals;
}

abbrev pub with_ports : Building → List InputPort → Building
with_ports b [] = b
with_ports b (p ∷ ps) = with_ports (with_port b p) ps

-- the network of node 0 alone
abbrev pub first_building : Kind → Building
first_building kind = record { network = of_kind kind first_network; signals = [] }

-- ---- equations

-- an equation over the signals of its operands
abbrev pub with_equation : Kind → Building → EquationValue → Building
with_equation kind b e =
    let p : Placed = rule_built kind b.network e.rule (map (read_as b.signals) e.operands) in
    record { network = p.network; signals = (e.target, p.signal) ∷ b.signals }

abbrev pub with_found : Kind → Building → Option EquationValue → Building
with_found kind b None = b
with_found kind b (Some e) = with_equation kind b e

-- the equations at these places, one after another
unfoldable pub with_places : Kind → List EquationValue → Building → List ℕ → Building
with_places kind es b [] = b
with_places kind es b (k ∷ ks) = with_places kind es (with_found kind b (slice_get es k)) ks

-- the inputs, and then the equations that the outputs need, each after those of its operands
unfoldable pub raised : Kind → CircuitValue → Building
raised kind c = with_places kind c.equations (with_ports (first_building kind) c.inputs) (order_of c)

-- ---- outputs

abbrev pub with_outputs : NetworkValue → List Signal → NetworkValue
with_outputs N [] = N
with_outputs N (s ∷ ss) = with_outputs (with_new_output N s) ss

abbrev pub output_signals : List (ℕ × Signal) → List OutputPort → List Signal
output_signals ks ps = map (λ (p : OutputPort). read_as ks p.source) ps

-- with the outputs, and before it is swept
abbrev pub unswept : Kind → CircuitValue → NetworkValue
unswept kind c = with_outputs (raised kind c).network (output_signals (raised kind c).signals c.outputs)

-- the network of a circuit: that one without the gates that no output reaches
abbrev pub IsBuilt : Kind → CircuitValue → NetworkValue → Type 0
IsBuilt kind c N = IsSwept (unswept kind c) N

-- the most numbers that are live at a moment of the building
abbrev pub numbers_needed : Kind → CircuitValue → ℕ
numbers_needed kind c = live_count (raised kind c).network

-- the names of the ports
abbrev pub names_of : CircuitValue → NamesValue
names_of c = record { inputs = map (λ (p : InputPort). p.name) c.inputs; outputs = map (λ (p : OutputPort). p.name) c.outputs }
