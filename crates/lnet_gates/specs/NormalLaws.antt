-- What a normal form keeps: the value, the nodes that are named, itself, and replacement of nodes by signals. Source: the
-- textbook notion of a canonical form that is a congruence.
use Rattle.std.specs.Prelude.{◌≡◌, ℕ, ◌⊎◌, Bool, false, List, map, length}
use Rattle.lnet_gates.specs.declared.signal.Signal.{Signal}
use Rattle.lnet_gates.specs.declared.gate.Op.{Op}
use Rattle.lnet_gates.specs.declared.gate.Op.TheVariants.{And}
use Rattle.lnet_gates.specs.declared.normal.Normal.{Normal}
use Rattle.lnet_gates.specs.declared.normal.Normal.TheVariants.{Is, Gate}
use Rattle.lnet_gates.specs.Gates.{GateValue, KeyValue, flip, apply}
use Rattle.lnet_gates.specs.Operands.{constant, read, moved, IsNamedBy}
use Rattle.lnet_gates.specs.NormalForms.{carried}

-- a gate of the operation, with this many fanins
pub record IsGateOf (op : Op) (count : ℕ) (g : GateValue) : Type 0 where
  pub op_is : g.op ≡ op
  pub count_is : length g.fanins ≡ count

-- the gate of a key and a phase
abbrev pub keyed_gate : KeyValue → Bool → GateValue
keyed_gate k phase = record { op = k.op; phase = phase; fanins = k.fanins }

-- the gate with another phase: its own, complemented where c
abbrev pub rephased : Bool → GateValue → GateValue
rephased c g = record { op = g.op; phase = flip c g.phase; fanins = g.fanins }

-- the gate with each node that it reads replaced by a signal, complements added
abbrev pub replaced_in : (ℕ → Signal) → GateValue → GateValue
replaced_in place g = record { op = g.op; phase = g.phase; fanins = map (moved place) g.fanins }

-- the value of a gate, where V gives the values of nodes
abbrev pub gate_reading : (ℕ → Bool) → GateValue → Bool
gate_reading V g = apply g.op g.phase (map (read V) g.fanins)

-- the value of a normal form, where V gives the values of nodes
abbrev pub form_reading : (ℕ → Bool) → Normal → Bool
form_reading V (Is s) = read V s
form_reading V (Gate k phase) = gate_reading V (keyed_gate k phase)

-- the normal form of a normal form after a replacement: a signal is replaced, a key's gate is formed again
abbrev pub formed_again : (GateValue → Normal) → (ℕ → Signal) → Normal → Normal
formed_again normal place (Is s) = Is (moved place s)
formed_again normal place (Gate k phase) = normal (replaced_in place (keyed_gate k phase))

-- a form that names only nodes of the signals, or node 0
abbrev pub NamesOnly : List Signal → Normal → Type 0
NamesOnly ss (Is s) = IsNamedBy s.node.0 ss ⊎ (s.node.0 ≡ 0)
NamesOnly ss (Gate k phase) = (n : ℕ) → IsNamedBy n k.fanins → IsNamedBy n ss ⊎ (n ≡ 0)

-- a form whose key's gate, if it is a key, is native
abbrev pub IsNativeForm : (GateValue → Type 0) → Normal → Type 0
IsNativeForm Native (Is s) = Unit
IsNativeForm Native (Gate k phase) = Native (keyed_gate k phase)

-- what a normal form of the gates that are native keeps
pub record NormalLaws (Native : GateValue → Type 0) (normal : GateValue → Normal) : Type 0 where
  -- its value is the gate's, wherever node 0 is false
  pub value : (V : ℕ → Bool) (g : GateValue) → V 0 ≡ false → Native g → form_reading V (normal g) ≡ gate_reading V g
  -- it names nodes of the gate's fanins, or node 0
  pub names : (g : GateValue) → Native g → NamesOnly g.fanins (normal g)
  -- a key's gate is native
  pub native : (g : GateValue) → Native g → IsNativeForm Native (normal g)
  -- a key's gate is its own normal form
  pub stable : (g : GateValue) (k : KeyValue) (phase : Bool) → Native g → normal g ≡ Gate k phase → normal (keyed_gate k phase) ≡ Gate k phase
  -- a gate's phase is carried to its normal form
  pub carries : (c : Bool) (g : GateValue) → normal (rephased c g) ≡ carried c (normal g)
  -- nodes may be replaced before or after, if node 0 stays
  pub agrees : (place : ℕ → Signal) (g : GateValue) → place 0 ≡ constant false → Native g → normal (replaced_in place g) ≡ formed_again normal place (normal g)

-- a key of an And is the form of an And gate alone, and has its phase
abbrev pub AndsKeepPhase : (GateValue → Type 0) → (GateValue → Normal) → Type 0
AndsKeepPhase Native normal = (g : GateValue) (k : KeyValue) (phase : Bool) → Native g → normal g ≡ Gate k phase → k.op ≡ And → (g.op ≡ And) × (phase ≡ g.phase)
