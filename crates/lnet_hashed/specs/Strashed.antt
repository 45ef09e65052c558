-- Structural hashing: each gate is its own normal form, no two gates have one key, and where a gate is placed.
-- Source: structural hashing of and-inverter graphs (Kuehlmann and Krohm 1997); here a gate has a phase, and its key has none.
use Rattle.std.specs.Prelude.{◌≡◌, ℕ, suc, Bool, true, false, cond, ◌&&◌, List, [], ◌∷◌, eqb, slice_get, Option, None, Some}
use Rattle.std.specs.List.{flat_map}
use Rattle.std.specs.FinMap.{entries, keys}
use Rattle.lnet_gates.specs.declared.signal.Signal.{Signal}
use Rattle.lnet_gates.specs.declared.gate.Kind.{Kind}
use Rattle.lnet_gates.specs.declared.gate.Op.{Op}
use Rattle.lnet_gates.specs.declared.gate.Op.TheVariants.{And, Xor, Maj, Lut}
use Rattle.lnet_gates.specs.declared.normal.Normal.{Normal}
use Rattle.lnet_gates.specs.declared.normal.Normal.TheVariants.{Is, Gate}
use Rattle.lnet_gates.specs.Gates.{GateValue, KeyValue}
use Rattle.lnet_gates.specs.Operands.{flipped, is_same}
use Rattle.lnet_gates.specs.Natives.{IsNativeGate}
use Rattle.lnet_gates.specs.NormalLaws.{keyed_gate}
use Rattle.lnet_gates.specs.Forms.{form_of}
use Rattle.lnet_model.specs.Networks.{NetworkValue, Entry, gate_at, Constant, Input, IsGate}
use Rattle.lnet_model.specs.Changes.{GateAt, with_entry}

-- the network as one of this kind
abbrev pub of_kind : Kind → NetworkValue → NetworkValue
of_kind kind N = record { kind = kind; nodes = N.nodes; inputs = N.inputs; outputs = N.outputs }

-- the key of a gate
abbrev pub key_of : GateValue → KeyValue
key_of g = record { op = g.op; fanins = g.fanins }

-- each gate is one of the kind and its own normal form, an And has no phase, and no two gates have one key
pub record IsStrashed (kind : Kind) (N : NetworkValue) : Type 0 where
  pub native : (n : ℕ) (g : GateValue) → GateAt N n g → IsNativeGate kind g
  pub own_form : (n : ℕ) (g : GateValue) → GateAt N n g → form_of kind g ≡ Gate (key_of g) g.phase
  pub and_phase : (n : ℕ) (g : GateValue) → GateAt N n g → g.op ≡ And → g.phase ≡ false
  pub apart : (m n : ℕ) (g h : GateValue) → GateAt N m g → GateAt N n h → key_of g ≡ key_of h → m ≡ n

-- ---- where a gate is placed

-- whether two operations are one
abbrev pub same_op : Op → Op → Bool
same_op And And = true
same_op Xor Xor = true
same_op Maj Maj = true
same_op (Lut s) (Lut t) = eqb s t
same_op _ _ = false

-- whether two lists of signals are one
abbrev pub same_signals : List Signal → List Signal → Bool
same_signals [] [] = true
same_signals (s ∷ ss) (t ∷ ts) = is_same s t && same_signals ss ts
same_signals _ _ = false

-- whether two keys are one
abbrev pub same_key : KeyValue → KeyValue → Bool
same_key k l = same_op k.op l.op && same_signals k.fanins l.fanins

-- an entry's gate as the signal whose value is its key's, where it has the key
abbrev pub held_by : KeyValue → ℕ → Entry → List Signal
held_by k n Constant = []
held_by k n (Input i) = []
held_by k n (IsGate g) = cond (same_key k (key_of g)) ((record { node = record { 0 = n }; complement = g.phase }) ∷ []) []

-- the signal of the gate with the key, the first where there are several, none where there is none
unfoldable pub found : NetworkValue → KeyValue → Option Signal
found N k = slice_get (flat_map (λ e. held_by k e.0 e.1) (entries N.nodes)) 0

-- the gate at n has the key, and s is the signal whose value is the key's
pub record HoldsKey (N : NetworkValue) (k : KeyValue) (n : ℕ) (s : Signal) : Type 0 where
  pub gate : GateValue
  pub at : gate_at N n ≡ Some gate
  pub key : same_key k (key_of gate) ≡ true
  pub signal : s ≡ record { node = record { 0 = n }; complement = gate.phase }

-- the first number, from i on, that isn't in an ascending list
abbrev pub first_gap : ℕ → List ℕ → ℕ
first_gap i [] = i
first_gap i (k ∷ ks) = cond (eqb i k) (first_gap (suc i) ks) i

-- the least number that isn't live
unfoldable pub least_free : NetworkValue → ℕ
least_free N = first_gap 0 (keys N.nodes)

-- a network, and a signal of it
pub record Placed : Type 0 where
  pub network : NetworkValue
  pub signal : Signal

-- the gate of a key that isn't there, at the least free number and of phase false, read with this phase
abbrev pub newly_placed : NetworkValue → KeyValue → Bool → Placed
newly_placed N k phase = record { network = with_entry N (least_free N) (IsGate (keyed_gate k false)); signal = record { node = record { 0 = least_free N }; complement = phase } }

abbrev pub placed_key : NetworkValue → KeyValue → Bool → Option Signal → Placed
placed_key N k phase None = newly_placed N k phase
placed_key N k phase (Some s) = record { network = N; signal = flipped phase s }

abbrev pub placed_form : NetworkValue → Normal → Placed
placed_form N (Is s) = record { network = N; signal = s }
placed_form N (Gate k phase) = placed_key N k phase (found N k)

-- where a gate is placed: at the signal that its normal form is, at the gate that has its key, or newly
unfoldable pub placed : Kind → NetworkValue → GateValue → Placed
placed kind N g = placed_form N (form_of kind g)
