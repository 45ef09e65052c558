-- Networks as values: what every clause of the workspace speaks of.
-- Source: the terms of the mockturtle documentation (node, signal, fanin, primary input and output).
use Rattle.std.specs.Prelude.{ℕ, Bool, true, false, List, [], IsSome, Option, None, Some, count_by}
use Rattle.std.specs.Ordering.{nat_cmp}
use Rattle.std.specs.FinMap.{FinMap, get, len, values}
use Rattle.lnet_gates.specs.declared.signal.Signal.{Signal}
use Rattle.lnet_gates.specs.declared.gate.Kind.{Kind}
use Rattle.lnet_gates.specs.Gates.{GateValue}

-- what stands at a live number; the constant stands at 0
pub data Entry : Type 0 where
  Constant : Entry
  Input : ℕ → Entry
  IsGate : GateValue → Entry

-- a kind, what stands at each live number, the inputs' numbers in order, and the outputs in order
pub record NetworkValue : Type 0 where
  pub kind : Kind
  pub nodes : FinMap nat_cmp Entry
  pub inputs : List ℕ
  pub outputs : List Signal

-- what stands at a number. A recursion along fanins reads a network by this alone
abbrev pub Lookup : Type 0
Lookup = ℕ → Option Entry

unfoldable pub entry_at : NetworkValue → Lookup
entry_at N n = get N.nodes n

-- how many numbers are live
unfoldable pub live_count : NetworkValue → ℕ
live_count N = len N.nodes

-- what an entry reads: a gate its fanins, and the others nothing
abbrev pub fanins_of : Entry → List Signal
fanins_of Constant = []
fanins_of (Input k) = []
fanins_of (IsGate g) = g.fanins

-- something stands at the number
abbrev pub IsLive : NetworkValue → ℕ → Type 0
IsLive N n = IsSome (entry_at N n)

-- whether an entry is a gate
abbrev pub is_gate : Entry → Bool
is_gate Constant = false
is_gate (Input k) = false
is_gate (IsGate g) = true

-- how many gates there are
unfoldable pub gate_count : NetworkValue → ℕ
gate_count N = count_by is_gate (values N.nodes)

-- the gate of an entry
abbrev pub gate_in : Option Entry → Option GateValue
gate_in None = None
gate_in (Some Constant) = None
gate_in (Some (Input k)) = None
gate_in (Some (IsGate g)) = Some g

-- the gate at a number
abbrev pub gate_at : NetworkValue → ℕ → Option GateValue
gate_at N n = gate_in (entry_at N n)
