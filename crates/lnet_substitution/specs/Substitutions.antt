-- What a substitution leaves: what it says knows nothing of the order in which gates are merged.
-- Source: the substitution of nodes in the mockturtle documentation, stated as a relation.
use Rattle.std.specs.Prelude.{◌≡◌, ◌≢◌, ℕ, ◌⊎◌, ◌↔◌, map, Some}
use Rattle.lnet_gates.specs.declared.signal.Signal.{Signal}
use Rattle.lnet_gates.specs.declared.gate.Kind.{Kind}
use Rattle.lnet_gates.specs.Gates.{GateValue}
use Rattle.lnet_gates.specs.Operands.{moved}
use Rattle.lnet_model.specs.Networks.{NetworkValue, Constant, Input, IsLive, entry_at}
use Rattle.lnet_model.specs.Along.{In, Acyclic, IsWhole, Depends, Reaches, fanin_nodes, nodes_read}
use Rattle.lnet_model.specs.Changes.{GateAt, IsGateAt}
use Rattle.lnet_hashed.specs.Strashed.{IsStrashed}
use Rattle.lnet_substitution.specs.Replaced.{signal_of, replaced}
use Rattle.lnet_substitution.specs.Representatives.{Represents}

-- in a hashed network without cycles, gate o may give way to s: s is live and doesn't depend on o
pub record CanSubstitute (kind : Kind) (N : NetworkValue) (o : ℕ) (s : Signal) : Type 0 where
  pub acyclic : Acyclic N
  pub whole : IsWhole N
  pub strashed : IsStrashed kind N
  pub gate : IsGateAt N o
  pub live : IsLive N s.node.0
  pub free : Depends N s o → ⊥

-- P has the kind, the constant and the inputs of N
pub record SameLeaves (N P : NetworkValue) : Type 0 where
  pub kind : P.kind ≡ N.kind
  pub inputs : P.inputs ≡ N.inputs
  pub constant : (n : ℕ) → (entry_at N n ≡ Some Constant) ↔ (entry_at P n ≡ Some Constant)
  pub input : (n k : ℕ) → (entry_at N n ≡ Some (Input k)) ↔ (entry_at P n ≡ Some (Input k))

-- the references to o go to s, and gates of one structure are one; rep says which node of P stands for each node.
-- P still has the gates that lost their last reference
pub record IsMerged (kind : Kind) (N : NetworkValue) (o : ℕ) (s : Signal) (P : NetworkValue) (rep : ℕ → Signal) : Type 0 where
  pub leaves : SameLeaves N P
  -- each node of the network with o replaced is represented in P, and each output of P stands for its output
  pub nodes : Represents kind P (replaced N o s) rep
  pub outputs : P.outputs ≡ map (moved rep) (replaced N o s).outputs
  -- each gate of P was a gate, other than o, and stands for itself
  pub own : (n : ℕ) (g : GateValue) → GateAt P n g → (n ≢ o) × IsGateAt N n × (rep n ≡ signal_of n)
  -- what didn't depend on o is as it was
  pub kept : (n : ℕ) (g : GateValue) → GateAt N n g → (Reaches N n o → ⊥) → GateAt P n g
  pub strashed : IsStrashed kind P
  pub acyclic : Acyclic P
  pub whole : IsWhole P

-- a gate or an output names n
abbrev pub IsNamed : NetworkValue → ℕ → Type 0
IsNamed N n = ((m : ℕ) × In n (fanin_nodes (entry_at N m))) ⊎ In n (nodes_read N.outputs)

-- each gate is named
abbrev pub IsTidy : NetworkValue → Type 0
IsTidy N = (n : ℕ) → IsGateAt N n → IsNamed N n

-- an output of P reads m, or m is a gate of P that nothing named in N
abbrev pub IsRoot : NetworkValue → NetworkValue → ℕ → Type 0
IsRoot N P m = In m (nodes_read P.outputs) ⊎ (IsGateAt P m × (IsNamed N m → ⊥))

-- a walk of P from a root ends at n
abbrev pub Stays : NetworkValue → NetworkValue → ℕ → Type 0
Stays N P n = (m : ℕ) × IsRoot N P m × Reaches P m n

-- Q is P without the gates that lost their last reference since N, and so on downward
pub record DropsLost (N P Q : NetworkValue) : Type 0 where
  pub leaves : SameLeaves P Q
  pub outputs : Q.outputs ≡ P.outputs
  pub gates : (n : ℕ) (g : GateValue) → GateAt Q n g → GateAt P n g × Stays N P n
  pub stay : (n : ℕ) (g : GateValue) → GateAt P n g → Stays N P n → GateAt Q n g

-- Q comes of N by the substitution of s for o. Left open is alone which number remains among gates of one structure that all
-- depended on o
pub record Substitutes (kind : Kind) (N : NetworkValue) (o : ℕ) (s : Signal) (Q : NetworkValue) : Type 0 where
  pub merged : NetworkValue
  pub rep : ℕ → Signal
  pub merges : IsMerged kind N o s merged rep
  pub drops : DropsLost N merged Q
