-- The cascade's rule over marks, and its measure.
use Rattle.std.specs.Prelude.{◌≡◌, ℕ, suc, ◌+◌, ◌*◌, Bool, false, List, length}
use Rattle.lnet_gates.specs.declared.signal.Signal.{Signal}
use Rattle.lnet_gates.specs.declared.gate.Kind.{Kind}
use Rattle.lnet_gates.specs.Gates.{GateValue, KeyValue}
use Rattle.lnet_model.specs.Networks.{NetworkValue, live_count}
use Rattle.lnet_model.specs.Changes.{GateAt}
use Rattle.lnet_hashed.specs.Strashed.{key_of}
use Rattle.lnet_substitution.specs.Substitutions.{CanSubstitute}
use Rattle.lnet_substitution.specs.Cascades.{IsCascading}
use Rattle.lnet_cascade.specs.Marks.{marks_of, marked_count}

-- C stands in the middle of the cascade of N, o and s, where the dirty gates are marked
abbrev pub Cascading : Kind → NetworkValue → ℕ → Signal → NetworkValue → List Bool → Type 0
Cascading kind N o s C bs = (rep : ℕ → Signal) × IsCascading kind N o s C rep (marks_of bs)

-- C stands in the middle of some cascade
abbrev pub IsBegun : Kind → NetworkValue → List Bool → Type 0
IsBegun kind C bs = (N : NetworkValue) × (o : ℕ) × (s : Signal) × CanSubstitute kind N o s × Cascading kind N o s C bs

-- whichever cascade it was, it still is
abbrev pub GoesOn : Kind → NetworkValue → List Bool → NetworkValue → List Bool → Type 0
GoesOn kind C bs D cs = (N : NetworkValue) (o : ℕ) (s : Signal) → CanSubstitute kind N o s → Cascading kind N o s C bs → Cascading kind N o s D cs

-- s is the signal of a clean gate with the key, and has the value of the key
pub record IsCleanHolder (C : NetworkValue) (bs : List Bool) (k : KeyValue) (s : Signal) : Type 0 where
  pub gate : GateValue
  pub at : GateAt C s.node.0 gate
  pub clean : marks_of bs s.node.0 ≡ false
  pub key : key_of gate ≡ k
  pub phase : gate.phase ≡ s.complement

-- what is left to do: first the live nodes, then the marks
unfoldable pub left : NetworkValue → List Bool → ℕ
left C bs = live_count C * suc (length bs) + marked_count bs
