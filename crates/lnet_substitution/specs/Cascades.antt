-- What a cascade of merges keeps while it runs, and the sweep after it.
-- Source: the invariant of restoring structural hashing after a substitution.
use Rattle.std.specs.Prelude.{◌≡◌, ◌≢◌, ℕ, Bool, true, false, ◌⊎◌, map}
use Rattle.lnet_gates.specs.declared.signal.Signal.{Signal}
use Rattle.lnet_gates.specs.declared.gate.Kind.{Kind}
use Rattle.lnet_gates.specs.declared.gate.Op.TheVariants.{And}
use Rattle.lnet_gates.specs.declared.normal.Normal.{Normal}
use Rattle.lnet_gates.specs.declared.normal.Normal.TheVariants.{Is, Gate}
use Rattle.lnet_gates.specs.Gates.{GateValue, KeyValue}
use Rattle.lnet_gates.specs.Operands.{moved}
use Rattle.lnet_gates.specs.Natives.{IsNativeGate}
use Rattle.lnet_gates.specs.NormalForms.{carried}
use Rattle.lnet_gates.specs.NormalLaws.{replaced_in}
use Rattle.lnet_gates.specs.Forms.{form_of}
use Rattle.lnet_model.specs.Networks.{NetworkValue, entry_at}
use Rattle.lnet_model.specs.Along.{In, Acyclic, IsWhole, Reaches, fanin_nodes}
use Rattle.lnet_model.specs.Changes.{GateAt, IsGateAt}
use Rattle.lnet_hashed.specs.Strashed.{key_of}
use Rattle.lnet_substitution.specs.Replaced.{signal_of, replaced}
use Rattle.lnet_substitution.specs.Representatives.{IsLeafAt}
use Rattle.lnet_substitution.specs.Substitutions.{SameLeaves, Stays}

-- the normal form is t, or that of t's gate, complemented as t is
abbrev pub ResolvesTo : Kind → NetworkValue → Normal → Signal → Type 0
ResolvesTo kind C f t = (f ≡ Is t) ⊎ ((g : GateValue) × GateAt C t.node.0 g × (f ≡ carried t.complement (form_of kind g)))

-- a gate is its own normal form
abbrev pub IsOwnForm : Kind → GateValue → Type 0
IsOwnForm kind g = form_of kind g ≡ Gate (key_of g) g.phase

-- C stands in the middle of the cascade that began with o replaced by s: the gates at `dirty` may not be their own normal
-- forms, or have the keys of others, and `rep` says what stands for each node
pub record IsCascading (kind : Kind) (N : NetworkValue) (o : ℕ) (s : Signal) (C : NetworkValue) (rep : ℕ → Signal) (dirty : ℕ → Bool) : Type 0 where
  pub leaves : SameLeaves N C
  pub leaf : (n : ℕ) → IsLeafAt (replaced N o s) n → rep n ≡ signal_of n
  pub gate : (n : ℕ) (g : GateValue) → GateAt (replaced N o s) n g → ResolvesTo kind C (form_of kind (replaced_in rep g)) (rep n)
  pub outputs : C.outputs ≡ map (moved rep) (replaced N o s).outputs
  pub own : (n : ℕ) (g : GateValue) → GateAt C n g → (n ≢ o) × IsGateAt N n × (rep n ≡ signal_of n)
  pub kept : (n : ℕ) (g : GateValue) → GateAt N n g → (Reaches N n o → ⊥) → GateAt C n g
  -- dirty gates depended on o
  pub late : (n : ℕ) → dirty n ≡ true → (Reaches N n o → ⊥) → ⊥
  pub native : (n : ℕ) (g : GateValue) → GateAt C n g → IsNativeGate kind g
  pub and_phase : (n : ℕ) (g : GateValue) → GateAt C n g → g.op ≡ And → g.phase ≡ false
  -- the others are their own normal forms, and no two of them have one key
  pub own_form : (n : ℕ) (g : GateValue) → GateAt C n g → dirty n ≡ false → IsOwnForm kind g
  pub apart : (m n : ℕ) (g h : GateValue) → GateAt C m g → GateAt C n h → dirty m ≡ false → dirty n ≡ false → key_of g ≡ key_of h → m ≡ n
  pub acyclic : Acyclic C
  pub whole : IsWhole C

-- the gate may be merged into t: its normal form is t, or that of t's gate, which is its own normal form
abbrev pub CanMerge : Kind → NetworkValue → GateValue → Signal → Type 0
CanMerge kind C g t = (form_of kind g ≡ Is t) ⊎ ((h : GateValue) × GateAt C t.node.0 h × (form_of kind g ≡ carried t.complement (form_of kind h)) × IsOwnForm kind h)

-- no clean gate has the key
abbrev pub IsUnusedKey : NetworkValue → (ℕ → Bool) → KeyValue → Type 0
IsUnusedKey C dirty k = (m : ℕ) (h : GateValue) → GateAt C m h → dirty m ≡ false → key_of h ≡ k → ⊥

-- x is dirty no more, its parents are dirty, and the others are as they were
pub record IsDirtyAfter (C : NetworkValue) (x : ℕ) (dirty later : ℕ → Bool) : Type 0 where
  pub only : (n : ℕ) → later n ≡ true → (dirty n ≡ true) ⊎ In x (fanin_nodes (entry_at C n))
  pub before : (n : ℕ) → dirty n ≡ true → n ≢ x → later n ≡ true
  pub parents : (n : ℕ) → In x (fanin_nodes (entry_at C n)) → later n ≡ true

-- x is dirty no more, and the others are as they were
pub record IsCleanAfter (x : ℕ) (dirty later : ℕ → Bool) : Type 0 where
  pub only : (n : ℕ) → later n ≡ true → dirty n ≡ true
  pub before : (n : ℕ) → dirty n ≡ true → n ≢ x → later n ≡ true

-- Q stands in the middle of the sweep, after P, of the gates that lost their last reference since N
pub record IsDropping (N P Q : NetworkValue) : Type 0 where
  pub leaves : SameLeaves P Q
  pub outputs : Q.outputs ≡ P.outputs
  pub gates : (n : ℕ) (g : GateValue) → GateAt Q n g → GateAt P n g
  pub stay : (n : ℕ) (g : GateValue) → GateAt P n g → Stays N P n → GateAt Q n g
