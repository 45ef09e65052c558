-- The gates of what a substitution leaves are representatives of gates that are reached, and no level rises.
use Rattle.std.proofs.Common.{◌≡◌, ℕ, ◌+◌, ◌<◌, ◌≤◌, ◌⊎◌, List, [], ◌∷◌, map, IsSome, Option, None, Some, refl, sym, ap, subst, ◌∙◌, inl, inr, arith}
use Rattle.lnet_gates.specs.declared.signal.Signal.{Signal}
use Rattle.lnet_gates.specs.declared.gate.Kind.{Kind}
use Rattle.lnet_gates.specs.declared.normal.Normal.{Normal}
use Rattle.lnet_gates.specs.declared.normal.Normal.TheVariants.{Is, Gate}
use Rattle.lnet_gates.specs.Gates.{GateValue}
use Rattle.lnet_gates.specs.Operands.{moved}
use Rattle.lnet_gates.specs.Natives.{IsNativeGate}
use Rattle.lnet_gates.specs.NormalLaws.{replaced_in}
use Rattle.lnet_gates.specs.Forms.{form_of}
use Rattle.lnet_model.specs.Networks.{Entry, Constant, Input, IsGate, NetworkValue, entry_at, fanins_of, IsLive}
use Rattle.lnet_model.specs.Along.{at_entry, In, Reaches, Acyclic, IsClosed, fanin_nodes, nodes_read}
use Rattle.lnet_model.specs.Levels.{greatest, level_step, level}
use Rattle.lnet_model.specs.Changes.{GateAt, IsGateAt}
use Rattle.lnet_model.proofs.Over.{over-once, along_induction}
use Rattle.lnet_model.proofs.Levels.{level-falls}
use Rattle.lnet_model.proofs.Settings.{level_once}
use Rattle.lnet_substitution.specs.Representatives.{IsLeafAt, StandsFor, Represents}
use Rattle.lnet_substitution.specs.Substitutions.{SameLeaves}
use Rattle.lnet_substitution.proofs.Jumps.{reaches-on}
use Rattle.lnet_substitution.proofs.Resolving.{native-again}
use Rattle.lnet_substitution.proofs.OneReplaced.{not_constant, not_input, gate-live, gate-fanin, fanin-gate}
use Rattle.lnet_substitution.proofs.Merging.{form-signal, form-key}

-- ---- levels

pub gate-level : (N : NetworkValue) (n : ℕ) (g : GateValue) → Acyclic N → GateAt N n g → level N n ≡ 1 + greatest (map (level N) (nodes_read g.fanins))
gate-level N n g acyclic at = over-once N level_step 0 acyclic n ∙ level_once N (level N) n g at

level-entry : (N : NetworkValue) (n : ℕ) (e : Option Entry) → Acyclic N → entry_at N n ≡ e → level N n ≡ at_entry 0 (λ x. level_step n x (map {B = Signal × ℕ} (λ s. (s, level N s.node.0)) (fanins_of x))) e
level-entry N n e acyclic at = over-once N level_step 0 acyclic n ∙ ap (at_entry 0 (λ x. level_step n x (map {B = Signal × ℕ} (λ s. (s, level N s.node.0)) (fanins_of x)))) at

pub leaf-level : (N : NetworkValue) (n : ℕ) → Acyclic N → IsLeafAt N n → level N n ≡ 0
leaf-level N n acyclic (inl at) = level-entry N n (Some Constant) acyclic at
leaf-level N n acyclic (inr k) = level-entry N n (Some (Input k.0)) acyclic k.1

pub free-level : (N : NetworkValue) (n : ℕ) → Acyclic N → entry_at N n ≡ None → level N n ≡ 0
free-level N n acyclic at = level-entry N n None acyclic at

greatest-below : (V : ℕ → ℕ) (b : ℕ) (ls : List ℕ) → 0 < b → ((m : ℕ) → In m ls → V m < b) → greatest (map V ls) < b
greatest-below V b [] some h = some
greatest-below V b (l ∷ ls) some h =
    let here = h l (inl refl) in
    let rest = greatest-below V b ls some (λ m i. h m (inr i)) in
    omega arith

-- a gate whose fanins are below b is at most at b
pub level-at-most : (N : NetworkValue) (n : ℕ) (g : GateValue) (b : ℕ) → Acyclic N → GateAt N n g → 0 < b → ((m : ℕ) → In m (nodes_read g.fanins) → level N m < b) → level N n ≤ b
level-at-most N n g b acyclic at some h =
    let is = gate-level N n g acyclic at in
    let low = greatest-below (level N) b (nodes_read g.fanins) some h in
    omega arith

pub gate-level-some : (N : NetworkValue) (n : ℕ) (g : GateValue) → Acyclic N → GateAt N n g → 0 < level N n
gate-level-some N n g acyclic at = let is = gate-level N n g acyclic at in omega arith

-- ---- representatives

-- what is read through representatives is a representative's node
pub named-moved : (rep : ℕ → Signal) (k : ℕ) (ss : List Signal) → In k (nodes_read (map (moved rep) ss)) → (m : ℕ) × In m (nodes_read ss) × (k ≡ (rep m).node.0)
named-moved rep k [] i = absurd i
named-moved rep k (s ∷ ss) (inl e) = (s.node.0, inl refl, e)
named-moved rep k (s ∷ ss) (inr i) = let r = named-moved rep k ss i in (r.0, inr r.1, r.2)

leaf-gate : (N : NetworkValue) (n : ℕ) (g : GateValue) {P : Type 0} → IsLeafAt N n → GateAt N n g → P
leaf-gate N n g (inl c) at = not_constant g (sym at ∙ c)
leaf-gate N n g (inr k) at = not_input g k.0 (sym at ∙ k.1)

-- what a leaf reaches is the leaf
leaf-reaches : (N : NetworkValue) (n k : ℕ) → IsLeafAt N n → Reaches N n k → n ≡ k
leaf-reaches N n k leaf ([], w, e) = e
leaf-reaches N n k leaf (m ∷ ns, w, e) = absurd (elim leaf as (λ _. ⊥) [
  | inl c ↦ subst (λ o. In m (fanin_nodes o)) c w.1
  | inr i ↦ subst (λ o. In m (fanin_nodes o)) i.1 w.1
])

module _ (kind : Kind) (P M : NetworkValue) (rep : ℕ → Signal) (cp : Acyclic P) (cm : Acyclic M) (closed : IsClosed M) (first : entry_at P 0 ≡ Some Constant) (leaves : SameLeaves M P) (native : (n : ℕ) (g : GateValue) → GateAt M n g → IsNativeGate kind g) (R : Represents kind P M rep) where
  leaf_of : (n : ℕ) → IsLeafAt M n → IsLeafAt P n
  leaf_of n (inl c) = inl ((leaves.constant n).0 c)
  leaf_of n (inr k) = inr (k.0, (leaves.input n k.0).0 k.1)

  rep-leaf : (n : ℕ) → IsLeafAt M n → IsLeafAt P (rep n).node.0
  rep-leaf n leaf = subst (λ (s : Signal). IsLeafAt P s.node.0) (sym (R.leaf n leaf)) (leaf_of n leaf)

  -- what is named by the form of a gate over representatives is a fanin's representative, or the constant
  abbrev Below : GateValue → ℕ → Type 0
  Below g k = ((m : ℕ) × In m (nodes_read g.fanins) × (k ≡ (rep m).node.0)) ⊎ (k ≡ 0)

  below : (g : GateValue) (k : ℕ) → In k (nodes_read (replaced_in rep g).fanins) ⊎ (k ≡ 0) → Below g k
  below g k (inl i) = inl (named-moved rep k g.fanins i)
  below g k (inr z) = inr z

  -- t stands for the form: it is below, or it is a gate whose fanins are
  abbrev Standing : GateValue → Signal → Type 0
  Standing g t = Below g t.node.0 ⊎ ((j : GateValue) × GateAt P t.node.0 j × ((l : ℕ) → In l (nodes_read j.fanins) → Below g l))

  standing : (g : GateValue) (f : Normal) (t : Signal) → IsNativeGate kind g → form_of kind (replaced_in rep g) ≡ f → StandsFor P f t → Standing g t
  standing g (Is s) t nat is h = inl (subst (λ (z : Signal). Below g z.node.0) h (below g s.node.0 (form-signal kind (replaced_in rep g) s (native-again kind rep g nat) is)))
  standing g (Gate k phase) t nat is (j, at, key, phases) =
      inr (j, at, λ l i. below g l (form-key kind (replaced_in rep g) k phase l (native-again kind rep g nat) is (subst (λ z. In l (nodes_read z.fanins)) (sym key) i)))

  -- a gate that a representative reaches represents a gate that the node reaches
  abbrev Image : ℕ → ℕ → Type 0
  Image n k = (m : ℕ) × Reaches M n m × IsGateAt M m × ((rep m).node.0 ≡ k)

  abbrev HasImages : ℕ → Type 0
  HasImages n = (k : ℕ) → Reaches P (rep n).node.0 k → IsGateAt P k → Image n k

  image-below : (n : ℕ) (g : GateValue) → GateAt M n g → ((m : ℕ) → In m (nodes_read g.fanins) → HasImages m) → (l k : ℕ) → Below g l → Reaches P l k → IsGateAt P k → Image n k
  image-below n g at up l k (inr z) r gate =
      let e = leaf-reaches P 0 k (inl first) (subst (λ z. Reaches P z k) z r) in
      leaf-gate P k gate.0 (subst (IsLeafAt P) e (inl first)) gate.1
  image-below n g at up l k (inl (m, i, e)) r gate =
      let q = up m i k (subst (λ z. Reaches P z k) e r) gate in
      let j = gate-fanin M n m g at i in
      (q.0, reaches-on M n m q.0 (m ∷ [], (gate-live M n g at, j, closed n m j), refl) q.1, q.2, q.3)

  image-gate : (n : ℕ) (g : GateValue) → GateAt M n g → ((m : ℕ) → In m (nodes_read g.fanins) → HasImages m) → HasImages n
  image-gate n g at up k r gate =
      elim (standing g (form_of kind (replaced_in rep g)) (rep n) (native n g at) refl (R.gate n g at)) as (λ _. Image n k) [
        | inl b ↦ image-below n g at up (rep n).node.0 k b r gate
        | inr q ↦ by_walk q r
      ]
    where
      by_walk : (j : GateValue) × GateAt P (rep n).node.0 j × ((l : ℕ) → In l (nodes_read j.fanins) → Below g l) → Reaches P (rep n).node.0 k → Image n k
      by_walk q ([], w, e) = (n, ([], gate-live M n g at, refl), (g, at), e)
      by_walk q (l ∷ ls, w, e) = image-below n g at up l k (q.2 l (fanin-gate P (rep n).node.0 l q.0 q.1 w.1)) (ls, w.2, e) gate

  pub images : (n : ℕ) → IsLive M n → (k : ℕ) → Reaches P (rep n).node.0 k → IsGateAt P k → (m : ℕ) × Reaches M n m × IsGateAt M m × ((rep m).node.0 ≡ k)
  images = along_induction M (λ n. IsLive M n → HasImages n) cm (λ n up live.
      elim (entry_at M n) as (λ o. entry_at M n ≡ o → IsSome o → HasImages n) [
        | None ↦ λ _ l. cc
        | Some e ↦ elim e as (λ e. entry_at M n ≡ Some e → IsSome (Some e) → HasImages n) [
          | Constant ↦ λ at _ k r gate. leaf-gate P k gate.0 (subst (IsLeafAt P) (leaf-reaches P (rep n).node.0 k (rep-leaf n (inl at)) r) (rep-leaf n (inl at))) gate.1
          | Input i ↦ λ at _ k r gate. leaf-gate P k gate.0 (subst (IsLeafAt P) (leaf-reaches P (rep n).node.0 k (rep-leaf n (inr (i, at))) r) (rep-leaf n (inr (i, at)))) gate.1
          | IsGate g ↦ λ at _. image-gate n g at (λ m i. (let j = gate-fanin M n m g at i in up m j (closed n m j)))
        ]
      ] refl live)

  -- ---- a representative's level is at most the node's

  abbrev IsLow : ℕ → Type 0
  IsLow n = level P (rep n).node.0 ≤ level M n

  low-below : (n : ℕ) (g : GateValue) → GateAt M n g → ((m : ℕ) → In m (nodes_read g.fanins) → IsLow m) → (l : ℕ) → Below g l → level P l < level M n
  low-below n g at up l (inr z) =
      let none = ap (level P) z ∙ leaf-level P 0 cp (inl first) in
      let some = gate-level-some M n g cm at in
      omega arith
  low-below n g at up l (inl (m, i, e)) =
      let same = ap (level P) e in
      let low = up m i in
      let falls = level-falls M cm n m (gate-fanin M n m g at i) in
      omega arith

  low-gate : (n : ℕ) (g : GateValue) → GateAt M n g → ((m : ℕ) → In m (nodes_read g.fanins) → IsLow m) → IsLow n
  low-gate n g at up =
      elim (standing g (form_of kind (replaced_in rep g)) (rep n) (native n g at) refl (R.gate n g at)) as (λ _. IsLow n) [
        | inl b ↦ (let less = low-below n g at up (rep n).node.0 b in omega arith)
        | inr q ↦ level-at-most P (rep n).node.0 q.0 (level M n) cp q.1 (gate-level-some M n g cm at) (λ l i. low-below n g at up l (q.2 l i))
      ]

  low-leaf : (n : ℕ) → IsLeafAt M n → IsLow n
  low-leaf n leaf = let none = leaf-level P (rep n).node.0 cp (rep-leaf n leaf) in omega arith

  pub represented-low : (n : ℕ) → IsLive M n → level P (rep n).node.0 ≤ level M n
  represented-low = along_induction M (λ n. IsLive M n → IsLow n) cm (λ n up live.
      elim (entry_at M n) as (λ o. entry_at M n ≡ o → IsSome o → IsLow n) [
        | None ↦ λ _ l. cc
        | Some e ↦ elim e as (λ e. entry_at M n ≡ Some e → IsSome (Some e) → IsLow n) [
          | Constant ↦ λ at _. low-leaf n (inl at)
          | Input i ↦ λ at _. low-leaf n (inr (i, at))
          | IsGate g ↦ λ at _. low-gate n g at (λ m i. (let j = gate-fanin M n m g at i in up m j (closed n m j)))
        ]
      ] refl live)
