-- Where the target's level is at most the node's, a substitution raises no level; and what it leaves is an image of what is reached.
use Rattle.std.proofs.Common.{◌≡◌, ◌≢◌, ℕ, ◌<◌, ◌≤◌, ◌⊎◌, List, [], ◌∷◌, map, None, Some, refl, sym, ap, subst, ◌∙◌, inl, inr, arith}
use Rattle.lnet_gates.specs.declared.signal.Signal.{Signal}
use Rattle.lnet_gates.specs.declared.gate.Kind.{Kind}
use Rattle.lnet_gates.specs.Gates.{GateValue}
use Rattle.lnet_model.specs.Networks.{Constant, Input, IsGate, NetworkValue, entry_at, IsLive}
use Rattle.lnet_model.specs.Along.{In, Reaches, Acyclic, nodes_read}
use Rattle.lnet_model.specs.Levels.{greatest, level_step, level, depth}
use Rattle.lnet_model.specs.Changes.{GateAt, IsGateAt}
use Rattle.lnet_model.proofs.Over.{along_induction}
use Rattle.lnet_model.proofs.Levels.{level-falls}
use Rattle.lnet_hashed.specs.Swept.{IsReached}
use Rattle.lnet_substitution.specs.Replaced.{replaced}
use Rattle.lnet_substitution.specs.Substitutions.{CanSubstitute, SameLeaves, Substitutes}
use Rattle.lnet_substitution.proofs.Replaced.{in_redirected, redirected_gate, replaced-outputs}
use Rattle.lnet_substitution.proofs.OneReplaced.{gate-live, gate-fanin, leaves-replaced, replaced-gate, live-stays, not_redirected}
use Rattle.lnet_substitution.proofs.Dropping.{dropped-Acyclic, reaches-before, over-dropped}
use Rattle.lnet_substitution.proofs.Substituted.{leaves-between, target-apart, replaced-is-Acyclic, replaced-is-IsWhole, replaced-natives}
use Rattle.lnet_substitution.proofs.Images.{leaf-level, free-level, level-at-most, gate-level-some, named-moved, images, represented-low}

greatest-at-most : (V : ℕ → ℕ) (b : ℕ) (ls : List ℕ) → ((m : ℕ) → In m ls → V m ≤ b) → greatest (map V ls) ≤ b
greatest-at-most V b [] h = omega arith
greatest-at-most V b (l ∷ ls) h =
    let here = h l (inl refl) in
    let rest = greatest-at-most V b ls (λ m i. h m (inr i)) in
    omega arith

at-greatest : (V : ℕ → ℕ) (m : ℕ) (ls : List ℕ) → In m ls → V m ≤ greatest (map V ls)
at-greatest V m [] i = absurd i
at-greatest V m (l ∷ ls) (inl e) = let same = ap V e in omega arith
at-greatest V m (l ∷ ls) (inr i) = let rest = at-greatest V m ls i in omega arith

module _ (kind : Kind) (N : NetworkValue) (o : ℕ) (s : Signal) (can : CanSubstitute kind N o s) where
  abbrev M : NetworkValue
  M = replaced N o s

  cm : Acyclic (replaced N o s)
  cm = replaced-is-Acyclic kind N o s can

  -- ---- the replacement alone

  module _ (low : level N s.node.0 ≤ level N o) where
    low-fanin : (n : ℕ) (h : GateValue) → GateAt N n h → (m : ℕ) → In m (nodes_read (redirected_gate o s h).fanins) → (m ≢ o → level M m ≤ level N m) → level M m < level N n
    low-fanin n h at m i up =
        let mine = up (not_redirected o m s h.fanins (target-apart kind N o s can) i) in
        elim (in_redirected o m s h.fanins i) as (λ _. level M m < level N n) [
          | inl j ↦ (let falls = level-falls N can.acyclic n m (gate-fanin N n m h at j) in omega arith)
          | inr p ↦
              let falls = level-falls N can.acyclic n o (gate-fanin N n o h at p.1) in
              let same = ap (level N) p.0 in
              omega arith
        ]

    pub replaced-low : (n : ℕ) → n ≢ o → level (replaced N o s) n ≤ level N n
    replaced-low = along_induction M (λ n. n ≢ o → level M n ≤ level N n) cm (λ n up ne.
        elim (entry_at M n) as (λ x. entry_at M n ≡ x → level M n ≤ level N n) [
          | None ↦ λ at. (let none = free-level M n cm at in omega arith)
          | Some e ↦ elim e as (λ e. entry_at M n ≡ Some e → level M n ≤ level N n) [
            | Constant ↦ λ at. (let none = leaf-level M n cm (inl at) in omega arith)
            | Input k ↦ λ at. (let none = leaf-level M n cm (inr (k, at)) in omega arith)
            | IsGate g ↦ λ at.
                let r = replaced-gate N o s can.gate.0 can.gate.1 n g at in
                level-at-most M n g (level N n) cm at (gate-level-some N n r.0 can.acyclic r.1)
                (λ m i. low-fanin n r.0 r.1 m (subst (λ (z : GateValue). In m (nodes_read z.fanins)) (sym r.2) i) (up m (gate-fanin M n m g at i)))
          ]
        ] refl)

  -- ---- a whole substitution

  module _ (Q : NetworkValue) (h : Substitutes kind N o s Q) where
    abbrev P : NetworkValue
    P = h.merged

    leaves : SameLeaves M P
    leaves = leaves-between N M P (leaves-replaced N o s can.gate.0 can.gate.1) h.merges.leaves

    -- a number's level is what it was before the lost gates went, or 0
    level-dropped : (k : ℕ) → level Q k ≤ level P k
    level-dropped k =
        let cq = dropped-Acyclic N P Q h.merges.acyclic h.merges.whole h.drops in
        elim (entry_at Q k) as (λ x. entry_at Q k ≡ x → level Q k ≤ level P k) [
          | None ↦ λ at. (let none = free-level Q k cq at in omega arith)
          | Some e ↦ elim e as (λ e. entry_at Q k ≡ Some e → level Q k ≤ level P k) [
            | Constant ↦ λ at. (let none = leaf-level Q k cq (inl at) in omega arith)
            | Input i ↦ λ at. (let none = leaf-level Q k cq (inr (i, at)) in omega arith)
            | IsGate g ↦ λ at. (let same = over-dropped N P Q h.merges.acyclic h.merges.whole h.drops level_step 0 k (h.drops.gates k g at).1 in omega arith)
          ]
        ] refl

    -- what an output reaches is the representative of a gate that an output reached
    pub substituted-images : (n : ℕ) → IsGateAt Q n → IsReached Q n → (m : ℕ) × IsReached (replaced N o s) m × IsGateAt (replaced N o s) m × ((h.rep m).node.0 ≡ n)
    substituted-images n gate (k, i, r) =
        let whole = replaced-is-IsWhole kind N o s can in
        let q = named-moved h.rep k M.outputs (subst (λ ss. In k (nodes_read ss)) (h.drops.outputs ∙ h.merges.outputs) i) in
        let before = reaches-before N P Q h.merges.acyclic h.merges.whole h.drops k n r in
        let image = images kind P M h.rep h.merges.acyclic cm whole.closed h.merges.whole.first leaves (replaced-natives kind N o s can) h.merges.nodes
        q.0 (whole.outputs_live q.0 q.1) n (subst (λ z. Reaches P z n) q.2 before) (gate.0, (h.drops.gates n gate.0 gate.1).0) in
        (image.0, (q.0, q.1, image.1), image.2, image.3)

    -- a representative's level is at most the node's
    pub substituted-low : (n : ℕ) → IsLive (replaced N o s) n → level Q (h.rep n).node.0 ≤ level (replaced N o s) n
    substituted-low n live =
        let kept = level-dropped (h.rep n).node.0 in
        let low = represented-low kind P M h.rep h.merges.acyclic cm (replaced-is-IsWhole kind N o s can).closed h.merges.whole.first leaves (replaced-natives kind N o s can) h.merges.nodes n live in
        omega arith

    -- no gate's level rises
    pub levels-fall : level N s.node.0 ≤ level N o → (n : ℕ) → IsGateAt Q n → level Q n ≤ level N n
    levels-fall le n gate =
        let own = h.merges.own n gate.0 (h.drops.gates n gate.0 gate.1).0 in
        let live = live-stays N o s can.gate.0 can.gate.1 n own.0 (gate-live N n own.1.0 own.1.1) in
        let mine = substituted-low n live in
        let rest = replaced-low le n own.0 in
        let same = ap (λ (z : Signal). level Q z.node.0) own.2 in
        omega arith

    output-low : level N s.node.0 ≤ level N o → (k : ℕ) → In k (nodes_read Q.outputs) → level Q k ≤ greatest (map (level N) (nodes_read N.outputs)) ⊎ (In o (nodes_read N.outputs) × (level Q k ≤ level N o))
    output-low le k i =
        let whole = replaced-is-IsWhole kind N o s can in
        let q = named-moved h.rep k M.outputs (subst (λ ss. In k (nodes_read ss)) (h.drops.outputs ∙ h.merges.outputs) i) in
        let j = subst (λ ss. In q.0 (nodes_read ss)) (replaced-outputs N o s) q.1 in
        let mine = substituted-low q.0 (whole.outputs_live q.0 q.1) in
        let rest = replaced-low le q.0 (not_redirected o q.0 s N.outputs (target-apart kind N o s can) j) in
        let same = ap (level Q) q.2 in
        elim (in_redirected o q.0 s N.outputs j) as (λ _. (level Q k ≤ greatest (map (level N) (nodes_read N.outputs))) ⊎ (In o (nodes_read N.outputs) × (level Q k ≤ level N o))) [
          | inl old ↦ inl (let most = at-greatest (level N) q.0 (nodes_read N.outputs) old in omega arith)
          | inr p ↦ inr (p.1, (let target = ap (level N) p.0 in omega arith))
        ]

    pub depth-falls : level N s.node.0 ≤ level N o → depth Q ≤ depth N
    unfolding depth
    depth-falls le = greatest-at-most (level Q) (greatest (map (level N) (nodes_read N.outputs))) (nodes_read Q.outputs) (λ k i.
        elim (output-low le k i) as (λ _. level Q k ≤ greatest (map (level N) (nodes_read N.outputs))) [
          | inl low ↦ low
          | inr p ↦ (let low = p.1 in let most = at-greatest (level N) o (nodes_read N.outputs) p.0 in omega arith)
        ])
