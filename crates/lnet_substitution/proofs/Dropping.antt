-- The gates that lost their last reference go: the beginning, a step and the end, and what stays.
use Rattle.std.proofs.Common.{◌≡◌, ◌≢◌, ℕ, zero, suc, ◌+◌, ◌≤◌, ◌⊎◌, List, [], ◌∷◌, length, IsSome, None, Some, refl, sym, ap, subst, ◌∙◌, inl, inr, arith}
use Rattle.lnet_gates.specs.Gates.{GateValue}
use Rattle.lnet_model.specs.Networks.{Entry, Constant, Input, IsGate, NetworkValue, Lookup, entry_at, live_count, IsLive}
use Rattle.lnet_model.specs.Along.{In, IsWalk, end_of, Reaches, Acyclic, IsWhole, fanin_nodes, nodes_read, over}
use Rattle.lnet_model.specs.Changes.{GateAt, IsGateAt, without}
use Rattle.lnet_model.proofs.Along.{Step, live_parent, once-same}
use Rattle.lnet_model.proofs.Over.{over-once, once-entry, along_induction}
use Rattle.lnet_model.proofs.Walks.{short_walks}
use Rattle.lnet_model.proofs.Changes.{without-here, without-apart}
use Rattle.lnet_substitution.specs.Substitutions.{IsNamed, IsRoot, Stays, DropsLost}
use Rattle.lnet_substitution.specs.Cascades.{IsDropping}
use Rattle.lnet_substitution.proofs.Jumps.{reaches-on}
use Rattle.lnet_substitution.proofs.Replaced.{nothing-some}
use Rattle.lnet_substitution.proofs.OneReplaced.{not_constant, not_input, gate-live, gate-fanin, fanin-gate, parent-gate}

without-kind : (N : NetworkValue) (k : ℕ) → (without N k).kind ≡ N.kind
unfolding without
without-kind N k = refl

without-inputs : (N : NetworkValue) (k : ℕ) → (without N k).inputs ≡ N.inputs
unfolding without
without-inputs N k = refl

without-outputs : (N : NetworkValue) (k : ℕ) → (without N k).outputs ≡ N.outputs
unfolding without
without-outputs N k = refl

pub drop-begins : (N P : NetworkValue) → IsDropping N P P
drop-begins N P = record {
  leaves = record { kind = refl; inputs = refl; constant = λ n. (λ h. h, λ h. h); input = λ n k. (λ h. h, λ h. h) };
  outputs = refl;
  gates = λ n g at. at;
  stay = λ n g at _. at;
}

-- the last step of a walk
last_step : (g : Lookup) (n m : ℕ) (ns : List ℕ) → IsWalk g n (m ∷ ns) → (ks : List ℕ) × IsWalk g n ks × In (end_of m ns) (fanin_nodes (g (end_of n ks)))
last_step g n m [] w = ([], w.0, w.1)
last_step g n m (k ∷ ns) w = let r = last_step g m k ns w.2 in (m ∷ r.0, (w.0, w.1, r.1), r.2)

-- what a root reaches is a root, or a fanin of what a root reaches
root_or_fanin : (N P : NetworkValue) (n : ℕ) → Stays N P n → IsRoot N P n ⊎ ((k : ℕ) × Stays N P k × In n (fanin_nodes (entry_at P k)))
root_or_fanin N P n (r, root, ([], w, e)) = inl (subst (IsRoot N P) e root)
root_or_fanin N P n (r, root, (m ∷ ns, w, e)) =
    let l = last_step (entry_at P) r m ns w in
    inr (end_of r l.0, (r, root, (l.0, l.1, refl)), subst (λ z. In z (fanin_nodes (entry_at P (end_of r l.0)))) e l.2)

pub stays_down : (N P : NetworkValue) → IsWhole P → (n m : ℕ) → Stays N P n → In m (fanin_nodes (entry_at P n)) → Stays N P m
stays_down N P whole n m t i = (t.0, t.1, reaches-on P t.0 n m t.2 (m ∷ [], (live_parent (entry_at P) n m i, i, whole.closed n m i), refl))

module _ (N P Q : NetworkValue) (S : IsDropping N P Q) where
  -- a gate that stays is named, or wasn't at the beginning
  named : (n : ℕ) → Stays N P n → IsNamed Q n ⊎ (IsNamed N n → ⊥)
  named n t = elim (root_or_fanin N P n t) as (λ _. IsNamed Q n ⊎ (IsNamed N n → ⊥)) [
    | inl root ↦ elim root as (λ _. IsNamed Q n ⊎ (IsNamed N n → ⊥)) [
      | inl i ↦ inl (inr (subst (λ ss. In n (nodes_read ss)) (sym S.outputs) i))
      | inr q ↦ inr q.1
    ]
    | inr k ↦
        let g = parent-gate P k.0 n k.2 in
        inl (inl (k.0, gate-fanin Q k.0 n g.0 (S.stay k.0 g.0 g.1 k.1) (fanin-gate P k.0 n g.0 g.1 k.2)))
  ]

  -- a gate that nothing names goes, where something named it at the beginning
  pub drop-step : (x : ℕ) → IsGateAt Q x → (IsNamed Q x → ⊥) → IsNamed N x → IsDropping N P (without Q x)
  drop-step x (gx, at) free had = record {
    leaves = record {
      kind = without-kind Q x ∙ S.leaves.kind;
      inputs = without-inputs Q x ∙ S.leaves.inputs;
      constant = λ n. (
        λ h. (let k = (S.leaves.constant n).0 h in without-apart Q x n (λ e. not_constant gx (sym at ∙ sym (ap (entry_at Q) e) ∙ k)) ∙ k),
        λ h. (S.leaves.constant n).1 (sym (without-apart Q x n (back n Constant h)) ∙ h),
      );
      input = λ n i. (
        λ h. (let k = (S.leaves.input n i).0 h in without-apart Q x n (λ e. not_input gx i (sym at ∙ sym (ap (entry_at Q) e) ∙ k)) ∙ k),
        λ h. (S.leaves.input n i).1 (sym (without-apart Q x n (back n (Input i) h)) ∙ h),
      );
    };
    outputs = without-outputs Q x ∙ S.outputs;
    gates = λ n g h. S.gates n g (sym (without-apart Q x n (back n (IsGate g) h)) ∙ h);
    stay = λ n g h t. without-apart Q x n (λ e. elim (named n t) as (λ _. ⊥) [ inl r ↦ free (subst (IsNamed Q) e r) | inr k ↦ k (subst (IsNamed N) (sym e) had) ]) ∙ S.stay n g h t;
  }
    where
      back : (n : ℕ) (e : Entry) → entry_at (without Q x) n ≡ Some e → n ≢ x
      back n e h is = nothing-some e (sym (ap (entry_at (without Q x)) is ∙ without-here Q x) ∙ h)

  module _ (acyclic : Acyclic P) (done : (n : ℕ) → IsGateAt Q n → IsNamed Q n ⊎ (IsNamed N n → ⊥)) where
    -- parents of parents end at a root
    up : (f n : ℕ) (g : GateValue) (ns : List ℕ) → GateAt Q n g → IsWalk (entry_at P) n ns → live_count P ≤ f + length ns → Stays N P n
    up zero n g ns at w h = let k = short_walks P acyclic n ns w in absurd (omega arith)
    up (suc f) n g ns at w h =
        let live = gate-live P n g (S.gates n g at) in
        elim (done n (g, at)) as (λ _. Stays N P n) [
          | inr none ↦ (n, inr ((g, S.gates n g at), none), ([], live, refl))
          | inl r ↦ elim r as (λ _. Stays N P n) [
            | inr i ↦ (n, inl (subst (λ ss. In n (nodes_read ss)) S.outputs i), ([], live, refl))
            | inl p ↦
                let q = parent-gate Q p.0 n p.1 in
                let i = gate-fanin P p.0 n q.0 (S.gates p.0 q.0 q.1) (fanin-gate Q p.0 n q.0 q.1 p.1) in
                let t = up f p.0 q.0 (n ∷ ns) q.1 (live_parent (entry_at P) p.0 n i, i, w) (longer f (length ns) h) in
                (t.0, t.1, reaches-on P t.0 p.0 n t.2 (n ∷ [], (live_parent (entry_at P) p.0 n i, i, live), refl))
          ]
        ]
      where
        longer : (f l : ℕ) → live_count P ≤ suc f + l → live_count P ≤ f + suc l
        longer f l h = omega arith

    pub drop-ends : DropsLost N P Q
    drop-ends = record {
      leaves = S.leaves;
      outputs = S.outputs;
      gates = λ n g at. (S.gates n g at, up (live_count P) n g [] at (gate-live P n g (S.gates n g at)) (omega arith));
      stay = S.stay;
    }

-- ---- what stays is as it was

module _ (N P Q : NetworkValue) (cp : Acyclic P) (whole : IsWhole P) (drops : DropsLost N P Q) where
  entry_before : (n : ℕ) (e : Entry) → entry_at Q n ≡ Some e → entry_at P n ≡ Some e
  entry_before n Constant h = (drops.leaves.constant n).1 h
  entry_before n (Input k) h = (drops.leaves.input n k).1 h
  entry_before n (IsGate g) h = (drops.gates n g h).0

  live_before : (n : ℕ) → IsLive Q n → IsLive P n
  live_before n h =
      elim (entry_at Q n) as (λ e. entry_at Q n ≡ e → IsSome e → IsLive P n) [
        | None ↦ λ _ k. cc
        | Some e ↦ λ at _. subst IsSome (sym (entry_before n e at)) refl
      ] refl h

  fanin_before : (n m : ℕ) → In m (fanin_nodes (entry_at Q n)) → In m (fanin_nodes (entry_at P n))
  fanin_before n m i = let q = parent-gate Q n m i in gate-fanin P n m q.0 (entry_before n (IsGate q.0) q.1) (fanin-gate Q n m q.0 q.1 i)

  walk_before : (n : ℕ) (ns : List ℕ) → IsWalk (entry_at Q) n ns → IsWalk (entry_at P) n ns
  walk_before n [] w = live_before n w
  walk_before n (m ∷ ns) w = (live_before n w.0, fanin_before n m w.1, walk_before m ns w.2)

  pub dropped-Acyclic : Acyclic Q
  dropped-Acyclic n m ns w = cp n m ns (walk_before n (m ∷ ns) w)

  pub reaches-before : (n m : ℕ) → Reaches Q n m → Reaches P n m
  reaches-before n m r = (r.0, walk_before n r.0 r.1, r.2)

  pub same_stays : (n : ℕ) → Stays N P n → entry_at Q n ≡ entry_at P n
  same_stays n t =
      elim (entry_at P n) as (λ e. entry_at P n ≡ e → IsLive P n → entry_at Q n ≡ e) [
        | None ↦ λ at k. (let no : IsSome {T = Entry} None = subst IsSome at k in cc)
        | Some e ↦ elim e as (λ e. entry_at P n ≡ Some e → IsLive P n → entry_at Q n ≡ Some e) [
          | Constant ↦ λ at _. (drops.leaves.constant n).0 at
          | Input k ↦ λ at _. (drops.leaves.input n k).0 at
          | IsGate g ↦ λ at _. drops.stay n g at t
        ]
      ] refl (subst (IsLive P) t.2.2 (walk_end (entry_at P) t.0 t.2.0 t.2.1))
    where
      walk_end : (g : Lookup) (n : ℕ) (ns : List ℕ) → IsWalk g n ns → IsSome (g (end_of n ns))
      walk_end g n [] w = w
      walk_end g n (m ∷ ns) w = walk_end g m ns w.2

  pub over-dropped : {A : Type 0} (step : Step A) (none : A) (n : ℕ) → Stays N P n → over Q step none n ≡ over P step none n
  over-dropped step none =
      along_induction P (λ n. Stays N P n → over Q step none n ≡ over P step none n) cp (λ n below t.
      over-once Q step none dropped-Acyclic n
      ∙ once-entry (entry_at Q) (entry_at P) step none (over Q step none) n (same_stays n t)
      ∙ once-same (entry_at P) step none (over Q step none) (over P step none) n (λ m i. below m i (stays_down N P whole n m t i))
      ∙ sym (over-once P step none cp n))

  pub output-stays : (m : ℕ) → In m (nodes_read P.outputs) → Stays N P m
  output-stays m i = (m, inl i, ([], whole.outputs_live m i, refl))

  pub dropped-IsWhole : IsWhole Q
  dropped-IsWhole = record {
    first = (drops.leaves.constant 0).0 whole.first;
    closed = λ n m i. (
        let q = parent-gate Q n m i in
        let t = stays_down N P whole n m (drops.gates n q.0 q.1).1 (fanin_before n m i) in
        subst IsSome (sym (same_stays m t)) (whole.closed n m (fanin_before n m i))
        );
    outputs_live = λ m i. (let j = subst (λ ss. In m (nodes_read ss)) drops.outputs i in subst IsSome (sym (same_stays m (output-stays m j))) (whole.outputs_live m j));
  }

  -- where each gate was named at the beginning, each gate is
  pub dropped-named : ((n : ℕ) → IsGateAt P n → IsNamed N n) → (n : ℕ) → IsGateAt Q n → IsNamed Q n
  dropped-named tidy n (g, at) =
      let r = drops.gates n g at in
      elim (root_or_fanin N P n r.1) as (λ _. IsNamed Q n) [
        | inl root ↦ elim root as (λ _. IsNamed Q n) [
          | inl i ↦ inr (subst (λ ss. In n (nodes_read ss)) (sym drops.outputs) i)
          | inr q ↦ absurd (q.1 (tidy n q.0))
        ]
        | inr k ↦ (let p = parent-gate P k.0 n k.2 in inl (k.0, gate-fanin Q k.0 n p.0 (drops.stay k.0 p.0 p.1 k.1) (fanin-gate P k.0 n p.0 p.1 k.2)))
      ]
