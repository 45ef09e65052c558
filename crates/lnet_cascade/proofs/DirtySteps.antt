-- What a dirty gate's step does to the cascade over marks.
use Rattle.std.proofs.Common.{◌≡◌, ◌≢◌, ℕ, Bool, true, false, ◌⊎◌, List, [], IsSome, refl, sym, ap, subst, ◌∙◌, inl, inr}
use Rattle.std.specs.Prelude.{slice_set}
use Rattle.std.proofs.lemmas.Bool.Decides.{eqb_tells}
use Rattle.lnet_gates.specs.declared.signal.Signal.{Signal}
use Rattle.lnet_gates.specs.declared.gate.Kind.{Kind}
use Rattle.lnet_gates.specs.declared.normal.Normal.TheVariants.{Is, Gate}
use Rattle.lnet_gates.specs.Gates.{GateValue, KeyValue, flip}
use Rattle.lnet_gates.specs.Operands.{flipped}
use Rattle.lnet_gates.specs.Natives.{IsNativeGate}
use Rattle.lnet_gates.specs.NormalForms.{carried}
use Rattle.lnet_gates.specs.NormalLaws.{IsNativeForm, keyed_gate}
use Rattle.lnet_gates.specs.Forms.{form_of}
use Rattle.lnet_gates.specs.Lawful.KindLaws.{kind_laws}
use Rattle.lnet_model.specs.Networks.{IsGate, NetworkValue, entry_at, IsLive}
use Rattle.lnet_model.specs.Along.{In, Depends, Reaches, fanin_nodes, nodes_read}
use Rattle.lnet_model.specs.Changes.{GateAt, IsGateAt, AreLive, with_entry}
use Rattle.lnet_model.specs.Dags.{IsStored}
use Rattle.lnet_model.proofs.Changes.{with_entry-here, with_entry-apart}
use Rattle.lnet_model.proofs.Stored.{same_network}
use Rattle.lnet_substitution.specs.Replaced.{redirected, replaced}
use Rattle.lnet_substitution.specs.Cascades.{IsCascading, CanMerge, IsUnusedKey, IsDirtyAfter}
use Rattle.lnet_substitution.proofs.OneReplaced.{gate-live, gate-fanin, parent-gate, gate-apart-zero, gate-after}
use Rattle.lnet_substitution.proofs.Merging.{not-both, form-signal, form-key, no_way_back, merge-free, cascade-merge}
use Rattle.lnet_substitution.proofs.Settling.{cascade-settle}
use Rattle.lnet_cascade.specs.Marks.{marks_of, MarkedMore, OnlyGates}
use Rattle.lnet_cascade.specs.Cascading.{IsBegun, GoesOn, IsCleanHolder}
use Rattle.lnet_cascade.proofs.Marking.{cleared, still}

-- no gate is its own fanin
pub no_self : (C : NetworkValue) (x : ℕ) → IsStored C → In x (fanin_nodes (entry_at C x)) → ⊥
no_self C x stored i =
    let g = parent-gate C x x i in
    let live = gate-live C x g.0 g.1 in
    stored.dag.acyclic x x [] (live, i, live) refl

-- a network with what stands there set again is as it was
pub set-same : (N : NetworkValue) (n : ℕ) (g : GateValue) → GateAt N n g → with_entry N n (IsGate g) ≡ N
unfolding with_entry
set-same N n g at = same_network (with_entry N n (IsGate g)) N refl refl refl (λ q. elim (eqb_tells q n) as (λ _. entry_at (with_entry N n (IsGate g)) q ≡ entry_at N q) [
  | inl p ↦ ap (entry_at (with_entry N n (IsGate g))) p.1 ∙ with_entry-here N n (IsGate g) ∙ sym (ap (entry_at N) p.1 ∙ at)
  | inr p ↦ with_entry-apart N n (IsGate g) q p.1
])

flip-again : (p c : Bool) → flip (flip p c) c ≡ p
flip-again true true = refl
flip-again true false = refl
flip-again false true = refl
flip-again false false = refl

module _ (kind : Kind) (C : NetworkValue) (stored : IsStored C) (bs : List Bool) (begun : IsBegun kind C bs) (x : ℕ) (dirty : marks_of bs x ≡ true) (gx : GateValue) (at : GateAt C x gx) where
  pub dirty-native : IsNativeGate kind gx
  dirty-native = begun.4.1.native x gx at

  named-live : (m : ℕ) → In m (nodes_read gx.fanins) ⊎ (m ≡ 0) → IsLive C m
  named-live m (inl j) = stored.whole.closed x m (gate-fanin C x m gx at j)
  named-live m (inr z) = subst (IsLive C) (sym z) (subst IsSome (sym stored.whole.first) refl)

  -- ---- merged into t

  pub merged-free : (t : Signal) → t.node.0 ≢ x → CanMerge kind C gx t → Depends C t x → ⊥
  merged-free t ne joins = merge-free kind C stored.dag.acyclic stored.whole x gx at dirty-native t ne joins

  module _ (t : Signal) (ne : t.node.0 ≢ x) (live : IsLive C t.node.0) (joins : CanMerge kind C gx t) (D : NetworkValue) (is : D ≡ replaced C x t) (cs : List Bool) (more : MarkedMore (λ n. In x (fanin_nodes (entry_at C n))) (slice_set bs x false) cs) where
    later : IsDirtyAfter C x (marks_of bs) (marks_of cs)
    later = record {
      only = λ n i. elim (more.only n i) as (λ _. (marks_of bs n ≡ true) ⊎ In x (fanin_nodes (entry_at C n))) [ inl h ↦ inl (cleared bs x n dirty h).0 | inr p ↦ inr p ];
      before = λ n i apart. more.before n (still bs x n i apart);
      parents = more.those;
    }

    pub merged-goes_on : GoesOn kind C bs D cs
    merged-goes_on N o s can (rep, I) = (
      λ n. redirected x t (rep n),
      subst (λ D. IsCascading kind N o s D (λ n. redirected x t (rep n)) (marks_of cs)) (sym is)
          (cascade-merge kind N o s can.gate.0 can.gate.1 can.strashed.native C rep (marks_of bs) I x gx at dirty t (marks_of cs) ne live joins later),
    )

    pub merged-gates : OnlyGates C bs → OnlyGates D cs
    merged-gates gates n h = subst (λ D. IsGateAt D n) (sym is) (elim (more.only n h) as (λ _. IsGateAt (replaced C x t) n) [
      | inl k ↦ (let r = cleared bs x n dirty k in let g = gates n r.0 in (_, gate-after C x t gx at n g.0 g.1 r.1))
      | inr p ↦ (let g = parent-gate C n x p in (_, gate-after C x t gx at n g.0 g.1 (λ q. no_self C x stored (subst (λ z. In x (fanin_nodes (entry_at C z))) q p))))
    ])

  -- ---- set to its normal form

  module _ (k : KeyValue) (phase : Bool) (is_key : form_of kind gx ≡ Gate k phase) where
    pub settled-native : IsNativeGate kind (keyed_gate k phase)
    settled-native = subst (IsNativeForm (IsNativeGate kind)) is_key ((kind_laws kind).native gx dirty-native)

    pub settled-live : AreLive C (nodes_read k.fanins)
    settled-live m i = named-live m (form-key kind gx k phase m dirty-native is_key i)

    pub settled-free : (m : ℕ) → In m (nodes_read k.fanins) → Reaches C m x → ⊥
    settled-free m i = no_way_back kind C stored.dag.acyclic stored.whole x gx at dirty-native m (form-key kind gx k phase m dirty-native is_key i)

    module _ (D : NetworkValue) (is : D ≡ with_entry C x (IsGate (keyed_gate k phase))) where
      pub settled-goes_on : IsUnusedKey C (marks_of bs) k → GoesOn kind C bs D (slice_set bs x false)
      settled-goes_on unused N o s can (rep, I) = (
        rep,
        subst (λ D. IsCascading kind N o s D rep (marks_of (slice_set bs x false))) (sym is)
            (cascade-settle kind N o s C rep (marks_of bs) I x gx at dirty k phase (marks_of (slice_set bs x false)) is_key unused (record {
              only = λ n i. (cleared bs x n dirty i).0;
              before = λ n i apart. still bs x n i apart;
            })),
      )

      pub settled-gates : OnlyGates C bs → OnlyGates D (slice_set bs x false)
      settled-gates gates n h =
          let r = cleared bs x n dirty h in
          let g = gates n r.0 in
          (g.0, ap (λ D. entry_at D n) is ∙ with_entry-apart C x (IsGate (keyed_gate k phase)) n r.1 ∙ g.1)

    -- ---- where a clean gate has the key

    module _ (s : Signal) (holder : IsCleanHolder C bs k s) where
      pub holder-live : IsLive C s.node.0
      holder-live = gate-live C s.node.0 holder.gate holder.at

      pub holder-apart : s.node.0 ≢ x
      holder-apart e = not-both (marks_of bs x) (subst (λ z. marks_of bs z ≡ false) e holder.clean) dirty

      pub holder-merges : CanMerge kind C gx (flipped phase s)
      holder-merges =
          let own = begun.4.1.own_form s.node.0 holder.gate holder.at holder.clean in
          let phases : flip (flip phase s.complement) holder.gate.phase ≡ phase = ap (flip (flip phase s.complement)) holder.phase ∙ flip-again phase s.complement in
          inr (
            holder.gate,
            holder.at,
            is_key ∙ (λ i. Gate (sym holder.key i) (sym phases i)) ∙ ap (carried (flip phase s.complement)) (sym own),
            own,
          )

  -- ---- where its form is a signal

  pub signal-live : (t : Signal) → form_of kind gx ≡ Is t → IsLive C t.node.0
  signal-live t is = named-live t.node.0 (form-signal kind gx t dirty-native is)

  pub signal-apart : (t : Signal) → form_of kind gx ≡ Is t → t.node.0 ≢ x
  signal-apart t is e = elim (form-signal kind gx t dirty-native is) as (λ _. ⊥) [
    | inl j ↦ no_self C x stored (subst (λ z. In z (fanin_nodes (entry_at C x))) e (gate-fanin C x t.node.0 gx at j))
    | inr z ↦ gate-apart-zero C x gx at stored.whole (sym e ∙ z)
  ]
