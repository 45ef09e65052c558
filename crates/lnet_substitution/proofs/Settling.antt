-- A dirty gate is set to its normal form, and the cascade is over where none is dirty.
use Rattle.std.proofs.Common.{◌≡◌, ◌≢◌, ℕ, Bool, true, false, ◌⊎◌, refl, sym, ap, subst, ◌∙◌, inl, inr}
use Rattle.std.proofs.lemmas.Bool.Decides.{eqb_tells}
use Rattle.lnet_gates.specs.declared.signal.Signal.{Signal}
use Rattle.lnet_gates.specs.declared.gate.Kind.{Kind}
use Rattle.lnet_gates.specs.declared.normal.Normal.{Normal}
use Rattle.lnet_gates.specs.declared.normal.Normal.TheVariants.{Gate}
use Rattle.lnet_gates.specs.Gates.{GateValue, KeyValue}
use Rattle.lnet_gates.specs.Natives.{IsNativeGate}
use Rattle.lnet_gates.specs.NormalForms.{carried}
use Rattle.lnet_gates.specs.NormalLaws.{IsNativeForm, keyed_gate}
use Rattle.lnet_gates.specs.Forms.{form_of}
use Rattle.lnet_gates.specs.Lawful.KindLaws.{kind_laws}
use Rattle.lnet_gates.specs.Lawful.AndPhases.{kind_phases}
use Rattle.lnet_model.specs.Networks.{IsGate, NetworkValue, entry_at}
use Rattle.lnet_model.specs.Along.{In, Reaches, nodes_read}
use Rattle.lnet_model.specs.Changes.{GateAt, IsGateAt, with_entry}
use Rattle.lnet_model.proofs.Changes.{with_entry-apart}
use Rattle.lnet_hashed.specs.Strashed.{IsStrashed, key_of}
use Rattle.lnet_substitution.specs.Replaced.{signal_of}
use Rattle.lnet_substitution.specs.Representatives.{StandsFor}
use Rattle.lnet_substitution.specs.Substitutions.{IsMerged}
use Rattle.lnet_substitution.specs.Cascades.{ResolvesTo, IsOwnForm, IsCascading, IsUnusedKey, IsCleanAfter}
use Rattle.lnet_substitution.proofs.Resolving.{same-gates, resolves-settle}
use Rattle.lnet_substitution.proofs.OneReplaced.{leaves-twice}
use Rattle.lnet_substitution.proofs.OneSet.{with_entry-outputs, here-set, leaves-set, acyclic-set, whole-set}
use Rattle.lnet_substitution.proofs.Merging.{is-false, not-both, form-key}

module _ (kind : Kind) where
  module _ (N : NetworkValue) (o : ℕ) (s : Signal) (C : NetworkValue) (rep : ℕ → Signal) (dirty : ℕ → Bool) (I : IsCascading kind N o s C rep dirty) (x : ℕ) (gx : GateValue) (at_x : GateAt C x gx) (x_dirty : dirty x ≡ true) where
    pub cascade-settle : (k : KeyValue) (phase : Bool) (later : ℕ → Bool) → form_of kind gx ≡ Gate k phase → IsUnusedKey C dirty k → IsCleanAfter x dirty later → IsCascading kind N o s (with_entry C x (IsGate (keyed_gate k phase))) rep later
    cascade-settle k phase later is_key unused after =
        let g = keyed_gate k phase in
        let native_x = I.native x gx at_x in
        let fewer : (m : ℕ) → In m (nodes_read g.fanins) → In m (nodes_read gx.fanins) ⊎ (m ≡ 0) = λ m i. form-key kind gx k phase m native_x is_key i in
        let A = with_entry C x (IsGate g) in
        let here : (n : ℕ) (h : GateValue) → GateAt A n h → n ≡ x → h ≡ g = λ n h at e. same-gates (sym at ∙ here-set C x gx g at_x n e) in
        let before : (n : ℕ) (h : GateValue) → GateAt A n h → n ≢ x → GateAt C n h = λ n h at ne. sym (with_entry-apart C x (IsGate g) n ne) ∙ at in
        let clean : (n : ℕ) → n ≢ x → later n ≡ false → dirty n ≡ false = λ n ne c. is-false (dirty n) (λ d. not-both (later n) c (after.before n d ne)) in
        let native_g : IsNativeGate kind g = subst (IsNativeForm (IsNativeGate kind)) is_key ((kind_laws kind).native gx native_x) in
        record {
          leaves = leaves-twice N C A I.leaves (leaves-set C x gx g at_x);
          leaf = I.leaf;
          gate = λ n h at. resolves-settle kind C x gx k phase at_x native_x is_key _ (rep n) (I.gate n h at);
          outputs = with_entry-outputs C x (IsGate g) ∙ I.outputs;
          own = λ n h at. elim (eqb_tells n x) as (λ _. (n ≢ o) × IsGateAt N n × (rep n ≡ signal_of n)) [
            | inl p ↦ I.own n gx (ap (entry_at C) p.1 ∙ at_x)
            | inr p ↦ I.own n h (before n h at p.1)
          ];
          kept = λ n h at none. with_entry-apart C x (IsGate g) n (λ e. I.late x x_dirty (subst (λ z. Reaches N z o → ⊥) e none)) ∙ I.kept n h at none;
          late = λ n i. I.late n (after.only n i);
          native = λ n h at. elim (eqb_tells n x) as (λ _. IsNativeGate kind h) [
            | inl p ↦ subst (IsNativeGate kind) (sym (here n h at p.1)) native_g
            | inr p ↦ I.native n h (before n h at p.1)
          ];
          and_phase = λ n h at is_and. elim (eqb_tells n x) as (λ _. h.phase ≡ false) [
            | inl p ↦
                let q = kind_phases kind gx k phase native_x is_key (sym (ap (λ (h : GateValue). h.op) (here n h at p.1)) ∙ is_and) in
                ap (λ (h : GateValue). h.phase) (here n h at p.1) ∙ q.1 ∙ I.and_phase x gx at_x q.0
            | inr p ↦ I.and_phase n h (before n h at p.1) is_and
          ];
          own_form = λ n h at c. elim (eqb_tells n x) as (λ _. IsOwnForm kind h) [
            | inl p ↦ subst (λ (h : GateValue). form_of kind h ≡ Gate (key_of h) h.phase) (sym (here n h at p.1)) ((kind_laws kind).stable gx k phase native_x is_key)
            | inr p ↦ I.own_form n h (before n h at p.1) (clean n p.1 c)
          ];
          apart = λ m n h j at bt cm cn e. elim (eqb_tells m x) as (λ _. m ≡ n) [
            | inl p ↦ elim (eqb_tells n x) as (λ _. m ≡ n) [
              | inl q ↦ p.1 ∙ sym q.1
              | inr q ↦ absurd (unused n j (before n j bt q.1) (clean n q.1 cn) (sym e ∙ ap key_of (here m h at p.1)))
            ]
            | inr p ↦ elim (eqb_tells n x) as (λ _. m ≡ n) [
              | inl q ↦ absurd (unused m h (before m h at p.1) (clean m p.1 cm) (e ∙ ap key_of (here n j bt q.1)))
              | inr q ↦ I.apart m n h j (before m h at p.1) (before n j bt q.1) (clean m p.1 cm) (clean n q.1 cn) e
            ]
          ];
          acyclic = acyclic-set C x gx g at_x fewer I.whole I.acyclic;
          whole = whole-set C x gx g at_x fewer I.whole;
        }

-- in a hashed network what resolves to a signal is represented by it
resolved-stands : (kind : Kind) (C : NetworkValue) → IsStrashed kind C → (f : Normal) (t : Signal) → ResolvesTo kind C f t → StandsFor C f t
resolved-stands kind C strashed f t (inl is) = subst (λ f. StandsFor C f t) (sym is) refl
resolved-stands kind C strashed f t (inr r) =
    subst (λ f. StandsFor C f t) (sym (r.2 ∙ ap (carried t.complement) (strashed.own_form t.node.0 r.0 r.1))) (r.0, r.1, refl, refl)

-- where no gate is dirty, the cascade is over
pub cascade-ends : (kind : Kind) (N : NetworkValue) (o : ℕ) (s : Signal) (C : NetworkValue) (rep : ℕ → Signal) (dirty : ℕ → Bool) → IsCascading kind N o s C rep dirty → ((n : ℕ) → dirty n ≡ false) → IsMerged kind N o s C rep
cascade-ends kind N o s C rep dirty I clean =
    let strashed : IsStrashed kind C = record {
      native = I.native;
      own_form = λ n g at. I.own_form n g at (clean n);
      and_phase = I.and_phase;
      apart = λ m n g h at bt e. I.apart m n g h at bt (clean m) (clean n) e;
    } in
    record {
      leaves = I.leaves;
      nodes = record { leaf = I.leaf; gate = λ n g at. resolved-stands kind C strashed _ (rep n) (I.gate n g at) };
      outputs = I.outputs;
      own = I.own;
      kept = I.kept;
      strashed = strashed;
      acyclic = I.acyclic;
      whole = I.whole;
    }
