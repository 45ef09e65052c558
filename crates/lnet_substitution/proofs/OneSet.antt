-- One gate set to another that names no more nodes: what stays.
use Rattle.std.proofs.Common.{◌≡◌, ◌≢◌, ℕ, ◌⊎◌, List, [], ◌∷◌, IsSome, Some, refl, sym, ap, subst, ◌∙◌, inl, inr}
use Rattle.std.proofs.lemmas.Bool.Decides.{eqb_tells}
use Rattle.lnet_gates.specs.Gates.{GateValue}
use Rattle.lnet_model.specs.Networks.{Entry, Constant, IsGate, NetworkValue, entry_at, IsLive}
use Rattle.lnet_model.specs.Along.{In, IsWalk, end_of, Acyclic, IsWhole, fanin_nodes, nodes_read}
use Rattle.lnet_model.specs.Changes.{GateAt, with_entry}
use Rattle.lnet_model.proofs.Changes.{with_entry-here, with_entry-apart}
use Rattle.lnet_substitution.specs.Substitutions.{SameLeaves}
use Rattle.lnet_substitution.proofs.OneReplaced.{not_constant, not_input, gate-live, gate-fanin}

with_entry-kind : (N : NetworkValue) (k : ℕ) (e : Entry) → (with_entry N k e).kind ≡ N.kind
unfolding with_entry
with_entry-kind N k e = refl

with_entry-inputs : (N : NetworkValue) (k : ℕ) (e : Entry) → (with_entry N k e).inputs ≡ N.inputs
unfolding with_entry
with_entry-inputs N k e = refl

pub with_entry-outputs : (N : NetworkValue) (k : ℕ) (e : Entry) → (with_entry N k e).outputs ≡ N.outputs
unfolding with_entry
with_entry-outputs N k e = refl

module _ (C : NetworkValue) (x : ℕ) (gx g : GateValue) (at_x : GateAt C x gx) where
  abbrev after : NetworkValue
  after = with_entry C x (IsGate g)

  abbrev apart_at : (n : ℕ) → n ≢ x → entry_at after n ≡ entry_at C n
  apart_at n ne = with_entry-apart C x (IsGate g) n ne

  pub here-set : (n : ℕ) → n ≡ x → entry_at (with_entry C x (IsGate g)) n ≡ Some (IsGate g)
  here-set n e = ap (entry_at after) e ∙ with_entry-here C x (IsGate g)

  pub leaves-set : SameLeaves C (with_entry C x (IsGate g))
  leaves-set = record {
    kind = with_entry-kind C x (IsGate g);
    inputs = with_entry-inputs C x (IsGate g);
    constant = λ n. (
      λ h. apart_at n (λ e. not_constant gx (sym at_x ∙ sym (ap (entry_at C) e) ∙ h)) ∙ h,
      λ h. sym (apart_at n (λ e. not_constant g (sym (here-set n e) ∙ h))) ∙ h,
    );
    input = λ n k. (
      λ h. apart_at n (λ e. not_input gx k (sym at_x ∙ sym (ap (entry_at C) e) ∙ h)) ∙ h,
      λ h. sym (apart_at n (λ e. not_input g k (sym (here-set n e) ∙ h))) ∙ h,
    );
  }

  live-set : (n : ℕ) → IsLive C n → IsLive after n
  live-set n live =
      elim (eqb_tells n x) as (λ _. IsLive after n) [ inl p ↦ subst IsSome (sym (here-set n p.1)) refl | inr p ↦ subst IsSome (sym (apart_at n p.1)) live ]

  live-before : (n : ℕ) → IsLive after n → IsLive C n
  live-before n live =
      elim (eqb_tells n x) as (λ _. IsLive C n) [ inl p ↦ subst (IsLive C) (sym p.1) (gate-live C x gx at_x) | inr p ↦ subst IsSome (apart_at n p.1) live ]

  module _ (fewer : (m : ℕ) → In m (nodes_read g.fanins) → In m (nodes_read gx.fanins) ⊎ (m ≡ 0)) (whole : IsWhole C) where
    fanin-set : (n m : ℕ) → In m (fanin_nodes (entry_at after n)) → In m (fanin_nodes (entry_at C n)) ⊎ (m ≡ 0)
    fanin-set n m i =
        elim (eqb_tells n x) as (λ _. In m (fanin_nodes (entry_at C n)) ⊎ (m ≡ 0)) [
          | inl p ↦ elim (fewer m (subst (λ o. In m (fanin_nodes o)) (here-set n p.1) i)) as (λ _. In m (fanin_nodes (entry_at C n)) ⊎ (m ≡ 0)) [
            | inl j ↦ inl (gate-fanin C n m gx (ap (entry_at C) p.1 ∙ at_x) j)
            | inr z ↦ inr z
          ]
          | inr p ↦ inl (subst (λ o. In m (fanin_nodes o)) (apart_at n p.1) i)
        ]

    first-set : entry_at after 0 ≡ Some Constant
    first-set = (leaves-set.constant 0).0 whole.first

    no_fanin : (n m : ℕ) → n ≡ 0 → In m (fanin_nodes (entry_at after n)) → ⊥
    no_fanin n m z i = subst (λ o. In m (fanin_nodes o)) (ap (entry_at after) z ∙ first-set) i

    from_zero : (m : ℕ) (ns : List ℕ) → m ≡ 0 → IsWalk (entry_at after) m ns → end_of m ns ≡ 0
    from_zero m [] z v = z
    from_zero m (k ∷ ks) z v = absurd (no_fanin m k z v.1)

    walk-set : (n : ℕ) (ns : List ℕ) → IsWalk (entry_at after) n ns → IsWalk (entry_at C) n ns ⊎ (end_of n ns ≡ 0)
    walk-set n [] w = inl (live-before n w)
    walk-set n (m ∷ ns) w =
        elim (fanin-set n m w.1) as (λ _. IsWalk (entry_at C) n (m ∷ ns) ⊎ (end_of m ns ≡ 0)) [
          | inl i ↦ elim (walk-set m ns w.2) as (λ _. IsWalk (entry_at C) n (m ∷ ns) ⊎ (end_of m ns ≡ 0)) [ inl v ↦ inl (live-before n w.0, i, v) | inr e ↦ inr e ]
          | inr z ↦ inr (from_zero m ns z w.2)
        ]

    pub acyclic-set : Acyclic C → Acyclic (with_entry C x (IsGate g))
    acyclic-set acyclic n m ns w is =
        elim (walk-set n (m ∷ ns) w) as (λ _. ⊥) [ inl v ↦ acyclic n m ns v is | inr e ↦ no_fanin n m (sym is ∙ e) w.1 ]

    pub whole-set : IsWhole (with_entry C x (IsGate g))
    whole-set = record {
      first = first-set;
      closed = λ n m i. elim (fanin-set n m i) as (λ _. IsLive after m) [ inl j ↦ live-set m (whole.closed n m j) | inr z ↦ subst IsSome (sym (ap (entry_at after) z ∙ first-set)) refl ];
      outputs_live = λ m i. live-set m (whole.outputs_live m (subst (λ ss. In m (nodes_read ss)) (with_entry-outputs C x (IsGate g)) i));
    }
