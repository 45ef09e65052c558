-- What a substitution leaves has no more nodes, once what no output reaches is gone, than the network with the node replaced.
use Rattle.std.proofs.Common.{◌≡◌, ◌≢◌, ℕ, zero, suc, ◌<◌, ◌≤◌, ◌-◌, true, false, cond, IsSome, Option, None, Some, refl, sym, ap, subst, ◌∙◌, inl, inr, arith}
use native.Mathlib.Decide.{dec_lt}
use Rattle.std.proofs.lemmas.Cmp.{nat_cmp_total}
use Rattle.std.specs.Ordering.{nat_cmp}
use Rattle.std.specs.FinMap.{FinMap, get, len, remove, len-remove}
use Rattle.lnet_gates.specs.declared.signal.Signal.{Signal}
use Rattle.lnet_gates.specs.declared.gate.Kind.{Kind}
use Rattle.lnet_gates.specs.Gates.{GateValue}
use Rattle.lnet_model.specs.Networks.{Constant, Input, IsGate, NetworkValue, entry_at, live_count, IsLive}
use Rattle.lnet_model.specs.Changes.{GateAt}
use Rattle.lnet_model.specs.Dags.{numbers_of}
use Rattle.lnet_model.proofs.Map.{remove_apart, len_positive}
use Rattle.lnet_model.proofs.Numbers.{live-below-numbers}
use Rattle.lnet_hashed.specs.Swept.{IsReached, IsSwept}
use Rattle.lnet_substitution.specs.Replaced.{replaced}
use Rattle.lnet_substitution.specs.Representatives.{IsLeafAt}
use Rattle.lnet_substitution.specs.Substitutions.{CanSubstitute, Substitutes}
use Rattle.lnet_substitution.proofs.OneReplaced.{not_constant, not_input, gate-live, leaves-replaced}
use Rattle.lnet_substitution.proofs.Fewer.{no-entries, live-apart}
use Rattle.lnet_substitution.proofs.Levels.{substituted-images}

-- an order that isn't refuted holds
stable : (a b : ℕ) → ((a ≤ b → ⊥) → ⊥) → a ≤ b
stable a b h = elim (dec_lt b a) as (λ _. a ≤ b) [ Prim.yes l ↦ absurd (h (λ le. absurd (omega arith))) | Prim.no far ↦ omega arith ]

-- f takes some number of n to q
abbrev IsImage : {Y : Type 0} → (ℕ → ℕ) → FinMap nat_cmp Y → ℕ → Type 0
IsImage f n q = (m : ℕ) × IsSome (get n m) × (f m ≡ q)

-- each number of the one map is below r, and f takes some number of the other to it
record IsOnto {X Y : Type 0} (f : ℕ → ℕ) (r : ℕ) (a : FinMap nat_cmp X) (b : FinMap nat_cmp Y) : Type 0 where
  small : (q : ℕ) → IsSome (get a q) → q < r
  onto : (q : ℕ) → IsSome (get a q) → (IsImage f b q → ⊥) → ⊥

no_some : {X : Type 0} {o : Option X} → None ≡ o → IsSome o → ⊥
no_some e h = let none : false ≡ true = subst IsSome (sym e) h in cc

-- without r, and without what f takes to it
onto-less : {X Y : Type 0} (f : ℕ → ℕ) (r m : ℕ) (a : FinMap nat_cmp X) (b : FinMap nat_cmp Y) → IsOnto f (suc r) a b → f m ≡ r → IsOnto f r (remove a r) (remove b m)
onto-less f r m a b h is = record {
  small = λ q l. (let ne = live-apart a r q l in let low = h.small q (subst IsSome (remove_apart a r q ne) l) in omega arith);
  onto = λ q l not. (let ne = live-apart a r q l in h.onto q (subst IsSome (remove_apart a r q ne) l) (λ p. not (p.0, subst IsSome (sym (remove_apart b m p.0 (λ e. ne (sym p.2 ∙ ap f e ∙ is)))) p.1, p.2)));
}

len-less : {X Y : Type 0} (r m : ℕ) (a : FinMap nat_cmp X) (b : FinMap nat_cmp Y) → IsSome (get a r) → IsSome (get b m) → len (remove a r) ≤ len (remove b m) → len a ≤ len b
len-less r m a b here there rest =
    let one = len-remove nat_cmp_total a r ∙ ap (λ t. cond t (len a - 1) (len a)) here in
    let other = len-remove nat_cmp_total b m ∙ ap (λ t. cond t (len b - 1) (len b)) there in
    let some = len_positive b m there in
    omega arith

-- what f takes another map's numbers onto has no more entries
len-onto : {X Y : Type 0} (f : ℕ → ℕ) (r : ℕ) (a : FinMap nat_cmp X) (b : FinMap nat_cmp Y) → IsOnto f r a b → len a ≤ len b
len-onto f zero a b h = let none = no-entries a (λ q l. (let low = h.small q l in absurd (omega arith))) in omega arith
len-onto f (suc r) a b h =
    elim (get a r) as (λ o. get a r ≡ o → len a ≤ len b) [
      | None ↦ λ at. len-onto f r a b (record {
        small = λ q l. (let low = h.small q l in let ne : q ≢ r = λ e. no_some (sym (ap (get a) e ∙ at)) l in omega arith);
        onto = h.onto;
      })
      | Some x ↦ λ at.
          let here : IsSome (get a r) = subst IsSome (sym at) refl in
          stable (len a) (len b) (λ not. h.onto r here (λ p. not (len-less r p.0 a b here p.1 (len-onto f r (remove a r) (remove b p.0) (onto-less f r p.0 a b h p.2)))))
    ] refl

module _ (kind : Kind) (N : NetworkValue) (o : ℕ) (s : Signal) (can : CanSubstitute kind N o s) (Q : NetworkValue) (h : Substitutes kind N o s Q) (Q2 M2 : NetworkValue) (swept : IsSwept Q Q2) (clean : IsSwept (replaced N o s) M2) where
  abbrev M : NetworkValue
  M = replaced N o s

  abbrev node : ℕ → ℕ
  node m = (h.rep m).node.0

  leaf-here : (n : ℕ) → IsLeafAt Q2 n → IsLive Q2 n → IsLeafAt M n
  leaf-here n leaf live =
      let same = swept.trimmed.left n live in
      let L = leaves-replaced N o s can.gate.0 can.gate.1 in
      elim leaf as (λ _. IsLeafAt M n) [
        | inl c ↦ inl ((L.constant n).0 ((h.merges.leaves.constant n).1 ((h.drops.leaves.constant n).1 (sym same ∙ c))))
        | inr k ↦ inr (k.0, (L.input n k.0).0 ((h.merges.leaves.input n k.0).1 ((h.drops.leaves.input n k.0).1 (sym same ∙ k.1))))
      ]

  leaf-live : (n : ℕ) → IsLeafAt M n → IsLive M2 n
  leaf-live n leaf =
      let stays = clean.trimmed.others n (λ g. elim leaf as (λ _. ⊥) [ inl c ↦ not_constant g.0 (sym g.1 ∙ c) | inr k ↦ not_input g.0 k.0 (sym g.1 ∙ k.1) ]) in
      subst IsSome (sym stays) (elim leaf as (λ _. IsSome (entry_at M n)) [ inl c ↦ subst IsSome (sym c) refl | inr k ↦ subst IsSome (sym k.1) refl ])

  abbrev HasImage : ℕ → Type 0
  HasImage q = (m : ℕ) × IsLive M2 m × (node m ≡ q)

  leaf-image : (n : ℕ) → IsLeafAt Q2 n → IsLive Q2 n → HasImage n
  leaf-image n leaf live =
      let old = leaf-here n leaf live in
      (n, leaf-live n old, ap (λ (t : Signal). t.node.0) (h.merges.nodes.leaf n old))

  gate-image : (n : ℕ) (g : GateValue) → GateAt Q n g → IsReached Q n → HasImage n
  gate-image n g at reached =
      let r = substituted-images kind N o s can Q h n (g, at) reached in
      (r.0, subst IsSome (sym (clean.trimmed.reached r.0 r.1)) (gate-live M r.0 r.2.0 r.2.1), r.3)

  onto : (n : ℕ) → IsLive Q2 n → (HasImage n → ⊥) → ⊥
  onto n live not =
      elim (entry_at Q2 n) as (λ e. entry_at Q2 n ≡ e → IsSome e → ⊥) [
        | None ↦ λ _ l. cc
        | Some e ↦ elim e as (λ e. entry_at Q2 n ≡ Some e → IsSome (Some e) → ⊥) [
          | Constant ↦ λ at _. not (leaf-image n (inl at) live)
          | Input k ↦ λ at _. not (leaf-image n (inr (k, at)) live)
          | IsGate g ↦ λ at l.
              let old : GateAt Q n g = sym (swept.trimmed.left n live) ∙ at in
              let gone = swept.gone n (g, old) (λ reached. not (gate-image n g old reached)) in
              let none : None ≡ Some (IsGate g) = sym gone ∙ at in
              cc
        ]
      ] refl live

  pub reached-no-more : live_count Q2 ≤ live_count M2
  unfolding live_count entry_at numbers_of
  reached-no-more = len-onto node (numbers_of Q2) Q2.nodes M2.nodes (record { small = live-below-numbers Q2; onto = onto })
