-- A substitution leaves fewer nodes.
use Rattle.std.proofs.Common.{◌≡◌, ◌≢◌, ℕ, zero, suc, ◌<◌, ◌≤◌, ◌-◌, true, false, cond, List, [], ◌∷◌, length, IsSome, Option, None, Some, refl, sym, ap, subst, ◌∙◌, arith}
use Rattle.std.proofs.lemmas.Cmp.{nat_cmp_total}
use Rattle.std.specs.Ordering.{nat_cmp}
use Rattle.std.specs.FinMap.{FinMap, get, len, remove, entries, find, get-entries, len-entries, len-remove}
use Rattle.lnet_gates.specs.declared.signal.Signal.{Signal}
use Rattle.lnet_gates.specs.declared.gate.Kind.{Kind}
use Rattle.lnet_model.specs.Networks.{Constant, Input, IsGate, NetworkValue, entry_at, live_count, IsLive}
use Rattle.lnet_model.specs.Dags.{numbers_of}
use Rattle.lnet_model.proofs.Map.{tied, remove_here, remove_apart, len_positive}
use Rattle.lnet_model.proofs.Numbers.{live-below-numbers}
use Rattle.lnet_substitution.specs.Substitutions.{CanSubstitute, Substitutes}
use Rattle.lnet_substitution.proofs.OneReplaced.{not_constant, not_input, gate-live}

-- a map that holds nothing has no entries
pub no-entries : {X : Type 0} (m : FinMap nat_cmp X) → ((q : ℕ) → IsSome (get m q) → ⊥) → len m ≡ 0
no-entries {X} m none = len-entries m ∙ by (entries m) refl
  where
    by : (es : List (ℕ × X)) → entries m ≡ es → length es ≡ 0
    by [] e = refl
    by (x ∷ es) e = absurd (none x.0 (subst IsSome (sym (get-entries m x.0 ∙ ap (find nat_cmp x.0) e ∙ ap (λ b. cond b (Some x.1) (find nat_cmp x.0 es)) (tied x.0))) refl))

pub live-apart : {X : Type 0} (m : FinMap nat_cmp X) (k q : ℕ) → IsSome (get (remove m k) q) → q ≢ k
live-apart m k q h e = let none : false ≡ true = subst IsSome (ap (get (remove m k)) e ∙ remove_here m k) h in cc

-- what holds no more numbers has no more entries
pub len-fewer : {X : Type 0} (r : ℕ) (m n : FinMap nat_cmp X) → ((q : ℕ) → IsSome (get m q) → q < r) → ((q : ℕ) → IsSome (get m q) → IsSome (get n q)) → len m ≤ len n
len-fewer zero m n small kept = let none = no-entries m (λ q h. (let low = small q h in absurd (omega arith))) in omega arith
len-fewer {X} (suc r) m n small kept =
    elim (get m r) as (λ o. get m r ≡ o → len m ≤ len n) [
      | None ↦ λ at. len-fewer r m n (λ q h. (let low = small q h in let ne : q ≢ r = λ e. no_some (sym (ap (get m) e ∙ at)) h in omega arith)) kept
      | Some x ↦ λ at.
          let here : IsSome (get m r) = subst IsSome (sym at) refl in
          let there = kept r here in
          let rest = len-fewer r (remove m r) (remove n r)
          (λ q h. (let ne = live-apart m r q h in let low = small q (subst IsSome (remove_apart m r q ne) h) in omega arith))
          (λ q h. (let ne = live-apart m r q h in subst IsSome (sym (remove_apart n r q ne)) (kept q (subst IsSome (remove_apart m r q ne) h)))) in
          let one = len-remove nat_cmp_total m r ∙ ap (λ b. cond b (len m - 1) (len m)) here in
          let other = len-remove nat_cmp_total n r ∙ ap (λ b. cond b (len n - 1) (len n)) there in
          let some = len_positive n r there in
          omega arith
    ] refl
  where
    no_some : {o : Option X} → None ≡ o → IsSome o → ⊥
    no_some e h = let none : false ≡ true = subst IsSome (sym e) h in cc

module _ (kind : Kind) (N : NetworkValue) (o : ℕ) (s : Signal) (can : CanSubstitute kind N o s) (Q : NetworkValue) (h : Substitutes kind N o s Q) where
  -- what is live afterwards was live, and isn't the gate that gave way
  pub live-old : (n : ℕ) → IsLive Q n → IsLive N n × (n ≢ o)
  live-old n live = elim (entry_at Q n) as (λ e. entry_at Q n ≡ e → IsSome e → IsLive N n × (n ≢ o)) [
    | None ↦ λ _ l. cc
    | Some e ↦ elim e as (λ e. entry_at Q n ≡ Some e → IsSome (Some e) → IsLive N n × (n ≢ o)) [
      | Constant ↦ λ at _.
          let old = (h.merges.leaves.constant n).1 ((h.drops.leaves.constant n).1 at) in
          (subst IsSome (sym old) refl, λ e. not_constant can.gate.0 (sym can.gate.1 ∙ ap (entry_at N) (sym e) ∙ old))
      | Input k ↦ λ at _.
          let old = (h.merges.leaves.input n k).1 ((h.drops.leaves.input n k).1 at) in
          (subst IsSome (sym old) refl, λ e. not_input can.gate.0 k (sym can.gate.1 ∙ ap (entry_at N) (sym e) ∙ old))
      | IsGate g ↦ λ at _. (let own = h.merges.own n g (h.drops.gates n g at).0 in (gate-live N n own.1.0 own.1.1, own.0))
    ]
  ] refl live

  pub fewer-live : live_count Q < live_count N
  unfolding live_count entry_at numbers_of
  fewer-live =
      let o_live = gate-live N o can.gate.0 can.gate.1 in
      let most = len-fewer (numbers_of Q) Q.nodes (remove N.nodes o) (live-below-numbers Q) (λ q l. (let old = live-old q l in subst IsSome (sym (remove_apart N.nodes o q old.1)) old.0)) in
      let one = len-remove nat_cmp_total N.nodes o ∙ ap (λ b. cond b (len N.nodes - 1) (len N.nodes)) o_live in
      let some = len_positive N.nodes o o_live in
      omega arith
