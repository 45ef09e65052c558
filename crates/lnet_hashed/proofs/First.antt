-- The network of node 0 alone, and its room.
use Rattle.std.proofs.Common.{◌≡◌, ℕ, ◌<◌, ◌≤◌, ◌≢◌, false, true, IsSome, None, [], ◌∷◌, refl, sym, ap, subst, ◌∙◌, inl, inr, arith}
use Rattle.std.specs.FinMap.{get, empty, get-empty}
use Rattle.std.specs.Ordering.{nat_cmp}
use Rattle.std.proofs.lemmas.Bool.Decides.{eqb_tells}
use Rattle.lnet_model.specs.Networks.{NetworkValue, Constant, entry_at, gate_in, gate_at, live_count}
use Rattle.lnet_model.specs.Along.{IsWhole}
use Rattle.lnet_model.specs.Dags.{AreBelow}
use Rattle.lnet_model.proofs.Map.{count_apart, insert_apart}
use Rattle.lnet_store.specs.StoreValues.{first_network}
use Rattle.lnet_store.proofs.StoreLemmas.{first-stored}

pub some-live : (N : NetworkValue) → IsWhole N → 1 ≤ live_count N
unfolding live_count entry_at
some-live N whole = count_apart (0 ∷ []) N.nodes ((λ i. i), tt) (λ x i. elim i [ inl e ↦ subst (λ z. IsSome (get N.nodes z)) (sym e) (subst IsSome (sym whole.first) refl) | inr j ↦ absurd j ])

first-apart : (n : ℕ) → n ≢ 0 → entry_at first_network n ≡ None
unfolding entry_at first_network
first-apart n ne = insert_apart empty 0 Constant n ne ∙ get-empty nat_cmp n

pub first-low : AreBelow first_network 1
first-low n live = elim (eqb_tells n 0) as (λ _. n < 1) [
  | inl p ↦ (let zero = p.1 in omega arith)
  | inr p ↦ absurd (let no : false ≡ true = subst IsSome (first-apart n p.1) live in cc)
]

-- it has no gate
pub first-gates : (n : ℕ) → gate_at first_network n ≡ None
first-gates n = elim (eqb_tells n 0) as (λ _. gate_at first_network n ≡ None) [
  | inl p ↦ ap gate_in (ap (entry_at first_network) p.1 ∙ first-stored.whole.first)
  | inr p ↦ ap gate_in (first-apart n p.1)
]
