-- A walk along a chain in search of a key.
use Rattle.std.proofs.Common.{◌≡◌, ℕ, zero, suc, ◌+◌, ◌<◌, ◌≤◌, true, false, ◌||◌, List, [], ◌∷◌, length, Option, None, Some, refl, sym, ap, subst, ◌∙◌, inl, inr, arith, eqb, true≢false}
use Rattle.std.specs.List.{list_any, IsDistinct, AllByRecursion}
use Rattle.std.proofs.lemmas.Bool.Decides.{eqb_tells}
use Rattle.std.proofs.lemmas.Map.Steps.{length-le_from_distinct_below}
use Rattle.lnet_gates.specs.Gates.{KeyValue}
use Rattle.lnet_strash.specs.Keys.{chain_of}
use Rattle.lnet_strash.specs.Standing.{Standing}
use Rattle.lnet_strash.specs.Chains.{link, home_of, Within, Distinct, IsChain, IsTable, IsLinkAfter, IsAbsent, StandsUnder}
use Rattle.lnet_strash.proofs.Links.{not-some, chain-first}

-- how many numbers the links lead through, counted up to a bound
pub steps : ℕ → List (Option ℕ) → Option ℕ → ℕ
steps zero next o = 0
steps (suc f) next None = 0
steps (suc f) next (Some n) = suc (steps f next (link next n))

steps-chain : (f : ℕ) (next : List (Option ℕ)) (o : Option ℕ) (ns : List ℕ) → IsChain next o ns → length ns ≤ f → steps f next o ≡ length ns
unfolding steps
steps-chain zero next o [] c h = refl
steps-chain zero next o (n ∷ ns) c h = absurd (omega arith)
steps-chain (suc f) next o [] c h = ap (steps (suc f) next) c
steps-chain (suc f) next o (n ∷ ns) c h = ap (steps (suc f) next) (c.0) ∙ (let e = steps-chain f next (link next n) ns c.1 (omega arith) in omega arith)

any-within : (q : ℕ) (ns : List ℕ) → list_any (eqb q) ns ≡ true → Within q ns
any-within q [] e = absurd (true≢false (sym e))
any-within q (n ∷ ns) e = elim (eqb_tells q n) as (λ _. Within q (n ∷ ns)) [
  | inl p ↦ inl p.1
  | inr p ↦ inr (any-within q ns (sym (ap (λ b. b || list_any (eqb q) ns) p.0) ∙ e))
]

apart-all : (x : ℕ) (ns : List ℕ) → (Within x ns → ⊥) → AllByRecursion (λ y. eqb x y ≡ false) ns
apart-all x [] out = tt
apart-all x (n ∷ ns) out = (elim (eqb_tells x n) as (λ _. eqb x n ≡ false) [ inl p ↦ absurd (out (inl p.1)) | inr p ↦ p.0 ], apart-all x ns (λ i. out (inr i)))

distinct-is : (ns : List ℕ) → Distinct ns → IsDistinct eqb ns
unfolding IsDistinct
distinct-is [] d = tt
distinct-is (n ∷ ns) d = (apart-all n ns d.0, distinct-is ns d.1)

-- distinct numbers below n are at most n
distinct-few : (ns : List ℕ) (n : ℕ) → Distinct ns → ((m : ℕ) → Within m ns → m < n) → length ns ≤ n
distinct-few ns n d below = length-le_from_distinct_below ns n (distinct-is ns d) (λ q e. below q (any-within q ns e))

-- what belongs in a chain stands
pub home-inside : (chains : ℕ) (t : Standing) (n c : ℕ) → home_of chains t n ≡ Some c → n < length t
home-inside chains [] n c e = absurd (not-some c None refl e)
home-inside chains (e ∷ t) zero c h = omega arith
home-inside chains (e ∷ t) (suc n) c h = let less = home-inside chains t n c h in omega arith

-- the walk has come to the link `to`: what may still stand under the key comes from there on
pub record Walk (heads next : List (Option ℕ)) (t : Standing) (k : KeyValue) (before to : Option ℕ) : Type 0 where
  pub rest : List ℕ
  pub linked : IsChain next to rest
  pub apart : Distinct rest
  pub belongs : (n : ℕ) → Within n rest → home_of (length heads) t n ≡ Some (chain_of (length heads) k)
  pub all : (n : ℕ) → StandsUnder t n k → Within n rest
  pub after : IsLinkAfter heads next (home_of (length heads) t) (chain_of (length heads) k) before to

module _ (heads next : List (Option ℕ)) (t : Standing) (k : KeyValue) (T : IsTable heads next t) where
  module _ (before to : Option ℕ) (W : Walk heads next t k before to) where
    -- a walk that ends has found nothing
    pub walk-ends : to ≡ None → IsAbsent t k
    walk-ends e n p s = none W.rest W.linked (W.all n (p, s))
      where
        none : (ns : List ℕ) → IsChain next to ns → Within n ns → ⊥
        none [] c i = i
        none (m ∷ ms) c i = not-some m to e c.0

    module _ (n : ℕ) (is : to ≡ Some n) where
      first : (ms : List ℕ) × (W.rest ≡ n ∷ ms) × IsChain next (link next n) ms
      first = chain-first next to n W.rest W.linked is

      apart : Distinct (n ∷ first.0)
      apart = subst Distinct first.1 W.apart

      -- the number that a walk has come to belongs in the key's chain
      pub walk-home : home_of (length heads) t n ≡ Some (chain_of (length heads) k)
      walk-home = W.belongs n (subst (Within n) (sym first.1) (inl refl))

      pub walk-inside : n < length t
      walk-inside = home-inside (length heads) t n (chain_of (length heads) k) walk-home

      -- it goes on where another key stands
      pub walk-goes : (StandsUnder t n k → ⊥) → (to' : Option ℕ) → to' ≡ link next n → Walk heads next t k (Some n) to'
      walk-goes not to' e = record {
        rest = first.0;
        linked = subst (λ z. IsChain next z first.0) (sym e) first.2;
        apart = apart.1;
        belongs = λ m i. W.belongs m (subst (Within m) (sym first.1) (inr i));
        all = λ m s. elim (subst (Within m) first.1 (W.all m s)) as (λ _. Within m first.0) [ inl same ↦ absurd (not (subst (λ z. StandsUnder t z k) same s)) | inr i ↦ i ];
        after = (walk-home, sym e);
      }

      few : length W.rest ≤ length next
      few = distinct-few W.rest (length next) W.apart (λ m i. T.chains.inside m (chain_of (length heads) k) (W.belongs m i))

      -- and has fewer steps before it
      pub walk-nears : (to' : Option ℕ) → to' ≡ link next n → steps (length next) next to' < steps (length next) next to
      walk-nears to' e =
          let long : length W.rest ≡ length first.0 + 1 = ap length first.1 ∙ (let z : suc (length first.0) ≡ length first.0 + 1 = omega arith in z) in
          let a = steps-chain (length next) next to W.rest W.linked few in
          let b = steps-chain (length next) next to' first.0 (subst (λ z. IsChain next z first.0) (sym e) first.2) (let h = few in omega arith) in
          omega arith
