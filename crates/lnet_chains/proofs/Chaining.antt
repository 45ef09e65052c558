-- One chain, where a place goes out of it or comes first.
use Rattle.std.proofs.Common.{◌≡◌, ◌≢◌, ℕ, cond, List, [], ◌∷◌, set, get_or-set_other, Option, None, Some, refl, sym, ap, subst, ◌∙◌, inl, inr}
use Rattle.std.specs.Prelude.{◌⊎◌}
use Rattle.std.proofs.lemmas.Bool.Decides.{eqb_tells}
use Rattle.lnet_chains.specs.Lists.{Within, Distinct, without}
use Rattle.lnet_chains.specs.Links.{Links, at, IsLinkSet, IsChain}

pub is-one : (a b : ℕ) → Some a ≡ Some b → a ≡ b
is-one a b e = cc

-- links that stay at the places of a chain
pub chain-kept : (next prev next2 prev2 : Links) (before head : Option ℕ) (xs : List ℕ)
    → ((y : ℕ) → Within y xs → at next2 y ≡ at next y) → ((y : ℕ) → Within y xs → at prev2 y ≡ at prev y)
    → IsChain next prev before head xs → IsChain next2 prev2 before head xs
chain-kept next prev next2 prev2 before head [] same-next same-prev chain = chain
chain-kept next prev next2 prev2 before head (x ∷ xs) same-next same-prev chain = (
  chain.0,
  same-prev x (inl refl) ∙ chain.1,
  subst (λ z. IsChain next2 prev2 (Some x) z xs) (sym (same-next x (inl refl)))
      (chain-kept next prev next2 prev2 (Some x) (at next x) xs (λ y i. same-next y (inr i)) (λ y i. same-prev y (inr i)) chain.2),
)

module _ (next prev : Links) where
  -- the head of a chain stands in it
  pub head-in : (before head : Option ℕ) (xs : List ℕ) (x : ℕ) → IsChain next prev before head xs → head ≡ Some x → Within x xs
  head-in before head [] x chain e = let none : None ≡ Some x = sym chain ∙ e in cc
  head-in before head (y ∷ ys) x chain e = inl (is-one x y (sym e ∙ chain.0))

  -- what follows a place of a chain stands in it
  pub follows-in : (before head : Option ℕ) (xs : List ℕ) (x y : ℕ)
      → IsChain next prev before head xs → Within x xs → at next x ≡ Some y → Within y xs
  follows-in before head [] x y chain i e = absurd i
  follows-in before head (z ∷ []) x y chain (inl s) e = let none : None ≡ Some y = sym chain.2 ∙ ap (at next) (sym s) ∙ e in cc
  follows-in before head (z ∷ w ∷ ws) x y chain (inl s) e = inr (inl (is-one y w (sym e ∙ ap (at next) s ∙ chain.2.0)))
  follows-in before head (z ∷ zs) x y chain (inr i) e = inr (follows-in (Some z) (at next z) zs x y chain.2 i e)

  -- before the head of a chain stands what is told
  pub before-head : (before head : Option ℕ) (xs : List ℕ) (x : ℕ)
      → Within x xs → head ≡ Some x → IsChain next prev before head xs → at prev x ≡ before
  before-head before head [] x i e chain = absurd i
  before-head before head (y ∷ ys) x i e chain = subst (λ v. at prev v ≡ before) (is-one y x (sym chain.0 ∙ e)) chain.1

  -- what stands before a place of a chain stands in it, or the place is the head
  pub before-in : (before head : Option ℕ) (xs : List ℕ) (x y : ℕ)
      → IsChain next prev before head xs → Within x xs → at prev x ≡ Some y → (head ≡ Some x) ⊎ Within y xs
  before-in before head [] x y chain i e = absurd i
  before-in before head (z ∷ zs) x y chain (inl s) e = inl (chain.0 ∙ ap (λ v. Some v) (sym s))
  before-in before head (z ∷ zs) x y chain (inr i) e =
      elim (before-in (Some z) (at next z) zs x y chain.2 i e) as (λ _. (head ≡ Some x) ⊎ Within y (z ∷ zs)) [
        | inl s ↦ inr (inl (is-one y z (sym e ∙ before-head (Some z) (at next z) zs x i s chain.2)))
        | inr j ↦ inr (inr j)
      ]

  -- the same where nothing stands before the chain
  pub before-within : (head : Option ℕ) (xs : List ℕ) (x y : ℕ)
      → IsChain next prev None head xs → Within x xs → at prev x ≡ Some y → Within y xs
  before-within head xs x y chain i e = elim (before-in None head xs x y chain i e) as (λ _. Within y xs) [
    | inl s ↦ (let none : None ≡ Some y = sym (before-head None head xs x i s chain) ∙ e in cc)
    | inr j ↦ j
  ]

  -- where something stands before a chain, something stands before each of its places
  before-some : (head : Option ℕ) (xs : List ℕ) (x b : ℕ)
      → IsChain next prev (Some b) head xs → Within x xs → at prev x ≡ None → ⊥
  before-some head [] x b chain i e = i
  before-some head (y ∷ ys) x b chain (inl s) e = let none : None ≡ Some b = sym e ∙ ap (at prev) s ∙ chain.1 in cc
  before-some head (y ∷ ys) x b chain (inr i) e = before-some (at next y) ys x y chain.2 i e

  -- a place of a chain before which nothing stands is the head
  pub head-from : (head : Option ℕ) (xs : List ℕ) (x : ℕ)
      → IsChain next prev None head xs → Within x xs → at prev x ≡ None → head ≡ Some x
  head-from head [] x chain i e = absurd i
  head-from head (y ∷ ys) x chain (inl s) e = chain.0 ∙ ap (λ v. Some v) (sym s)
  head-from head (y ∷ ys) x chain (inr i) e = absurd (before-some (at next y) ys x y chain.2 i e)

-- ---- a place goes

module _ (next prev next2 prev2 : Links) (x : ℕ)
    (forth : IsLinkSet next next2 (at prev x) (at next x)) (back : IsLinkSet prev prev2 (at next x) (at prev x)) where
  -- what follows x, where x goes
  closed : (before : Option ℕ) (xs : List ℕ)
      → at prev x ≡ before → Distinct xs → ((y : ℕ) → before ≡ Some y → Within y xs → ⊥)
      → IsChain next prev (Some x) (at next x) xs → IsChain next2 prev2 before (at next x) xs
  closed before [] is differ out chain = chain
  closed before (y ∷ ys) is differ out chain = (
    chain.0,
    back.here y chain.0 ∙ is,
    subst (λ z. IsChain next2 prev2 (Some y) z ys) (sym (forth.others y (λ e. out y (sym is ∙ e) (inl refl))))
        (chain-kept next prev next2 prev2 (Some y) (at next y) ys
        (λ w i. forth.others w (λ e. out w (sym is ∙ e) (inr i)))
        (λ w i. back.others w (λ e. differ.0 (subst (λ v. Within v ys) (is-one w y (sym e ∙ chain.0)) i)))
        chain.2),
  )

  -- the chain without x, where its head is what came after x if x was the head
  unlinked : (before head head2 : Option ℕ) (xs : List ℕ)
      → Distinct xs → ((y : ℕ) → before ≡ Some y → Within y xs → ⊥) → IsChain next prev before head xs → Within x xs
      → (head ≡ Some x → head2 ≡ at next x) → ((head ≡ Some x → ⊥) → head2 ≡ head)
      → IsChain next2 prev2 before head2 (without x xs)
  unlinked before head head2 [] differ out chain i moved stays = absurd i
  unlinked before head head2 (z ∷ zs) differ out chain i moved stays =
      elim (eqb_tells z x) as (λ _. IsChain next2 prev2 before head2 (without x (z ∷ zs))) [
        | inl t ↦ subst (λ v. IsChain next2 prev2 before head2 (cond v zs (z ∷ without x zs))) (sym t.0)
            (subst (λ v. IsChain next2 prev2 before v zs) (sym (moved (chain.0 ∙ ap (λ v. Some v) t.1)))
            (closed before zs (ap (at prev) (sym t.1) ∙ chain.1) differ.1 (λ y e j. out y e (inr j))
            (subst (λ v. IsChain next prev (Some v) (at next v) zs) t.1 chain.2)))
        | inr t ↦ subst (λ v. IsChain next2 prev2 before head2 (cond v zs (z ∷ without x zs))) (sym t.0)
            (let j : Within x zs = elim i as (λ _. Within x zs) [ inl e ↦ absurd (t.1 (sym e)) | inr k ↦ k ] in
            let far : at next x ≡ Some z → ⊥ = λ e. differ.0 (follows-in next prev (Some z) (at next z) zs x z chain.2 j e) in (
              stays (λ e. t.1 (is-one z x (sym chain.0 ∙ e))) ∙ chain.0,
              back.others z far ∙ chain.1,
              unlinked (Some z) (at next z) (at next2 z) zs differ.1
                  (λ y e k. differ.0 (subst (λ v. Within v zs) (is-one y z (sym e)) k)) chain.2 j
                  (λ e. forth.here z (before-head next prev (Some z) (at next z) zs x j e chain.2))
                  (λ ne. forth.others z (λ e. elim (before-in next prev (Some z) (at next z) zs x z chain.2 j e) as (λ _. ⊥) [
                    | inl s ↦ ne s
                    | inr k ↦ differ.0 k
                  ])),
            ))
      ]

  -- where nothing stands before the chain, what stood before the place tells whether the place was the head
  pub chain-without : (head head2 : Option ℕ) (xs : List ℕ)
      → Distinct xs → IsChain next prev None head xs → Within x xs
      → (at prev x ≡ None → head2 ≡ at next x) → ((at prev x ≡ None → ⊥) → head2 ≡ head)
      → IsChain next2 prev2 None head2 (without x xs)
  chain-without head head2 xs differ chain i moved stays =
      unlinked None head head2 xs differ (λ y e. let none : None ≡ Some y = e in cc) chain i
      (λ e. moved (before-head next prev None head xs x i e chain))
      (λ ne. stays (λ e. ne (head-from next prev head xs x chain i e)))

-- ---- a place comes first

-- what follows a place that was put before a chain
pub chain-first : (next prev prev1 : Links) (x : ℕ) (head : Option ℕ) (xs : List ℕ)
    → Distinct xs → (Within x xs → ⊥) → IsChain next prev None head xs → IsLinkSet prev prev1 head (Some x)
    → IsChain (set next x head) (set prev1 x None) (Some x) head xs
chain-first next prev prev1 x head [] differ out chain back = chain
chain-first next prev prev1 x head (y ∷ ys) differ out chain back =
    let apart : y ≢ x = λ e. out (inl (sym e)) in
    let out-rest : (w : ℕ) → Within w ys → w ≢ x = λ w i e. out (inr (subst (λ v. Within v ys) e i)) in
    let out-here : (w : ℕ) → Within w ys → head ≡ Some w → ⊥ =
    λ w i e. differ.0 (subst (λ v. Within v ys) (is-one w y (sym e ∙ chain.0)) i) in (
      chain.0,
      get_or-set_other prev1 x y None None apart ∙ back.here y chain.0,
      subst (λ z. IsChain (set next x head) (set prev1 x None) (Some y) z ys) (sym (get_or-set_other next x y head None apart))
          (chain-kept next prev (set next x head) (set prev1 x None) (Some y) (at next y) ys
          (λ w i. get_or-set_other next x w head None (out-rest w i))
          (λ w i. get_or-set_other prev1 x w None None (out-rest w i) ∙ back.others w (out-here w i))
          chain.2),
    )
