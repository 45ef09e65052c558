-- All chains, where a place comes first in one or goes out of one.
use Rattle.std.specs.Prelude.{◌≡◌, ◌≢◌, ◌⊎◌, ℕ, zero, suc, ◌<◌, ◌^◌, cond, List, [], ◌∷◌, length, Option, None, Some, refl}
use Rattle.std.proofs.Common.{get_or, set, length-set, get_or-set_same, get_or-set_other, sym, subst, ◌∙◌, inl, inr, arith}
use Rattle.std.proofs.lemmas.Bool.Decides.{eqb_tells}
use Rattle.lnet_chains.specs.Lists.{Within, Distinct, without}
use Rattle.lnet_chains.specs.Links.{Links, at, IsLinkSet, IsChain, AreChains}
use Rattle.lnet_chains.proofs.Chaining.{chain-kept, head-in, follows-in, before-within, chain-without, chain-first}

-- what holds of each list, where one is set
set-each : (P : ℕ → List ℕ → Type 0) (lists : List (List ℕ)) (n : ℕ) (xs : List ℕ)
    → n < length lists → P n xs → ((m : ℕ) → m ≢ n → P m (get_or lists m [])) → (m : ℕ) → P m (get_or (set lists n xs) m [])
set-each P lists n xs low here others m = elim (eqb_tells m n) as (λ _. P m (get_or (set lists n xs) m [])) [
  | inl t ↦ subst (λ k. P k (get_or (set lists n xs) k [])) (sym t.1) (subst (P n) (sym (get_or-set_same lists n xs [] low)) here)
  | inr t ↦ subst (P m) (sym (get_or-set_other lists n m xs [] t.1)) (others m t.1)
]

-- there is a list where something stands in it
list-inside : (lists : List (List ℕ)) (n x : ℕ) → Within x (get_or lists n []) → n < length lists
list-inside [] n x i = absurd i
list-inside (xs ∷ lists) zero x i = omega arith
list-inside (xs ∷ lists) (suc n) x i = let h = list-inside lists n x i in omega arith

-- what is left stood there
without-from : (c x : ℕ) (xs : List ℕ) → Within x (without c xs) → Within x xs
without-from c x [] i = i
without-from c x (y ∷ ys) i = elim (eqb_tells y c) as (λ _. Within x (y ∷ ys)) [
  | inl t ↦ inr (subst (λ b. Within x (cond b ys (y ∷ without c ys))) t.0 i)
  | inr t ↦ elim (subst (λ b. Within x (cond b ys (y ∷ without c ys))) t.0 i) as (λ _. Within x (y ∷ ys)) [
    | inl e ↦ inl e
    | inr j ↦ inr (without-from c x ys j)
  ]
]

without-distinct : (c : ℕ) (xs : List ℕ) → Distinct xs → Distinct (without c xs)
without-distinct c [] differ = differ
without-distinct c (y ∷ ys) differ = elim (eqb_tells y c) as (λ _. Distinct (without c (y ∷ ys))) [
  | inl t ↦ subst (λ b. Distinct (cond b ys (y ∷ without c ys))) (sym t.0) differ.1
  | inr t ↦ subst (λ b. Distinct (cond b ys (y ∷ without c ys))) (sym t.0) (λ i. differ.0 (without-from c y ys i), without-distinct c ys differ.1)
]

-- what came after the place is the node's first where nothing stood before it, and all other firsts stay
pub record IsFirstSet (firsts new : Links) (n : ℕ) (before after : Option ℕ) : Type 0 where
  pub moved : before ≡ None → at new n ≡ after
  pub stays : (before ≡ None → ⊥) → at new n ≡ at firsts n
  pub others : (m : ℕ) → m ≢ n → at new m ≡ at firsts m
  pub len : length new ≡ length firsts

module _ (firsts next prev : Links) (lists : List (List ℕ)) (chains : AreChains firsts next prev lists) where
  -- ---- each link leads to a place

  pub first-inside : (n y : ℕ) → at firsts n ≡ Some y → y < length next
  first-inside n y e = chains.places.inside n y (head-in next prev None (at firsts n) (get_or lists n []) y (chains.linked n) e)

  pub next-inside : (n x y : ℕ) → Within x (get_or lists n []) → at next x ≡ Some y → y < length next
  next-inside n x y i e = chains.places.inside n y (follows-in next prev None (at firsts n) (get_or lists n []) x y (chains.linked n) i e)

  pub prev-inside : (n x y : ℕ) → Within x (get_or lists n []) → at prev x ≡ Some y → y < length next
  prev-inside n x y i e = chains.places.inside n y (before-within next prev (at firsts n) (get_or lists n []) x y (chains.linked n) i e)

  pub node-inside : (n x : ℕ) → Within x (get_or lists n []) → n < length firsts
  node-inside n x i = let h = list-inside lists n x i in let e = chains.nodes in omega arith

  -- ---- a place comes first

  module _ (prev1 : Links) (n c : ℕ) (node : n < length firsts) (place : c < length next)
      (absent : (m : ℕ) → Within c (get_or lists m []) → ⊥) (back : IsLinkSet prev prev1 (at firsts n) (Some c)) where
    firsts2 : Links
    firsts2 = set firsts n (Some c)

    next2 : Links
    next2 = set next c (at firsts n)

    prev2 : Links
    prev2 = set prev1 c None

    more : List ℕ
    more = c ∷ get_or lists n []

    low : n < length lists
    low = let e = chains.nodes in omega arith

    first-here : IsChain next2 prev2 None (at firsts2 n) more
    unfolding firsts2 next2 prev2 more
    first-here = (
      get_or-set_same firsts n (Some c) None node,
      get_or-set_same prev1 c None None (let e = chains.links in let k = back.len in omega arith),
      subst (λ z. IsChain next2 prev2 (Some c) z (get_or lists n [])) (sym (get_or-set_same next c (at firsts n) None place))
          (chain-first next prev prev1 c (at firsts n) (get_or lists n []) (chains.places.distinct n) (absent n) (chains.linked n) back),
    )

    first-others : (m : ℕ) → m ≢ n → IsChain next2 prev2 None (at firsts2 m) (get_or lists m [])
    unfolding firsts2 next2 prev2
    first-others m ne =
        let apart : (y : ℕ) → Within y (get_or lists m []) → y ≢ c = λ y i e. absent m (subst (λ z. Within z (get_or lists m [])) e i) in
        let far : (y : ℕ) → Within y (get_or lists m []) → at firsts n ≡ Some y → ⊥ =
        λ y i e. ne (chains.places.apart m n y i (head-in next prev None (at firsts n) (get_or lists n []) y (chains.linked n) e)) in
        subst (λ z. IsChain next2 prev2 None z (get_or lists m [])) (sym (get_or-set_other firsts n m (Some c) None ne))
        (chain-kept next prev next2 prev2 None (at firsts m) (get_or lists m [])
        (λ y i. get_or-set_other next c y (at firsts n) None (apart y i))
        (λ y i. get_or-set_other prev1 c y None None (apart y i) ∙ back.others y (far y i))
        (chains.linked m))

    -- what stands in a list stood there, or is the new place
    first-from : (m x : ℕ) → Within x (get_or (set lists n more) m []) → Within x (get_or lists m []) ⊎ ((m ≡ n) × (x ≡ c))
    unfolding more
    first-from m x = set-each (λ k xs. Within x xs → Within x (get_or lists k []) ⊎ ((k ≡ n) × (x ≡ c))) lists n more low
        (λ i. elim i as (λ _. Within x (get_or lists n []) ⊎ ((n ≡ n) × (x ≡ c))) [ inl e ↦ inr (refl, e) | inr j ↦ inl j ])
        (λ k ne i. inl i) m

    first-apart : (m k x : ℕ) → Within x (get_or (set lists n more) m []) → Within x (get_or (set lists n more) k []) → m ≡ k
    first-apart m k x i j = elim (first-from m x i) as (λ _. m ≡ k) [
      | inl a ↦ elim (first-from k x j) as (λ _. m ≡ k) [
        | inl b ↦ chains.places.apart m k x a b
        | inr b ↦ absurd (absent m (subst (λ z. Within z (get_or lists m [])) b.1 a))
      ]
      | inr a ↦ elim (first-from k x j) as (λ _. m ≡ k) [
        | inl b ↦ absurd (absent k (subst (λ z. Within z (get_or lists k [])) a.1 b))
        | inr b ↦ a.0 ∙ sym b.0
      ]
    ]

    first-low : (m x : ℕ) → Within x (get_or (set lists n more) m []) → x < length next
    first-low m x i = elim (first-from m x i) as (λ _. x < length next) [
      | inl j ↦ chains.places.inside m x j
      | inr e ↦ subst (λ z. z < length next) (sym e.1) place
    ]

    pub first-chains : AreChains (set firsts n (Some c)) (set next c (at firsts n)) (set prev1 c None) (set lists n (c ∷ get_or lists n []))
    unfolding firsts2 next2 prev2 more
    first-chains = record {
      nodes = length-set lists n more ∙ chains.nodes ∙ sym (length-set firsts n (Some c));
      links = length-set prev1 c None ∙ back.len ∙ chains.links ∙ sym (length-set next c (at firsts n));
      few = subst (λ z. z < 2 ^ 32) (sym (length-set next c (at firsts n))) chains.few;
      linked = set-each (λ m xs. IsChain next2 prev2 None (at firsts2 m) xs) lists n more low first-here first-others;
      places = record {
        distinct = set-each (λ m xs. Distinct xs) lists n more low (absent n, chains.places.distinct n) (λ m ne. chains.places.distinct m);
        apart = first-apart;
        inside = λ m x i. subst (λ z. x < z) (sym (length-set next c (at firsts n))) (first-low m x i);
      };
    }

  -- ---- a place goes

  module _ (firsts2 next2 prev2 : Links) (n c : ℕ) (stands : Within c (get_or lists n []))
      (forth : IsLinkSet next next2 (at prev c) (at next c)) (back : IsLinkSet prev prev2 (at next c) (at prev c))
      (first : IsFirstSet firsts firsts2 n (at prev c) (at next c)) where
    fewer : List ℕ
    fewer = without c (get_or lists n [])

    there : n < length lists
    there = list-inside lists n c stands

    gone-here : IsChain next2 prev2 None (at firsts2 n) fewer
    unfolding fewer
    gone-here = chain-without next prev next2 prev2 c forth back (at firsts n) (at firsts2 n) (get_or lists n [])
        (chains.places.distinct n) (chains.linked n) stands first.moved first.stays

    gone-others : (m : ℕ) → m ≢ n → IsChain next2 prev2 None (at firsts2 m) (get_or lists m [])
    gone-others m ne =
        let before : (y : ℕ) → Within y (get_or lists m []) → at prev c ≡ Some y → ⊥ =
        λ y i e. ne (chains.places.apart m n y i (before-within next prev (at firsts n) (get_or lists n []) c y (chains.linked n) stands e)) in
        let after : (y : ℕ) → Within y (get_or lists m []) → at next c ≡ Some y → ⊥ =
        λ y i e. ne (chains.places.apart m n y i (follows-in next prev None (at firsts n) (get_or lists n []) c y (chains.linked n) stands e)) in
        subst (λ z. IsChain next2 prev2 None z (get_or lists m [])) (sym (first.others m ne))
        (chain-kept next prev next2 prev2 None (at firsts m) (get_or lists m [])
        (λ y i. forth.others y (before y i)) (λ y i. back.others y (after y i)) (chains.linked m))

    -- what stands in a list stood there
    gone-from : (m x : ℕ) → Within x (get_or (set lists n fewer) m []) → Within x (get_or lists m [])
    unfolding fewer
    gone-from m x = set-each (λ k xs. Within x xs → Within x (get_or lists k [])) lists n fewer there
        (λ i. without-from c x (get_or lists n []) i) (λ k ne i. i) m

    gone-distinct : (m : ℕ) → Distinct (get_or (set lists n fewer) m [])
    unfolding fewer
    gone-distinct = set-each (λ m xs. Distinct xs) lists n fewer there
        (without-distinct c (get_or lists n []) (chains.places.distinct n)) (λ m ne. chains.places.distinct m)

    pub gone-chains : AreChains firsts2 next2 prev2 (set lists n (without c (get_or lists n [])))
    unfolding fewer
    gone-chains = record {
      nodes = length-set lists n fewer ∙ chains.nodes ∙ sym first.len;
      links = back.len ∙ chains.links ∙ sym forth.len;
      few = subst (λ z. z < 2 ^ 32) (sym forth.len) chains.few;
      linked = set-each (λ m xs. IsChain next2 prev2 None (at firsts2 m) xs) lists n fewer there gone-here gone-others;
      places = record {
        distinct = gone-distinct;
        apart = λ m k x i j. chains.places.apart m k x (gone-from m x i) (gone-from k x j);
        inside = λ m x i. subst (λ z. x < z) (sym forth.len) (chains.places.inside m x (gone-from m x i));
      };
    }
