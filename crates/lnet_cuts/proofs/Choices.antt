-- The best of a list, chosen one after the other: what is chosen next is the next of the sorted ones that none puts out.
use Rattle.std.proofs.Common.{◌≡◌, List, [], ◌∷◌, ◌++◌, refl, sym, ap, subst, inl, inr}
use Rattle.std.specs.Prelude.{◌⊎◌, ⊤}
use Rattle.lnet_cuts.specs.Candidates.{Mem}
use Rattle.lnet_cuts.proofs.Members.{append-from, append-left, append-right}

module _ (X : Type 0) (Good : X → Type 0) (Sub Before Lower : X → X → Type 0) (dec : (x y : X) → Sub x y ⊎ (Sub x y → ⊥)) (own : (x : X) → Sub x x) (trans : (x y z : X) → Sub x y → Sub y z
    → Sub x z) (strict : (x y : X) → Good x → Good y → Sub x y → (Sub y x → ⊥) → Before x y) (not-same : (x y : X) → Good x → Good y → Before x y → Sub x y → Sub y x → ⊥) where
  -- each comes before all after it
  abbrev pub Sorted : List X → Type 0
  Sorted [] = ⊤
  Sorted (x ∷ xs) = ((y : X) → Mem y xs → Before x y) × Sorted xs

  -- d puts c out
  abbrev pub Beats : X → X → Type 0
  Beats c d = Sub d c × ((Sub c d → ⊥) ⊎ Lower d c)

  abbrev pub Unbeaten : List X → X → Type 0
  Unbeaten cs x = (d : X) → Mem d cs → Beats x d → ⊥

  -- nothing that was chosen is within c
  abbrev pub Fresh : List X → X → Type 0
  Fresh chosen c = (k : X) → Mem k chosen → Sub k c → ⊥

  -- the sorted list of those that none puts out
  pub record AreBest (cs best : List X) : Type 0 where
    pub sorted : Sorted best
    pub from : (x : X) → Mem x best → Mem x cs × Unbeaten cs x
    pub all : (x : X) → Mem x cs → Unbeaten cs x → Mem x best

  -- what is chosen next: fresh, and no fresh one is before it, or has the same leaves and a lower table
  pub record IsNextChoice (cs chosen : List X) (c : X) : Type 0 where
    pub one : Mem c cs
    pub fresh : Fresh chosen c
    pub least : (d : X) → Mem d cs → Fresh chosen d → Before d c → ⊥
    pub lowest : (d : X) → Mem d cs → Fresh chosen d → Sub d c → Sub c d → Lower d c → ⊥

  rest-sorted : (xs ys : List X) → Sorted (xs ++ ys) → Sorted ys
  rest-sorted [] ys s = s
  rest-sorted (x ∷ xs) ys s = rest-sorted xs ys s.1

  across : (xs ys : List X) (k y : X) → Sorted (xs ++ ys) → Mem k xs → Mem y ys → Before k y
  across [] ys k y s i j = absurd i
  across (x ∷ xs) ys k y s (inl e) j = subst (λ z. Before z y) (sym e) (s.0 y (append-right y xs ys j))
  across (x ∷ xs) ys k y s (inr i) j = across xs ys k y s.1 i j

  module _ (cs : List X) (good : (x : X) → Mem x cs → Good x) where
    choice-unbeaten : (chosen : List X) (c : X) → IsNextChoice cs chosen c → Unbeaten cs c
    choice-unbeaten chosen c N d i b =
        let fresh : Fresh chosen d = λ k j s. N.fresh k j (trans k d c s b.0) in
        elim (dec c d) as (λ _. ⊥) [
          | inl under ↦ elim b.1 as (λ _. ⊥) [ inl un ↦ un under | inr low ↦ N.lowest d i fresh b.0 under low ]
          | inr un ↦ N.least d i fresh (strict d c (good d i) (good c N.one) b.0 un)
        ]

    -- of the best, those that aren't chosen are fresh
    rest-fresh : (chosen rest : List X) → AreBest cs (chosen ++ rest) → (y : X) → Mem y rest → Fresh chosen y
    rest-fresh chosen rest B y i k j s = elim (dec y k) as (λ _. ⊥) [
      | inl under ↦ not-same k y (good k (B.from k (append-left k chosen rest j)).0) (good y (B.from y (append-right y chosen rest i)).0) (across chosen rest k y B.sorted j i) s under
      | inr un ↦ (B.from y (append-right y chosen rest i)).1 k (B.from k (append-left k chosen rest j)).0 (s, inl un)
    ]

    pub next-best : (chosen rest : List X) (c : X) → AreBest cs (chosen ++ rest) → IsNextChoice cs chosen c → (more : List X) × (rest ≡ c ∷ more)
    next-best chosen [] c B N = elim (append-from c chosen [] (B.all c N.one (choice-unbeaten chosen c N))) as (λ _. (more : List X) × ([] ≡ c ∷ more)) [
      | inl i ↦ absurd (N.fresh c i (own c))
      | inr i ↦ absurd i
    ]
    next-best chosen (y ∷ rest) c B N = elim (append-from c chosen (y ∷ rest) (B.all c N.one (choice-unbeaten chosen c N))) as (λ _. (more : List X) × (y ∷ rest ≡ c ∷ more)) [
      | inl i ↦ absurd (N.fresh c i (own c))
      | inr i ↦ elim i as (λ _. (more : List X) × (y ∷ rest ≡ c ∷ more)) [
        | inl e ↦ (rest, ap (λ z. z ∷ rest) (sym e))
        | inr j ↦ absurd (N.least y (B.from y (append-right y chosen (y ∷ rest) (inl refl))).0 (rest-fresh chosen (y ∷ rest) B y (inl refl)) ((rest-sorted chosen (y ∷ rest) B.sorted).0 c j))
      ]
    ]

    pub none-left : (chosen rest : List X) → AreBest cs (chosen ++ rest) → ((d : X) → Mem d cs → Fresh chosen d → ⊥) → rest ≡ []
    none-left chosen [] B none = refl
    none-left chosen (y ∷ rest) B none = absurd (none y (B.from y (append-right y chosen (y ∷ rest) (inl refl))).0 (rest-fresh chosen (y ∷ rest) B y (inl refl)))
