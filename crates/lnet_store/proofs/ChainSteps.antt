-- The slots of a gate come into chains and go out of them one after another.
use Rattle.std.proofs.Common.{◌≡◌, ℕ, zero, suc, ◌+◌, ◌<◌, ◌≤◌, List, [], ◌∷◌, length, take, get_or, slice_get, refl, sym, ap, subst, inl, inr, arith}
use Rattle.std.specs.Prelude.{◌⊎◌, ◌↔◌}
use Rattle.std.proofs.lemmas.Bool.{cases_lt}
use Rattle.std.proofs.lemmas.Bool.Decides.{eqb_tells}
use Rattle.lnet_gates.specs.declared.signal.Signal.{Signal}
use Rattle.lnet_chains.specs.Lists.{ChainsValue, Within, list_of, with_first, without, without_place, AreApart}
use Rattle.lnet_store.specs.Fields.{naming}
use Rattle.lnet_store.specs.Linked.{NamesNode, IsSlotOf, place}
use Rattle.lnet_store.proofs.ListSteps.{list-here, list-apart, without-within, without-gone, within-stays, without-length}
use Rattle.lnet_store.proofs.CountLemmas.{more-here, more-apart}

-- the place is that of one of the first slots of the gate at n, which names m
abbrev pub IsSlotBelow : ℕ → List Signal → ℕ → ℕ → ℕ → Type 0
IsSlotBelow n ss i m p = (j : ℕ) × (j < i) × (p ≡ place n j) × NamesNode m (slice_get ss j)

pub names-within : (m j : ℕ) (ss : List Signal) → NamesNode m (slice_get ss j) → j < length ss
names-within m j [] h = absurd h
names-within m zero (s ∷ ss) h = omega arith
names-within m (suc j) (s ∷ ss) h = let t = names-within m j ss h in omega arith

-- the signal at i names its node, and no other
pub names-here : (ss : List Signal) (i : ℕ) (d : Signal) → i < length ss → NamesNode (get_or ss i d).node.0 (slice_get ss i)
names-here [] i d lt = absurd (omega arith)
names-here (s ∷ ss) zero d lt = refl
names-here (s ∷ ss) (suc i) d lt = names-here ss i d (omega arith)

names-one : (ss : List Signal) (i m : ℕ) (d : Signal) → NamesNode m (slice_get ss i) → (get_or ss i d).node.0 ≡ m
names-one [] i m d h = absurd h
names-one (s ∷ ss) zero m d h = h
names-one (s ∷ ss) (suc i) m d h = names-one ss i m d h

-- all slots
pub slots-all : (n : ℕ) (ss : List Signal) (i m p : ℕ) → IsSlotBelow n ss i m p → IsSlotOf n ss m p
slots-all n ss i m p h = (h.0, h.2, h.3)

pub all-slots : (n : ℕ) (ss : List Signal) (i m p : ℕ) → length ss ≤ i → IsSlotOf n ss m p → IsSlotBelow n ss i m p
all-slots n ss i m p end h = (h.0, (let z = names-within m h.0 ss h.2 in omega arith), h.1, h.2)

-- where all slots were taken
pub all-taken : (n : ℕ) (ss : List Signal) (i m p : ℕ) (A B : Type 0) → length ss ≤ i → A ↔ (B ⊎ IsSlotBelow n ss i m p) → A ↔ (B ⊎ IsSlotOf n ss m p)
all-taken n ss i m p A B end so = (
  λ a. elim (so.0 a) as (λ _. B ⊎ IsSlotOf n ss m p) [ inl b ↦ inl b | inr s ↦ inr (slots-all n ss i m p s) ],
  λ h. so.1 (elim h as (λ _. B ⊎ IsSlotBelow n ss i m p) [ inl b ↦ inl b | inr s ↦ inr (all-slots n ss i m p end s) ]),
)

-- one slot more
slot-more : (n : ℕ) (ss : List Signal) (i m p : ℕ) → IsSlotBelow n ss (i + 1) m p → IsSlotBelow n ss i m p ⊎ ((p ≡ place n i) × NamesNode m (slice_get ss i))
slot-more n ss i m p h = elim (cases_lt h.0 i) as (λ _. IsSlotBelow n ss i m p ⊎ ((p ≡ place n i) × NamesNode m (slice_get ss i))) [
  | inl lt ↦ inl (h.0, lt, h.2, h.3)
  | inr ge ↦ (let e : h.0 ≡ i = (let q = h.1 in omega arith) in inr (subst (λ j. p ≡ place n j) e h.2, subst (λ j. NamesNode m (slice_get ss j)) e h.3))
]

slot-less : (n : ℕ) (ss : List Signal) (i m p : ℕ) → IsSlotBelow n ss i m p → IsSlotBelow n ss (i + 1) m p
slot-less n ss i m p h = (h.0, (let q = h.1 in omega arith), h.2, h.3)

-- the place at i is that of no slot before
pub slot-apart : (n : ℕ) (ss : List Signal) (i m p : ℕ) → p ≡ place n i → IsSlotBelow n ss i m p → ⊥
slot-apart n ss i m p e h = let q = h.1 in let r = h.2 in omega arith

-- the slot that is next to go stands in its chain
pub slot-stands : (c old : ChainsValue) (n : ℕ) (ss : List Signal) (i : ℕ) (d : Signal) → i < length ss → ((m p : ℕ) → IsSlotOf n ss m p → Within p (list_of old m)) →
    ((m p : ℕ) → Within p (list_of old m) ↔ (Within p (list_of c m) ⊎ IsSlotBelow n ss i m p)) → Within (place n i) (list_of c (get_or ss i d).node.0)
slot-stands c old n ss i d lt linked so = elim ((so (get_or ss i d).node.0 (place n i)).0 (linked (get_or ss i d).node.0 (place n i) (i, refl, names-here ss i d lt))) as
    (λ _. Within (place n i) (list_of c (get_or ss i d).node.0)) [
      | inl a ↦ a
      | inr b ↦ absurd (slot-apart n ss i (get_or ss i d).node.0 (place n i) refl b)
    ]

-- ---- one step

module _ (c old : ChainsValue) (n : ℕ) (ss : List Signal) (i : ℕ) (d : Signal) (lt : i < length ss) (node : (get_or ss i d).node.0 < length c.lists) where
  abbrev k : ℕ
  k = (get_or ss i d).node.0

  abbrev more : ChainsValue
  more = with_first c (get_or ss i d).node.0 (place n i)

  abbrev less : ChainsValue
  less = without_place c (get_or ss i d).node.0 (place n i)

  -- a slot more stands in the chains
  pub linked-more : ((m p : ℕ) → Within p (list_of c m) ↔ (Within p (list_of old m) ⊎ IsSlotBelow n ss i m p)) → (m p : ℕ) →
      Within p (list_of more m) ↔ (Within p (list_of old m) ⊎ IsSlotBelow n ss (i + 1) m p)
  linked-more so m p = elim (eqb_tells m k) as (λ _. Within p (list_of more m) ↔ (Within p (list_of old m) ⊎ IsSlotBelow n ss (i + 1) m p)) [
    | inl e ↦ (
        let at : list_of more m ≡ place n i ∷ list_of c m = subst (λ x. list_of more x ≡ place n i ∷ list_of c x) (sym e.1) (list-here c k (place n i ∷ list_of c k) node) in (
          λ h. elim (subst (λ xs. Within p xs) at h) as (λ _. Within p (list_of old m) ⊎ IsSlotBelow n ss (i + 1) m p) [
            | inl s ↦ inr (i, omega arith, s, subst (λ x. NamesNode x (slice_get ss i)) (sym e.1) (names-here ss i d lt))
            | inr t ↦ widen m p ((so m p).0 t)
          ],
          λ h. subst (λ xs. Within p xs) (sym at) (elim (narrow m p h) as (λ _. Within p (place n i ∷ list_of c m)) [
            | inl t ↦ inr ((so m p).1 t)
            | inr s ↦ inl s.0
          ]),
        )
        )
    | inr e ↦ (
        let at : list_of more m ≡ list_of c m = list-apart c k m (place n i ∷ list_of c k) e.1 in (
          λ h. widen m p ((so m p).0 (subst (λ xs. Within p xs) at h)),
          λ h. subst (λ xs. Within p xs) (sym at) (elim (narrow m p h) as (λ _. Within p (list_of c m)) [
            | inl t ↦ (so m p).1 t
            | inr s ↦ absurd (e.1 (sym (names-one ss i m d s.1)))
          ]),
        )
        )
  ]
    where
      widen : (m p : ℕ) → Within p (list_of old m) ⊎ IsSlotBelow n ss i m p → Within p (list_of old m) ⊎ IsSlotBelow n ss (i + 1) m p
      widen m p (inl a) = inl a
      widen m p (inr b) = inr (slot-less n ss i m p b)

      narrow : (m p : ℕ) → Within p (list_of old m) ⊎ IsSlotBelow n ss (i + 1) m p → (Within p (list_of old m) ⊎ IsSlotBelow n ss i m p) ⊎ ((p ≡ place n i) × NamesNode m (slice_get ss i))
      narrow m p (inl a) = inl (inl a)
      narrow m p (inr b) = elim (slot-more n ss i m p b) as
          (λ _. (Within p (list_of old m) ⊎ IsSlotBelow n ss i m p) ⊎ ((p ≡ place n i) × NamesNode m (slice_get ss i))) [ inl t ↦ inl (inr t) | inr s ↦ inr s ]

  pub counted-more : ((m : ℕ) → length (list_of c m) ≡ length (list_of old m) + naming m (take i ss)) → (m : ℕ) → length (list_of more m) ≡ length (list_of old m) + naming m (take (i + 1) ss)
  counted-more so m = elim (eqb_tells m k) as (λ _. length (list_of more m) ≡ length (list_of old m) + naming m (take (i + 1) ss)) [
    | inl e ↦ (
        let at : list_of more m ≡ place n i ∷ list_of c m = subst (λ x. list_of more x ≡ place n i ∷ list_of c x) (sym e.1) (list-here c k (place n i ∷ list_of c k) node) in
        let len = ap (λ (xs : List ℕ). length xs) at in
        let before = so m in
        let step = more-here ss i d lt m (sym e.1) in
        omega arith
        )
    | inr e ↦ (
        let len = ap (λ (xs : List ℕ). length xs) (list-apart c k m (place n i ∷ list_of c k) e.1) in
        let before = so m in
        let step = more-apart ss i d lt m (λ s. e.1 (sym s)) in
        omega arith
        )
  ]

  -- a slot goes out of the chains
  module _ (apart : AreApart c) (stands : Within (place n i) (list_of c (get_or ss i d).node.0)) where
    here : list_of less k ≡ without (place n i) (list_of c k)
    here = list-here c k (without (place n i) (list_of c k)) node

    pub gone-more : ((m p : ℕ) → Within p (list_of c m) → IsSlotBelow n ss i m p → ⊥) → (m p : ℕ) → Within p (list_of less m) → IsSlotBelow n ss (i + 1) m p → ⊥
    gone-more so m p h b = elim (slot-more n ss i m p b) as (λ _. ⊥) [
      | inl t ↦ so m p (stays-in m p h) t
      | inr s ↦ (let e : m ≡ k = sym (names-one ss i m d s.1) in
          without-gone (place n i) (list_of c k) (apart.distinct k)
          (subst (λ xs. Within (place n i) xs) here (subst (λ x. Within (place n i) (list_of less x)) e (subst (λ x. Within x (list_of less m)) s.0 h))))
    ]
      where
        stays-in : (m p : ℕ) → Within p (list_of less m) → Within p (list_of c m)
        stays-in m p h = elim (eqb_tells m k) as (λ _. Within p (list_of c m)) [
          | inl e ↦ subst (λ x. Within p (list_of c x)) (sym e.1) (without-within (place n i) p (list_of c k) (subst (λ xs. Within p xs) here (subst (λ x. Within p (list_of less x)) e.1 h)))
          | inr e ↦ subst (λ xs. Within p xs) (list-apart c k m (without (place n i) (list_of c k)) e.1) h
        ]

    pub linked-less : ((m p : ℕ) → Within p (list_of old m) ↔ (Within p (list_of c m) ⊎ IsSlotBelow n ss i m p)) → (m p : ℕ) →
        Within p (list_of old m) ↔ (Within p (list_of less m) ⊎ IsSlotBelow n ss (i + 1) m p)
    linked-less so m p = (
      λ h. elim ((so m p).0 h) as (λ _. Within p (list_of less m) ⊎ IsSlotBelow n ss (i + 1) m p) [ inl t ↦ goes m p t | inr b ↦ inr (slot-less n ss i m p b) ],
      λ h. elim h as (λ _. Within p (list_of old m)) [
        | inl t ↦ (so m p).1 (inl (back m p t))
        | inr b ↦ elim (slot-more n ss i m p b) as (λ _. Within p (list_of old m)) [
          | inl t ↦ (so m p).1 (inr t)
          | inr s ↦ (so m p).1 (inl (subst (λ x. Within p (list_of c x)) (names-one ss i m d s.1) (subst (λ x. Within x (list_of c k)) (sym s.0) stands)))
        ]
      ],
    )
      where
        goes : (m p : ℕ) → Within p (list_of c m) → Within p (list_of less m) ⊎ IsSlotBelow n ss (i + 1) m p
        goes m p t = elim (eqb_tells m k) as (λ _. Within p (list_of less m) ⊎ IsSlotBelow n ss (i + 1) m p) [
          | inl e ↦ elim (eqb_tells p (place n i)) as (λ _. Within p (list_of less m) ⊎ IsSlotBelow n ss (i + 1) m p) [
            | inl q ↦ inr (i, omega arith, q.1, subst (λ x. NamesNode x (slice_get ss i)) (sym e.1) (names-here ss i d lt))
            | inr q ↦ inl (subst (λ x. Within p (list_of less x)) (sym e.1)
                (subst (λ xs. Within p xs) (sym here) (within-stays (place n i) p (list_of c k) q.1 (subst (λ x. Within p (list_of c x)) e.1 t))))
          ]
          | inr e ↦ inl (subst (λ xs. Within p xs) (sym (list-apart c k m (without (place n i) (list_of c k)) e.1)) t)
        ]

        back : (m p : ℕ) → Within p (list_of less m) → Within p (list_of c m)
        back m p h = elim (eqb_tells m k) as (λ _. Within p (list_of c m)) [
          | inl e ↦ subst (λ x. Within p (list_of c x)) (sym e.1) (without-within (place n i) p (list_of c k) (subst (λ xs. Within p xs) here (subst (λ x. Within p (list_of less x)) e.1 h)))
          | inr e ↦ subst (λ xs. Within p xs) (list-apart c k m (without (place n i) (list_of c k)) e.1) h
        ]

    pub counted-less : ((m : ℕ) → length (list_of c m) + naming m (take i ss) ≡ length (list_of old m)) → (m : ℕ) → length (list_of less m) + naming m (take (i + 1) ss) ≡ length (list_of old m)
    counted-less so m = elim (eqb_tells m k) as (λ _. length (list_of less m) + naming m (take (i + 1) ss) ≡ length (list_of old m)) [
      | inl e ↦ (
          let len = ap (λ (xs : List ℕ). length xs) here in
          let fewer = without-length (place n i) (list_of c k) stands in
          let before = so k in
          let step = more-here ss i d lt k refl in
          subst (λ x. length (list_of less x) + naming x (take (i + 1) ss) ≡ length (list_of old x)) (sym e.1) (omega arith)
          )
      | inr e ↦ (
          let len = ap (λ (xs : List ℕ). length xs) (list-apart c k m (without (place n i) (list_of c k)) e.1) in
          let before = so m in
          let step = more-apart ss i d lt m (λ s. e.1 (sym s)) in
          omega arith
          )
    ]
