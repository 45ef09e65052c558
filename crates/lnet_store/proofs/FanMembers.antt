-- The pairs of the fanout are the slots that name the node.
use Rattle.std.proofs.Common.{◌≡◌, ℕ, zero, suc, ◌+◌, ◌<◌, ◌≤◌, cond, eqb, List, [], ◌∷◌, ◌++◌, None, Some, slice_get, IsSome, refl, sym, ap, subst, ◌∙◌, inl, inr, arith}
use Rattle.std.specs.Prelude.{◌⊎◌, ◌↔◌}
use Rattle.std.proofs.lemmas.Bool.Decides.{eqb_tells}
use Rattle.std.specs.Prelude.{true, false}
use Rattle.lnet_gates.specs.declared.signal.Signal.{Signal}
use Rattle.lnet_model.specs.Networks.{NetworkValue, Lookup, entry_at, fanins_of}
use Rattle.lnet_model.specs.Along.{at_entry}
use Rattle.lnet_model.specs.Fanouts.{fan, slots_naming}
use Rattle.lnet_model.specs.Dags.{numbers_of}
use Rattle.lnet_model.proofs.Numbers.{live-below-numbers}
use Rattle.lnet_store.specs.StoreValues.{IsOneOf}
use Rattle.lnet_store.specs.Linked.{NamesNode, IsReading}
use Rattle.lnet_model.proofs.Rising.{by_number, entries-by_number}

one-of-append : (x : ℕ × ℕ) (xs ys : List (ℕ × ℕ)) → IsOneOf x (xs ++ ys) → IsOneOf x xs ⊎ IsOneOf x ys
one-of-append x [] ys i = inr i
one-of-append x (r ∷ rs) ys (inl e) = inl (inl e)
one-of-append x (r ∷ rs) ys (inr i) = elim (one-of-append x rs ys i) as (λ _. IsOneOf x (r ∷ rs) ⊎ IsOneOf x ys) [ inl a ↦ inl (inr a) | inr b ↦ inr b ]

one-of-left : (x : ℕ × ℕ) (xs ys : List (ℕ × ℕ)) → IsOneOf x xs → IsOneOf x (xs ++ ys)
one-of-left x [] ys i = absurd i
one-of-left x (r ∷ rs) ys (inl e) = inl e
one-of-left x (r ∷ rs) ys (inr i) = inr (one-of-left x rs ys i)

one-of-right : (x : ℕ × ℕ) (xs ys : List (ℕ × ℕ)) → IsOneOf x ys → IsOneOf x (xs ++ ys)
one-of-right x [] ys i = i
one-of-right x (r ∷ rs) ys i = inr (one-of-right x rs ys i)

-- ---- the slots of one gate

later : (n k p j parent : ℕ) (s : Signal) (ss : List Signal) → (p ≡ parent) × (i : ℕ) × (j ≡ suc k + i) × NamesNode n (slice_get ss i) →
    (p ≡ parent) × (i : ℕ) × (j ≡ k + i) × NamesNode n (slice_get (s ∷ ss) i)
later n k p j parent s ss r = (r.0, suc r.1, let e = r.2 in omega arith, r.3)

first : (n k p j parent : ℕ) (s : Signal) (ss : List Signal) → s.node.0 ≡ n → ◌≡◌ {A = ℕ × ℕ} (p, j) (parent, k) → (p ≡ parent) × (i : ℕ) × (j ≡ k + i) × NamesNode n (slice_get (s ∷ ss) i)
first n k p j parent s ss is e = (ap (λ (q : ℕ × ℕ). q.0) e, 0, (let z : j ≡ k = ap (λ (q : ℕ × ℕ). q.1) e in omega arith), is)

pub slots-are : (n parent k p j : ℕ) (ss : List Signal) → IsOneOf (p, j) (slots_naming n parent k ss) → (p ≡ parent) × (i : ℕ) × (j ≡ k + i) × NamesNode n (slice_get ss i)
slots-are n parent k p j [] h = absurd h
slots-are n parent k p j (s ∷ ss) h = elim (eqb_tells s.node.0 n) as (λ _. (p ≡ parent) × (i : ℕ) × (j ≡ k + i) × NamesNode n (slice_get (s ∷ ss) i)) [
  | inl e ↦ elim (subst (λ b. IsOneOf (p, j) (cond b ((parent, k) ∷ slots_naming n parent (suc k) ss) (slots_naming n parent (suc k) ss))) e.0 h) as
      (λ _. (p ≡ parent) × (i : ℕ) × (j ≡ k + i) × NamesNode n (slice_get (s ∷ ss) i)) [
        | inl t ↦ first n k p j parent s ss e.1 t
        | inr t ↦ later n k p j parent s ss (slots-are n parent (suc k) p j ss t)
      ]
  | inr e ↦ later n k p j parent s ss (slots-are n parent (suc k) p j ss
      (subst (λ b. IsOneOf (p, j) (cond b ((parent, k) ∷ slots_naming n parent (suc k) ss) (slots_naming n parent (suc k) ss))) e.0 h))
]

pub slots-have : (n parent k i : ℕ) (ss : List Signal) → NamesNode n (slice_get ss i) → IsOneOf (parent, k + i) (slots_naming n parent k ss)
slots-have n parent k i [] h = absurd h
slots-have n parent k zero (s ∷ ss) h = elim (eqb_tells s.node.0 n) as
    (λ _. IsOneOf (parent, k + 0) (cond (eqb s.node.0 n) ((parent, k) ∷ slots_naming n parent (suc k) ss) (slots_naming n parent (suc k) ss))) [
      | inl e ↦ subst (λ b. IsOneOf (parent, k + 0) (cond b ((parent, k) ∷ slots_naming n parent (suc k) ss) (slots_naming n parent (suc k) ss))) (sym e.0)
          (inl (let z : k + 0 ≡ k = omega arith in ap (λ x. (parent, x)) z))
      | inr e ↦ absurd (e.1 h)
    ]
slots-have n parent k (suc i) (s ∷ ss) h =
    let z : suc k + i ≡ k + suc i = omega arith in
    let t : IsOneOf (parent, k + suc i) (slots_naming n parent (suc k) ss) = subst (λ x. IsOneOf (parent, x) (slots_naming n parent (suc k) ss)) z (slots-have n parent (suc k) i ss h) in
    elim (eqb s.node.0 n) as (λ b. IsOneOf (parent, k + suc i) (cond b ((parent, k) ∷ slots_naming n parent (suc k) ss) (slots_naming n parent (suc k) ss))) [ true ↦ inr t | false ↦ t ]

-- ---- the slots of all gates

-- those of the gate at m
abbrev named_from : Lookup → ℕ → ℕ → ℕ → List (ℕ × ℕ)
named_from g n m j = slots_naming n m j (at_entry [] fanins_of (g m))

-- those of so many numbers from m on
abbrev named_after : Lookup → ℕ → ℕ → ℕ → List (ℕ × ℕ)
named_after g n m zero = []
named_after g n m (suc k) = named_from g n m 0 ++ named_after g n (suc m) k

named-by_number : (g : Lookup) (n a k : ℕ) → by_number g (λ m e. slots_naming n m 0 (fanins_of e)) a k ≡ named_after g n a k
named-by_number g n a zero = refl
named-by_number g n a (suc k) =
    ap (λ zs. at_entry [] (λ e. slots_naming n a 0 (fanins_of e)) (g a) ++ zs) (named-by_number g n (suc a) k)
    ∙ ap (λ zs. zs ++ named_after g n (suc a) k)
    (elim (g a) as (λ o. at_entry [] (λ e. slots_naming n a 0 (fanins_of e)) o ≡ slots_naming n a 0 (at_entry [] fanins_of o)) [ None ↦ refl | Some e ↦ refl ])

after-are : (g : Lookup) (n m k p j : ℕ) → IsOneOf (p, j) (named_after g n m k) → NamesNode n (slice_get (at_entry [] fanins_of (g p)) j)
after-are g n m zero p j h = absurd h
after-are g n m (suc k) p j h = elim (one-of-append (p, j) (named_from g n m 0) (named_after g n (suc m) k) h) as (λ _. NamesNode n (slice_get (at_entry [] fanins_of (g p)) j)) [
  | inl a ↦ (let r = slots-are n m 0 p j (at_entry [] fanins_of (g m)) a in let e : r.1 ≡ j = (let z = r.2 in omega arith) in
      subst (λ x. NamesNode n (slice_get (at_entry [] fanins_of (g x)) j)) (sym r.0) (subst (λ x. NamesNode n (slice_get (at_entry [] fanins_of (g m)) x)) e r.3))
  | inr b ↦ after-are g n (suc m) k p j b
]

after-have : (g : Lookup) (n m k p j : ℕ) → m ≤ p → p < m + k → NamesNode n (slice_get (at_entry [] fanins_of (g p)) j) → IsOneOf (p, j) (named_after g n m k)
after-have g n m zero p j from to h = absurd (omega arith)
after-have g n m (suc k) p j from to h = elim (eqb_tells p m) as (λ _. IsOneOf (p, j) (named_from g n m 0 ++ named_after g n (suc m) k)) [
  | inl e ↦ one-of-left (p, j) (named_from g n m 0) (named_after g n (suc m) k)
      (subst (λ x. IsOneOf (x, j) (slots_naming n m 0 (at_entry [] fanins_of (g m)))) (sym e.1)
      (subst (λ y. IsOneOf (m, y) (slots_naming n m 0 (at_entry [] fanins_of (g m)))) (let z : 0 + j ≡ j = omega arith in z)
      (slots-have n m 0 j (at_entry [] fanins_of (g m)) (subst (λ x. NamesNode n (slice_get (at_entry [] fanins_of (g x)) j)) e.1 h))))
  | inr e ↦ one-of-right (p, j) (named_from g n m 0) (named_after g n (suc m) k) (after-have g n (suc m) k p j (let ne = e.1 in omega arith) (omega arith) h)
]

-- where a slot names a node, its gate is live
reading-live : (N : NetworkValue) (n p j : ℕ) → IsReading N n p j → IsSome (entry_at N p)
reading-live N n p j h = (elim (entry_at N p) as (λ o. NamesNode n (slice_get (at_entry [] fanins_of o) j) → IsSome o) [ None ↦ λ h. absurd h | Some e ↦ λ h. refl ]) h

fan-after : (N : NetworkValue) (n : ℕ) → fan N n ≡ named_after (entry_at N) n 0 (numbers_of N)
unfolding entry_at fan
fan-after N n =
    entries-by_number (λ m e. slots_naming n m 0 (fanins_of e)) N.nodes (numbers_of N) (live-below-numbers N)
    ∙ named-by_number (entry_at N) n 0 (numbers_of N)

pub fan-reads : (N : NetworkValue) (n p j : ℕ) → IsOneOf (p, j) (fan N n) ↔ IsReading N n p j
fan-reads N n p j = (
  λ i. after-are (entry_at N) n 0 (numbers_of N) p j (subst (IsOneOf (p, j)) (fan-after N n) i),
  λ h. subst (IsOneOf (p, j)) (sym (fan-after N n)) (after-have (entry_at N) n 0 (numbers_of N) p j (omega arith) (let z = live-below-numbers N p (reading-live N n p j h) in omega arith) h),
)
