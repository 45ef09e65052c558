-- A gate's slots come into ordered lists, and what stands in these is listed of a network with that gate.
use Rattle.std.proofs.Common.{◌≡◌, ◌≢◌, ℕ, ◌+◌, ◌<◌, ◌≤◌, List, [], ◌∷◌, length, get_or, slice_get, sym, ap, subst, inl, inr, arith}
use Rattle.std.specs.Prelude.{◌⊎◌, ◌↔◌}
use Rattle.std.proofs.lemmas.Bool.Decides.{eqb_tells}
use Rattle.lnet_gates.specs.declared.signal.Signal.{Signal}
use Rattle.lnet_model.specs.Networks.{Lookup, fanins_of}
use Rattle.lnet_model.specs.Along.{at_entry}
use Rattle.lnet_chains.specs.Lists.{ChainsValue, Within, list_of, with_first}
use Rattle.lnet_pools.specs.Ascending.{put_in, with_place}
use Rattle.lnet_pools.proofs.Lists.{put-into, put-keeps, put-has}
use Rattle.lnet_store.specs.Linked.{NamesNode, IsSlotOf, place}
use Rattle.lnet_store.proofs.ListSteps.{list-here, list-apart}
use Rattle.lnet_store.proofs.ChainSteps.{names-within, linked-more, IsSlotBelow}
use Rattle.lnet_fanouts.specs.FanoutViews.{AreListed, slots_at}

-- ---- a place at its place of a list stands in it as it would as the first

either-way : (c d : ℕ) (xs : List ℕ) → Within d (put_in c xs) ↔ Within d (c ∷ xs)
either-way c d xs = (
  λ i. elim (put-into c d xs i) as (λ _. Within d (c ∷ xs)) [ inl k ↦ inr k | inr e ↦ inl e ],
  λ i. elim i as (λ _. Within d (put_in c xs)) [ inl e ↦ subst (λ z. Within z (put_in c xs)) (sym e) (put-has c xs) | inr k ↦ put-keeps c d xs k ],
)

same-members : (v : ChainsValue) (k c m p : ℕ) → k < length v.lists → Within p (list_of (with_place v k c) m) ↔ Within p (list_of (with_first v k c) m)
same-members v k c m p node = elim (eqb_tells m k) as (λ _. Within p (list_of (with_place v k c) m) ↔ Within p (list_of (with_first v k c) m)) [
  | inl e ↦ subst (λ z. Within p (list_of (with_place v k c) z) ↔ Within p (list_of (with_first v k c) z)) (sym e.1)
      (subst (λ xs. Within p xs ↔ Within p (list_of (with_first v k c) k)) (sym (list-here v k (put_in c (list_of v k)) node))
      (subst (λ ys. Within p (put_in c (list_of v k)) ↔ Within p ys) (sym (list-here v k (c ∷ list_of v k) node)) (either-way c p (list_of v k))))
  | inr e ↦ subst (λ xs. Within p xs ↔ Within p (list_of (with_first v k c) m)) (sym (list-apart v k m (put_in c (list_of v k)) e.1))
      (subst (λ ys. Within p (list_of v m) ↔ Within p ys) (sym (list-apart v k m (c ∷ list_of v k) e.1)) (λ i. i, λ i. i))
]

-- a slot more stands in the lists
pub placed-more : (c old : ChainsValue) (n : ℕ) (ss : List Signal) (i : ℕ) (d : Signal) → i < length ss → (get_or ss i d).node.0 < length c.lists
    → ((m p : ℕ) → Within p (list_of c m) ↔ (Within p (list_of old m) ⊎ IsSlotBelow n ss i m p)) → (m p : ℕ)
    → Within p (list_of (with_place c (get_or ss i d).node.0 (place n i)) m) ↔ (Within p (list_of old m) ⊎ IsSlotBelow n ss (i + 1) m p)
placed-more c old n ss i d lt node so m p =
    let both = same-members c (get_or ss i d).node.0 (place n i) m p node in
    let more = linked-more c old n ss i d lt node so m p in
    (λ h. more.0 (both.0 h), λ h. both.1 (more.1 h))

-- ---- which slots name a node

-- each place is that of one slot
place-node : (a b i j : ℕ) → i < 6 → j < 6 → place a i ≡ place b j → a ≡ b
place-node a b i j p q e = omega arith

place-slot : (a b i j : ℕ) → i < 6 → j < 6 → place a i ≡ place b j → i ≡ j
place-slot a b i j p q e = let n = place-node a b i j p q e in omega arith

-- a slot that is that of a gate
slot-of : (a k j m : ℕ) (ss : List Signal) → j < 6 → length ss ≤ 6 → IsSlotOf k ss m (place a j) → (a ≡ k) × NamesNode m (slice_get ss j)
slot-of a k j m ss lt six s =
    let other : s.0 < 6 = (let w = names-within m s.0 ss s.2 in omega arith) in
    (place-node a k j s.0 lt other s.1, subst (λ i. NamesNode m (slice_get ss i)) (sym (place-slot a k j s.0 lt other s.1)) s.2)

names-same : (g h : Lookup) (m p j : ℕ) → h p ≡ g p → NamesNode m (slice_get (slots_at g p) j) → NamesNode m (slice_get (slots_at h p) j)
names-same g h m p j e = subst (λ o. NamesNode m (slice_get (at_entry [] fanins_of o) j)) (sym e)

names-none : (g : Lookup) (m p j : ℕ) → slots_at g p ≡ [] → NamesNode m (slice_get (slots_at g p) j) → ⊥
names-none g m p j none r = subst (λ (ss : List Signal). NamesNode m (slice_get ss j)) none r

-- ---- the lists where one entry changes

module _ (g h : Lookup) (k : ℕ) (same : (q : ℕ) → q ≢ k → h q ≡ g q) (c c2 : ChainsValue) (listed : AreListed c g) where
  -- its slots come in: before, it had none
  pub listed-more : slots_at g k ≡ [] → length (slots_at h k) ≤ 6 → ((m p : ℕ) → Within p (list_of c2 m) ↔ (Within p (list_of c m) ⊎ IsSlotOf k (slots_at h k) m p)) → AreListed c2 h
  listed-more none six named m a j lt = (
    λ i. elim ((named m (place a j)).0 i) as (λ _. NamesNode m (slice_get (slots_at h a) j)) [
      | inl old ↦ (let r = (listed m a j lt).0 old in elim (eqb_tells a k) as (λ _. NamesNode m (slice_get (slots_at h a) j)) [
        | inl e ↦ absurd (names-none g m k j none (subst (λ x. NamesNode m (slice_get (slots_at g x) j)) e.1 r))
        | inr e ↦ names-same g h m a j (same a e.1) r
      ])
      | inr s ↦ (let t = slot-of a k j m (slots_at h k) lt six s in subst (λ x. NamesNode m (slice_get (slots_at h x) j)) (sym t.0) t.1)
    ],
    λ r. elim (eqb_tells a k) as (λ _. Within (place a j) (list_of c2 m)) [
      | inl e ↦ (named m (place a j)).1 (inr (j, ap (λ x. place x j) e.1, subst (λ x. NamesNode m (slice_get (slots_at h x) j)) e.1 r))
      | inr e ↦ (named m (place a j)).1 (inl ((listed m a j lt).1 (names-same h g m a j (sym (same a e.1)) r)))
    ],
  )

  -- its slots go out: it has none then
  pub listed-less : slots_at h k ≡ [] → length (slots_at g k) ≤ 6 → ((m p : ℕ) → Within p (list_of c m) ↔ (Within p (list_of c2 m) ⊎ IsSlotOf k (slots_at g k) m p))
      → ((m p : ℕ) → Within p (list_of c2 m) → IsSlotOf k (slots_at g k) m p → ⊥) → AreListed c2 h
  listed-less none six named gone m a j lt = (
    λ i. elim (eqb_tells a k) as (λ _. NamesNode m (slice_get (slots_at h a) j)) [
      | inl e ↦ (let r = (listed m a j lt).0 ((named m (place a j)).1 (inl i)) in
          absurd (gone m (place a j) i (j, ap (λ x. place x j) e.1, subst (λ x. NamesNode m (slice_get (slots_at g x) j)) e.1 r)))
      | inr e ↦ names-same g h m a j (same a e.1) ((listed m a j lt).0 ((named m (place a j)).1 (inl i)))
    ],
    λ r. elim (eqb_tells a k) as (λ _. Within (place a j) (list_of c2 m)) [
      | inl e ↦ absurd (names-none h m k j none (subst (λ x. NamesNode m (slice_get (slots_at h x) j)) e.1 r))
      | inr e ↦ elim ((named m (place a j)).0 ((listed m a j lt).1 (names-same h g m a j (sym (same a e.1)) r))) as (λ _. Within (place a j) (list_of c2 m)) [
        | inl i ↦ i
        | inr s ↦ absurd (e.1 (slot-of a k j m (slots_at g k) lt six s).0)
      ]
    ],
  )

-- ---- what the calls ask

-- no place of a number without slots stands in a list
pub none-listed : (g : Lookup) (c : ChainsValue) (k : ℕ) → AreListed c g → slots_at g k ≡ [] → (m j : ℕ) → j < 6 → Within (place k j) (list_of c m) → ⊥
none-listed g c k listed none m j lt i = names-none g m k j none ((listed m k j lt).0 i)

-- each slot of a gate stands in its list
pub all-listed : (g : Lookup) (c : ChainsValue) (k : ℕ) → AreListed c g → length (slots_at g k) ≤ 6 → (m p : ℕ) → IsSlotOf k (slots_at g k) m p → Within p (list_of c m)
all-listed g c k listed six m p s = subst (λ x. Within x (list_of c m)) (sym s.1) ((listed m k s.0 (let w = names-within m s.0 (slots_at g k) s.2 in omega arith)).1 s.2)
