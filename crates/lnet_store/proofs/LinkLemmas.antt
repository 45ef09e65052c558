-- The chains stay those of the slots that name each node, with each change.
use Rattle.std.proofs.Common.{◌≡◌, ℕ, ◌+◌, ◌<◌, ◌≤◌, List, [], ◌∷◌, ◌++◌, length, get_or, cond, None, Some, slice_get, eqb, true, false, refl, sym, ap, subst, inl, inr, arith}
use Rattle.std.specs.Prelude.{◌⊎◌, ◌↔◌}
use Rattle.std.proofs.Math.ListN.{set}
use Rattle.std.proofs.lemmas.List.Sums.{sum_by-cons, sum_by-append, sum_by-set}
use Rattle.std.proofs.lemmas.Bool.Decides.{eqb_tells}
use Rattle.lnet_gates.specs.declared.signal.Signal.{Signal}
use Rattle.lnet_gates.specs.Gates.{GateValue}
use Rattle.lnet_model.specs.Networks.{NetworkValue, Constant, IsGate, Input, entry_at, fanins_of}
use Rattle.lnet_model.specs.Along.{at_entry}
use Rattle.lnet_model.specs.Changes.{with_entry, without, GateAt}
use Rattle.lnet_model.proofs.Changes.{with_entry-here, with_entry-apart, without-here, without-apart}
use Rattle.lnet_chains.specs.Lists.{ChainsValue, Within, list_of}
use Rattle.lnet_store.specs.StoreValues.{first_network, with_input, with_new_output, with_output}
use Rattle.lnet_store.specs.Fields.{naming}
use Rattle.lnet_store.specs.Linked.{NamesNode, IsReading, IsSlotOf, HasPlaces, AreLinked, place}
use Rattle.lnet_store.proofs.StoreLemmas.{first-entry, first-named}
use Rattle.lnet_store.proofs.ChangeLemmas.{refs-add, refs-set, refs-without, refs-input, refs-new_output, refs-output}
use Rattle.lnet_store.proofs.ChainSteps.{names-within}

-- each place is that of one slot
place-node : (a b i j : ℕ) → i < 6 → j < 6 → place a i ≡ place b j → a ≡ b
place-node a b i j p q e = omega arith

place-slot : (a b i j : ℕ) → i < 6 → j < 6 → place a i ≡ place b j → i ≡ j
place-slot a b i j p q e = let n = place-node a b i j p q e in omega arith

-- ---- which slots name a node

reading-same : (N M : NetworkValue) (m g j : ℕ) → entry_at M g ≡ entry_at N g → IsReading N m g j → IsReading M m g j
reading-same N M m g j e = subst (λ o. NamesNode m (slice_get (at_entry [] fanins_of o) j)) (sym e)

no-reading : (N : NetworkValue) (m k j : ℕ) → entry_at N k ≡ None → IsReading N m k j → ⊥
no-reading N m k j free r = subst (λ o. NamesNode m (slice_get (at_entry [] fanins_of o) j)) free r

pub gate-reads : (N : NetworkValue) (m k j : ℕ) (g : GateValue) (ss : List Signal) → ss ≡ g.fanins → entry_at N k ≡ Some (IsGate g) → IsReading N m k j → NamesNode m (slice_get ss j)
gate-reads N m k j g ss same at r = subst (λ (xs : List Signal). NamesNode m (slice_get xs j)) (sym same) (subst (λ o. NamesNode m (slice_get (at_entry [] fanins_of o) j)) at r)

reads-gate : (N : NetworkValue) (m k j : ℕ) (g : GateValue) (ss : List Signal) → ss ≡ g.fanins → entry_at N k ≡ Some (IsGate g) → NamesNode m (slice_get ss j) → IsReading N m k j
reads-gate N m k j g ss same at h = subst (λ o. NamesNode m (slice_get (at_entry [] fanins_of o) j)) (sym at) (subst (λ (xs : List Signal). NamesNode m (slice_get xs j)) same h)

-- a slot that is that of a gate
slot-of : (a k j m : ℕ) (ss : List Signal) → j < 6 → length ss ≤ 6 → IsSlotOf k ss m (place a j) → (a ≡ k) × NamesNode m (slice_get ss j)
slot-of a k j m ss lt six s =
    let other : s.0 < 6 = (let w = names-within m s.0 ss s.2 in omega arith) in
    (place-node a k j s.0 lt other s.1, subst (λ i. NamesNode m (slice_get ss i)) (sym (place-slot a k j s.0 lt other s.1)) s.2)

slot-at : (a k j m : ℕ) (ss : List Signal) → a ≡ k → NamesNode m (slice_get ss j) → IsSlotOf k ss m (place a j)
slot-at a k j m ss e h = (j, ap (λ x. place x j) e, h)

-- ---- what the calls ask

-- no slot of a free number stands in a chain
pub none-linked : (c : ChainsValue) (room : ℕ) (N : NetworkValue) (k : ℕ) → AreLinked c room N → entry_at N k ≡ None → (m j : ℕ) → j < 6 → Within (place k j) (list_of c m) → ⊥
none-linked c room N k L free m j lt h = no-reading N m k j free ((L.named m k j lt).0 h)

module _ (c : ChainsValue) (room : ℕ) (N : NetworkValue) (k : ℕ) (g : GateValue) (ss : List Signal) (same : ss ≡ g.fanins) (six : length ss ≤ 6) (L : AreLinked c room N) (at : GateAt N k g) where
  -- each slot of a gate stands in its chain
  pub gate-linked : (m p : ℕ) → IsSlotOf k ss m p → Within p (list_of c m)
  gate-linked m p s = subst (λ x. Within x (list_of c m)) (sym s.1) ((L.named m k s.0 (let w = names-within m s.0 ss s.2 in omega arith)).1 (reads-gate N m k s.0 g ss same at s.2))

  -- a place of the gate that stands in a chain is that of a slot that names its node
  pub gate-slots : (m j : ℕ) → j < 6 → Within (place k j) (list_of c m) → IsSlotOf k ss m (place k j)
  gate-slots m j lt h = slot-at k k j m ss refl (gate-reads N m k j g ss same at ((L.named m k j lt).0 h))

  -- and where its slots were taken out, none does
  pub gate-unlinked : (c1 : ChainsValue) → ((m p : ℕ) → Within p (list_of c m) ↔ (Within p (list_of c1 m) ⊎ IsSlotOf k ss m p)) → ((m p : ℕ) → Within p (list_of c1 m) → IsSlotOf k ss m p → ⊥) →
      (m j : ℕ) → j < 6 → Within (place k j) (list_of c1 m) → ⊥
  gate-unlinked c1 named gone m j lt h = gone m (place k j) h (slot-at k k j m ss refl (gate-reads N m k j g ss same at ((L.named m k j lt).0 ((named m (place k j)).1 (inl h)))))

-- ---- each change

pub linked-add : (c c2 : ChainsValue) (room room2 : ℕ) (N : NetworkValue) (k : ℕ) (g : GateValue) (ss : List Signal) → ss ≡ g.fanins → length ss ≤ 6 → entry_at N k ≡ None → AreLinked c room N →
    HasPlaces c2 → room2 ≤ length c2.lists → ((m p : ℕ) → Within p (list_of c2 m) ↔ (Within p (list_of c m) ⊎ IsSlotOf k ss m p)) →
    ((m : ℕ) → length (list_of c2 m) ≡ length (list_of c m) + naming m ss) → AreLinked c2 room2 (with_entry N k (IsGate g))
unfolding with_entry
linked-add c c2 room room2 N k g ss same six free L places fits named counted = record {
  places = places;
  fits = fits;
  named = λ m a j lt. (
    λ h. elim ((named m (place a j)).0 h) as (λ _. IsReading (with_entry N k (IsGate g)) m a j) [
      | inl old ↦ (let r = (L.named m a j lt).0 old in elim (eqb_tells a k) as (λ _. IsReading (with_entry N k (IsGate g)) m a j) [
        | inl e ↦ absurd (no-reading N m k j free (subst (λ x. IsReading N m x j) e.1 r))
        | inr e ↦ reading-same N (with_entry N k (IsGate g)) m a j (with_entry-apart N k (IsGate g) a e.1) r
      ])
      | inr s ↦ (let t = slot-of a k j m ss lt six s in
          subst (λ x. IsReading (with_entry N k (IsGate g)) m x j) (sym t.0) (reads-gate (with_entry N k (IsGate g)) m k j g ss same (with_entry-here N k (IsGate g)) t.1))
    ],
    λ r. elim (eqb_tells a k) as (λ _. Within (place a j) (list_of c2 m)) [
      | inl e ↦ (named m (place a j)).1 (inr (slot-at a k j m ss e.1
          (gate-reads (with_entry N k (IsGate g)) m k j g ss same (with_entry-here N k (IsGate g)) (subst (λ x. IsReading (with_entry N k (IsGate g)) m x j) e.1 r))))
      | inr e ↦ (named m (place a j)).1 (inl ((L.named m a j lt).1 (reading-same (with_entry N k (IsGate g)) N m a j (sym (with_entry-apart N k (IsGate g) a e.1)) r)))
    ],
  );
  counted = λ m.
      let a = counted m in
      let b = L.counted m in
      let d = refs-add N k g free m in
      let e = ap (naming m) same in
      omega arith;
}

pub linked-remove : (c c2 : ChainsValue) (room room2 : ℕ) (N : NetworkValue) (k : ℕ) (g : GateValue) (ss : List Signal) → ss ≡ g.fanins → length ss ≤ 6 → GateAt N k g → AreLinked c room N →
    HasPlaces c2 → room2 ≤ length c2.lists → ((m p : ℕ) → Within p (list_of c m) ↔ (Within p (list_of c2 m) ⊎ IsSlotOf k ss m p)) → ((m p : ℕ) → Within p (list_of c2 m) → IsSlotOf k ss m p → ⊥) →
    ((m : ℕ) → length (list_of c2 m) + naming m ss ≡ length (list_of c m)) → AreLinked c2 room2 (without N k)
unfolding without
linked-remove c c2 room room2 N k g ss same six at L places fits named gone counted = record {
  places = places;
  fits = fits;
  named = λ m a j lt. (
    λ h. elim (eqb_tells a k) as (λ _. IsReading (without N k) m a j) [
      | inl e ↦ absurd (gate-unlinked c room N k g ss same six L at c2 named gone m j lt (subst (λ x. Within (place x j) (list_of c2 m)) e.1 h))
      | inr e ↦ reading-same N (without N k) m a j (without-apart N k a e.1) ((L.named m a j lt).0 ((named m (place a j)).1 (inl h)))
    ],
    λ r. elim (eqb_tells a k) as (λ _. Within (place a j) (list_of c2 m)) [
      | inl e ↦ absurd (no-reading (without N k) m k j (without-here N k) (subst (λ x. IsReading (without N k) m x j) e.1 r))
      | inr e ↦ elim ((named m (place a j)).0 ((L.named m a j lt).1 (reading-same (without N k) N m a j (sym (without-apart N k a e.1)) r))) as (λ _. Within (place a j) (list_of c2 m)) [
        | inl h ↦ h
        | inr s ↦ absurd (e.1 (slot-of a k j m ss lt six s).0)
      ]
    ],
  );
  counted = λ m.
      let a = counted m in
      let b = L.counted m in
      let d = refs-without N k g at m in
      let e = ap (naming m) same in
      omega arith;
}

-- one gate in place of another
pub linked-set : (c c1 c2 : ChainsValue) (room room2 : ℕ) (N : NetworkValue) (k : ℕ) (g h : GateValue) (ss rs : List Signal) → ss ≡ g.fanins → rs ≡ h.fanins → length ss ≤ 6 → length rs ≤ 6 →
    GateAt N k h → AreLinked c room N → HasPlaces c2 → room2 ≤ length c2.lists → ((m p : ℕ) → Within p (list_of c m) ↔ (Within p (list_of c1 m) ⊎ IsSlotOf k rs m p)) →
    ((m p : ℕ) → Within p (list_of c1 m) → IsSlotOf k rs m p → ⊥) → ((m : ℕ) → length (list_of c1 m) + naming m rs ≡ length (list_of c m)) →
    ((m p : ℕ) → Within p (list_of c2 m) ↔ (Within p (list_of c1 m) ⊎ IsSlotOf k ss m p)) → ((m : ℕ) → length (list_of c2 m) ≡ length (list_of c1 m) + naming m ss) →
    AreLinked c2 room2 (with_entry N k (IsGate g))
unfolding with_entry
linked-set c c1 c2 room room2 N k g h ss rs same is six old_six at L places fits taken gone fewer named counted = record {
  places = places;
  fits = fits;
  named = λ m a j lt. (
    λ w. elim ((named m (place a j)).0 w) as (λ _. IsReading (with_entry N k (IsGate g)) m a j) [
      | inl old ↦ elim (eqb_tells a k) as (λ _. IsReading (with_entry N k (IsGate g)) m a j) [
        | inl e ↦ absurd (gate-unlinked c room N k h rs is old_six L at c1 taken gone m j lt (subst (λ x. Within (place x j) (list_of c1 m)) e.1 old))
        | inr e ↦ reading-same N (with_entry N k (IsGate g)) m a j (with_entry-apart N k (IsGate g) a e.1) ((L.named m a j lt).0 ((taken m (place a j)).1 (inl old)))
      ]
      | inr s ↦ (let t = slot-of a k j m ss lt six s in
          subst (λ x. IsReading (with_entry N k (IsGate g)) m x j) (sym t.0) (reads-gate (with_entry N k (IsGate g)) m k j g ss same (with_entry-here N k (IsGate g)) t.1))
    ],
    λ r. elim (eqb_tells a k) as (λ _. Within (place a j) (list_of c2 m)) [
      | inl e ↦ (named m (place a j)).1 (inr (slot-at a k j m ss e.1
          (gate-reads (with_entry N k (IsGate g)) m k j g ss same (with_entry-here N k (IsGate g)) (subst (λ x. IsReading (with_entry N k (IsGate g)) m x j) e.1 r))))
      | inr e ↦ (named m (place a j)).1 (elim ((taken m (place a j)).0 ((L.named m a j lt).1 (reading-same (with_entry N k (IsGate g)) N m a j (sym (with_entry-apart N k (IsGate g) a e.1)) r)))
          as (λ _. Within (place a j) (list_of c1 m) ⊎ IsSlotOf k ss m (place a j)) [
            | inl w ↦ inl w
            | inr s ↦ absurd (e.1 (slot-of a k j m rs lt old_six s).0)
          ])
    ],
  );
  counted = λ m.
      let a = counted m in
      let b = L.counted m in
      let f = fewer m in
      let d = refs-set N k g h at m in
      let e = ap (naming m) same in
      let i = ap (naming m) is in
      omega arith;
}

-- outputs that name a node
naming-append : (m : ℕ) (os : List Signal) (s : Signal) → naming m (os ++ s ∷ []) ≡ naming m os + naming m (s ∷ [])
naming-append m os s = sum_by-append (λ (s : Signal). cond (eqb s.node.0 m) 1 0) os (s ∷ [])

naming-set : (m : ℕ) (os : List Signal) (k : ℕ) (s o : Signal) → k < length os → o ≡ get_or os k o → naming m (set os k s) + naming m (o ∷ []) ≡ naming m os + naming m (s ∷ [])
naming-set m os k s o lt is =
    let more = sum_by-set (λ (s : Signal). cond (eqb s.node.0 m) 1 0) os k s o lt in
    let here = ap (λ (s : Signal). cond {A = ℕ} (eqb s.node.0 m) 1 0) is in
    let old = sum_by-cons (λ (s : Signal). cond (eqb s.node.0 m) 1 0) o [] in
    let new = sum_by-cons (λ (s : Signal). cond (eqb s.node.0 m) 1 0) s [] in
    omega arith

-- node 0 alone
first-reads-none : (m a j : ℕ) → IsReading first_network m a j → ⊥
first-reads-none m a j r = elim (eqb a 0) as (λ b. NamesNode m (slice_get (at_entry [] fanins_of (cond b (Some Constant) None)) j) → ⊥) [ true ↦ λ h. h | false ↦ λ h. h ]
    (subst (λ o. NamesNode m (slice_get (at_entry [] fanins_of o) j)) (first-entry a) r)

pub linked-first : (c : ChainsValue) (room : ℕ) → HasPlaces c → room ≤ length c.lists → ((m : ℕ) → list_of c m ≡ []) → AreLinked c room first_network
unfolding first_network
linked-first c room places fits empty = record {
  places = places;
  fits = fits;
  named = λ m a j lt. (λ h. absurd (subst (λ xs. Within (place a j) xs) (empty m) h), λ r. absurd (first-reads-none m a j r));
  counted = λ m. (let e = ap (λ (xs : List ℕ). length xs) (empty m) in let d = first-named m in omega arith);
}

-- the chains stay as they are
module _ (c c2 : ChainsValue) (room room2 : ℕ) (N : NetworkValue) (L : AreLinked c room N) (places : HasPlaces c2) (fits : room2 ≤ length c2.lists) (stay : (m : ℕ) → list_of c2 m ≡ list_of c m) where
  pub linked-same : AreLinked c2 room2 N
  linked-same = record {
    places = places;
    fits = fits;
    named = λ m a j lt. (λ h. (L.named m a j lt).0 (subst (λ xs. Within (place a j) xs) (stay m) h), λ r. subst (λ xs. Within (place a j) xs) (sym (stay m)) ((L.named m a j lt).1 r));
    counted = λ m. (let e = ap (λ (xs : List ℕ). length xs) (stay m) in let b = L.counted m in omega arith);
  }

module _ (c : ChainsValue) (room room2 : ℕ) (N : NetworkValue) (L : AreLinked c room N) (fits : room2 ≤ length c.lists) where
  pub linked-input : (k : ℕ) → entry_at N k ≡ None → AreLinked c room2 (with_input N k)
  unfolding with_input with_entry entry_at
  linked-input k free = record {
    places = L.places;
    fits = fits;
    named = λ m a j lt. elim (eqb_tells a k) as (λ _. Within (place a j) (list_of c m) ↔ IsReading (with_input N k) m a j) [
      | inl e ↦ (
        λ h. absurd (no-reading N m k j free (subst (λ x. IsReading N m x j) e.1 ((L.named m a j lt).0 h))),
        λ r. absurd (input-reads m a j (subst (λ x. entry_at (with_entry N k (Input (length N.inputs))) x ≡ Some (Input (length N.inputs))) (sym e.1)
            (with_entry-here N k (Input (length N.inputs)))) r),
      )
      | inr e ↦ (
        λ h. reading-same N (with_entry N k (Input (length N.inputs))) m a j (with_entry-apart N k (Input (length N.inputs)) a e.1) ((L.named m a j lt).0 h),
        λ r. (L.named m a j lt).1 (reading-same (with_entry N k (Input (length N.inputs))) N m a j (sym (with_entry-apart N k (Input (length N.inputs)) a e.1)) r),
      )
    ];
    counted = λ m. (let b = L.counted m in let d = refs-input N k free m in omega arith);
  }
    where
      input-reads : (m a j : ℕ) → entry_at (with_entry N k (Input (length N.inputs))) a ≡ Some (Input (length N.inputs)) → IsReading (with_entry N k (Input (length N.inputs))) m a j → ⊥
      input-reads m a j at r = subst (λ o. NamesNode m (slice_get (at_entry [] fanins_of o) j)) at r

  pub linked-new_output : (s : Signal) → AreLinked c room2 (with_new_output N s)
  unfolding with_new_output entry_at
  linked-new_output s = record {
    places = L.places;
    fits = fits;
    named = L.named;
    counted = λ m. (let b = L.counted m in let d = refs-new_output N s m in let e = naming-append m N.outputs s in omega arith);
  }

  pub linked-output : (k : ℕ) (s o : Signal) → k < length N.outputs → o ≡ get_or N.outputs k o → AreLinked c room2 (with_output N k s)
  unfolding with_output entry_at
  linked-output k s o lt is = record {
    places = L.places;
    fits = fits;
    named = L.named;
    counted = λ m. (let b = L.counted m in let d = refs-output N k s o lt is m in let e = naming-set m N.outputs k s o lt is in omega arith);
  }
