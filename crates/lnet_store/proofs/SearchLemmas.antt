-- A search comes to the nodes that walks come to.
use Rattle.std.proofs.Common.{Bool, ◌≡◌, ℕ, zero, suc, ◌+◌, ◌<◌, ◌≤◌, true, false, List, [], ◌∷◌, ◌++◌, length, length-append, take, get_or, IsSome, refl, sym, ap, subst, ◌∙◌, inl, inr, arith, get_or-set_same, get_or-set_other}
use Rattle.std.specs.Prelude.{◌⊎◌}
use Rattle.std.proofs.Math.ListN.{set}
use Rattle.std.proofs.lemmas.Bool.{cases_lt}
use Rattle.std.proofs.lemmas.Bool.Decides.{eqb_tells}
use Rattle.std.proofs.lemmas.List.{take_more}
use Rattle.std.specs.Ordering.{nat_cmp}
use Rattle.std.specs.FinMap.{FinMap, get, len}
use Rattle.lnet_gates.specs.declared.signal.Signal.{Signal}
use Rattle.lnet_model.specs.Networks.{Entry, Lookup}
use Rattle.lnet_model.specs.Along.{In, nodes_read, fanin_nodes, IsWalk, end_of}
use Rattle.lnet_model.proofs.Map.{Apart, count_apart}
use Rattle.lnet_model.proofs.Stored.{joined, joined-end}
use Rattle.lnet_store.specs.Search.{Comes, AreMarked, Enters, HasPlaces, IsUnderway}

-- ---- one more at the end of a list

in-left : (x y : ℕ) (xs : List ℕ) → In x xs → In x (xs ++ y ∷ [])
in-left x y [] i = absurd i
in-left x y (z ∷ zs) (inl e) = inl e
in-left x y (z ∷ zs) (inr i) = inr (in-left x y zs i)

in-last : (y : ℕ) (xs : List ℕ) → In y (xs ++ y ∷ [])
in-last y [] = inl refl
in-last y (x ∷ xs) = inr (in-last y xs)

in-either : (x y : ℕ) (xs : List ℕ) → In x (xs ++ y ∷ []) → In x xs ⊎ In x (y ∷ [])
in-either x y [] i = inr i
in-either x y (z ∷ zs) (inl e) = inl (inl e)
in-either x y (z ∷ zs) (inr i) = elim (in-either x y zs i) [ inl j ↦ inl (inr j) | inr j ↦ inr j ]

apart-more : (y : ℕ) (xs : List ℕ) → Apart xs → (In y xs → ⊥) → Apart (xs ++ y ∷ [])
apart-more y [] a fresh = (λ i. i, tt)
apart-more y (x ∷ xs) a fresh = (
  λ i. elim (in-either x y xs i) as (λ _. ⊥) [ inl j ↦ a.0 j | inr j ↦ elim j as (λ _. ⊥) [ inl e ↦ fresh (inl (sym e)) | inr k ↦ k ] ],
  apart-more y xs a.1 (λ i. fresh (inr i)),
)

get-left : (xs : List ℕ) (y i : ℕ) → i < length xs → get_or (xs ++ y ∷ []) i 0 ≡ get_or xs i 0
get-left [] y i lt = absurd (omega arith)
get-left (x ∷ xs) y zero lt = refl
get-left (x ∷ xs) y (suc i) lt = get-left xs y i (omega arith)

-- ---- marks

pub true-within : (marks : List Bool) (m : ℕ) → get_or marks m false ≡ true → m < length marks
true-within [] m e = let z : false ≡ true = e in cc
true-within (b ∷ bs) zero e = omega arith
true-within (b ∷ bs) (suc m) e = let h = true-within bs m e in omega arith

module _ (marks : List Bool) (queue : List ℕ) (h : AreMarked marks queue) (n : ℕ) where
  pub entered-new : Enters queue (queue ++ n ∷ []) (n ∷ [])
  entered-new = record {
    grows = (let e = length-append queue (n ∷ []) in omega arith);
    kept = λ i lt. get-left queue n i lt;
    old_in = λ m i. in-left m n queue i;
    added_in = λ m i. elim i as (λ _. In m (queue ++ n ∷ [])) [ inl is ↦ subst (λ z. In z (queue ++ n ∷ [])) (sym is) (in-last n queue) | inr j ↦ absurd j ];
    from = λ m i. in-either m n queue i;
  }

  not-in : get_or marks n false ≡ false → In n queue → ⊥
  not-in e i = let z : true ≡ false = sym (h.marked n i) ∙ e in cc

  pub marked-more : get_or marks n false ≡ false → n < length marks → AreMarked (set marks n true) (queue ++ n ∷ [])
  marked-more e lt = record {
    marked = λ m i. elim (eqb_tells m n) as (λ _. get_or (set marks n true) m false ≡ true) [
      | inl p ↦ ap (λ z. get_or (set marks n true) z false) p.1 ∙ get_or-set_same marks n true false lt
      | inr p ↦ get_or-set_other marks n m true false p.1 ∙ elim (in-either m n queue i) as (λ _. get_or marks m false ≡ true) [ inl j ↦ h.marked m j | inr j ↦ elim j as (λ _. get_or marks m false ≡ true) [ inl is ↦ absurd (p.1 is) | inr k ↦ absurd k ] ]
    ];
    listed = λ m is. elim (eqb_tells m n) as (λ _. In m (queue ++ n ∷ [])) [
      | inl p ↦ subst (λ z. In z (queue ++ n ∷ [])) (sym p.1) (in-last n queue)
      | inr p ↦ in-left m n queue (h.listed m (sym (get_or-set_other marks n m true false p.1) ∙ is))
    ];
    apart = apart-more n queue h.apart (not-in e);
  }

  pub place-left : (places : ℕ) → get_or marks n false ≡ false → HasPlaces queue (n ∷ []) places → length queue < places
  place-left places e has =
      let few = has (n ∷ queue) (not-in e, h.apart) (λ m i. elim i as (λ _. In m queue ⊎ In m (n ∷ [])) [ inl is ↦ inr (inl is) | inr j ↦ inl j ]) in
      omega arith

-- ---- the signals in turn

read-append : (m : ℕ) (ss : List Signal) (s : Signal) → In m (nodes_read (ss ++ s ∷ [])) → In m (nodes_read ss) ⊎ In m (s.node.0 ∷ [])
read-append m [] s i = inr i
read-append m (r ∷ rs) s (inl e) = inl (inl e)
read-append m (r ∷ rs) s (inr i) = elim (read-append m rs s i) [ inl j ↦ inl (inr j) | inr j ↦ inr j ]

read-left : (m : ℕ) (ss : List Signal) (s : Signal) → In m (nodes_read ss) → In m (nodes_read (ss ++ s ∷ []))
read-left m [] s i = absurd i
read-left m (r ∷ rs) s (inl e) = inl e
read-left m (r ∷ rs) s (inr i) = inr (read-left m rs s i)

read-last : (m : ℕ) (ss : List Signal) (s : Signal) → In m (s.node.0 ∷ []) → In m (nodes_read (ss ++ s ∷ []))
read-last m [] s i = i
read-last m (r ∷ rs) s i = inr (read-last m rs s i)

read-taken : (m : ℕ) (ss : List Signal) (i : ℕ) → In m (nodes_read (take i ss)) → In m (nodes_read ss)
read-taken m ss zero j = absurd j
read-taken m [] (suc i) j = absurd j
read-taken m (s ∷ ss) (suc i) (inl e) = inl e
read-taken m (s ∷ ss) (suc i) (inr j) = inr (read-taken m ss i j)

pub enters-more : (q0 q1 q2 : List ℕ) (ss : List Signal) (i : ℕ) (d : Signal) → i < length ss → Enters q0 q1 (nodes_read (take i ss)) → Enters q1 q2 ((get_or ss i d).node.0 ∷ []) → Enters q0 q2 (nodes_read (take (i + 1) ss))
enters-more q0 q1 q2 ss i d lt a b =
    let e = take_more ss i d lt in
    let g = a.grows in
    let h = b.grows in
    record {
      grows = omega arith;
      kept = λ k less. b.kept k (omega arith) ∙ a.kept k less;
      old_in = λ m j. b.old_in m (a.old_in m j);
      added_in = λ m j. elim (read-append m (take i ss) (get_or ss i d) (subst (λ (rs : List Signal). In m (nodes_read rs)) e j)) as (λ _. In m q2) [ inl k ↦ b.old_in m (a.added_in m k) | inr k ↦ b.added_in m k ];
      from = λ m j. elim (b.from m j) as (λ _. In m q0 ⊎ In m (nodes_read (take (i + 1) ss))) [
        | inl k ↦ elim (a.from m k) as (λ _. In m q0 ⊎ In m (nodes_read (take (i + 1) ss))) [ inl l ↦ inl l | inr l ↦ inr (subst (λ (rs : List Signal). In m (nodes_read rs)) (sym e) (read-left m (take i ss) (get_or ss i d) l)) ]
        | inr k ↦ inr (subst (λ (rs : List Signal). In m (nodes_read rs)) (sym e) (read-last m (take i ss) (get_or ss i d) k))
      ];
    }

read-at : (ss : List Signal) (i : ℕ) (d : Signal) (m : ℕ) → i < length ss → In m ((get_or ss i d).node.0 ∷ []) → In m (nodes_read ss)
read-at [] i d m lt j = absurd (omega arith)
read-at (s ∷ ss) zero d m lt (inl e) = inl e
read-at (s ∷ ss) zero d m lt (inr j) = absurd j
read-at (s ∷ ss) (suc i) d m lt j = inr (read-at ss i d m (omega arith) j)

pub places-more : (q0 q1 : List ℕ) (ss : List Signal) (i places : ℕ) (d : Signal) → i < length ss → Enters q0 q1 (nodes_read (take i ss)) → HasPlaces q0 (nodes_read ss) places → HasPlaces q1 ((get_or ss i d).node.0 ∷ []) places
places-more q0 q1 ss i places d lt a has ns apart from = has ns apart (λ m j. elim (from m j) as (λ _. In m q0 ⊎ In m (nodes_read ss)) [
  | inl k ↦ elim (a.from m k) as (λ _. In m q0 ⊎ In m (nodes_read ss)) [ inl l ↦ inl l | inr l ↦ inr (read-taken m ss i l) ]
  | inr k ↦ inr (read-at ss i d m lt k)
])

-- ---- walks

pub end-live : (g : Lookup) (n : ℕ) (ns : List ℕ) → IsWalk g n ns → IsSome (g (end_of n ns))
end-live g n [] w = w
end-live g n (m ∷ ns) w = end-live g m ns w.2

pub start-live : (g : Lookup) (n m : ℕ) → Comes g n m → IsSome (g n)
start-live g n m ([], w, e) = w
start-live g n m (k ∷ ks, w, e) = w.0

pub comes-live : (g : Lookup) (n m : ℕ) → Comes g n m → IsSome (g m)
comes-live g n m c = subst (λ z. IsSome (g z)) c.2 (end-live g n c.0 c.1)

pub comes-on : (g : Lookup) (n m o : ℕ) → Comes g n m → In o (fanin_nodes (g m)) → IsSome (g o) → Comes g n o
comes-on g n m o c i live =
    let step : IsWalk g (end_of n c.0) (o ∷ []) = subst (λ z. IsWalk g z (o ∷ [])) (sym c.2) (comes-live g n m c, i, live) in
    (c.0 ++ o ∷ [], joined g n c.0 (o ∷ []) c.1 step, joined-end n c.0 (o ∷ []))

pub places-live : (nodes : FinMap nat_cmp Entry) (queue added : List ℕ) (places : ℕ) → ((m : ℕ) → In m queue → IsSome (get nodes m)) → ((m : ℕ) → In m added → IsSome (get nodes m)) → len nodes ≤ places → HasPlaces queue added places
places-live nodes queue added places a b le ns apart from =
    let few = count_apart ns nodes apart (λ m i. elim (from m i) as (λ _. IsSome (get nodes m)) [ inl j ↦ a m j | inr j ↦ b m j ]) in
    omega arith

pub index-in : (xs : List ℕ) (i : ℕ) → i < length xs → In (get_or xs i 0) xs
index-in [] i lt = absurd (omega arith)
index-in (x ∷ xs) zero lt = inl refl
index-in (x ∷ xs) (suc i) lt = inr (index-in xs i (omega arith))

-- ---- the search

pub underway-first : (g : Lookup) (from : ℕ) (queue : List ℕ) → IsSome (g from) → Enters [] queue (from ∷ []) → IsUnderway g from queue 0
underway-first g from queue live e = record {
  reached = λ m i. elim (e.from m i) as (λ _. Comes g from m) [
    | inl j ↦ absurd j
    | inr j ↦ elim j as (λ _. Comes g from m) [ inl is ↦ ([], live, sym is) | inr k ↦ absurd k ]
  ];
  start = e.added_in from (inl refl);
  done = λ i m lt j. absurd (omega arith);
  within = omega arith;
}

module _ (g : Lookup) (from : ℕ) (queue : List ℕ) (head : ℕ) (u : IsUnderway g from queue head) where
  pub underway-live : (m : ℕ) → In m queue → IsSome (g m)
  underway-live m i = comes-live g from m (u.reached m i)

  pub underway-more : (queue2 : List ℕ) → head < length queue → ((m : ℕ) → In m (fanin_nodes (g (get_or queue head 0))) → IsSome (g m)) → Enters queue queue2 (fanin_nodes (g (get_or queue head 0))) → IsUnderway g from queue2 (head + 1)
  underway-more queue2 lt closed e =
      let here = index-in queue head lt in
      let grows = e.grows in
      record {
        reached = λ m i. elim (e.from m i) as (λ _. Comes g from m) [
          | inl j ↦ u.reached m j
          | inr j ↦ comes-on g from (get_or queue head 0) m (u.reached (get_or queue head 0) here) j (closed m j)
        ];
        start = e.old_in from u.start;
        done = λ i m less j. elim (cases_lt i head) as (λ _. In m queue2) [
          | inl before ↦ e.old_in m (u.done i m before (subst (λ z. In m (fanin_nodes (g z))) (e.kept i (omega arith)) j))
          | inr after ↦ (let is : i ≡ head = omega arith in e.added_in m (subst (λ z. In m (fanin_nodes (g z))) (ap (λ k. get_or queue2 k 0) is ∙ e.kept head lt) j))
        ];
        within = omega arith;
      }

  index-of : (xs : List ℕ) (m : ℕ) → In m xs → (i : ℕ) × (i < length xs) × (get_or xs i 0 ≡ m)
  index-of [] m j = absurd j
  index-of (x ∷ xs) m (inl e) = (0, omega arith, sym e)
  index-of (x ∷ xs) m (inr j) = let r = index-of xs m j in (suc r.0, (let lt = r.1 in omega arith), r.2)

  stays : length queue ≤ head → (n : ℕ) (ns : List ℕ) → In n queue → IsWalk g n ns → In (end_of n ns) queue
  stays le n [] i w = i
  stays le n (m ∷ ns) i w =
      let r = index-of queue n i in
      stays le m ns (u.done r.0 m (let lt = r.1 in omega arith) (subst (λ z. In m (fanin_nodes (g z))) (sym r.2) w.1)) w.2

  pub underway-all : length queue ≤ head → (o : ℕ) → Comes g from o → In o queue
  underway-all le o c = subst (λ z. In z queue) c.2 (stays le from c.0 u.start c.1)
