-- What the substitution of node 5 for gate 6 leaves of the worked network.
use Rattle.std.proofs.Common.{◌≡◌, ◌≢◌, ℕ, ◌<◌, ◌≤◌, false, cond, List, [], ◌∷◌, get_or, drop, IsSome, Option, None, Some, refl, sym, ap, subst, ◌∙◌, inl, inr, arith}
use Rattle.std.proofs.lemmas.Bool.Decides.{eqb_tells}
use Rattle.std.specs.Ordering.{nat_cmp, eq_by_cmp}
use Rattle.std.specs.List.{flat_map}
use Rattle.std.specs.FinMap.{find, get-from_sorted}
use Rattle.lnet_gates.specs.declared.signal.Signal.{Signal}
use Rattle.lnet_gates.specs.declared.gate.Kind.TheVariants.{Aig}
use Rattle.lnet_gates.specs.declared.gate.Op.TheVariants.{And}
use Rattle.lnet_gates.specs.declared.normal.Normal.TheVariants.{Gate}
use Rattle.lnet_gates.specs.Gates.{GateValue}
use Rattle.lnet_gates.specs.Natives.{IsNativeGate, normal_by_op}
use Rattle.lnet_gates.specs.NormalLaws.{replaced_in}
use Rattle.lnet_model.specs.Networks.{Entry, Constant, Input, IsGate, NetworkValue, IsLive, entry_at}
use Rattle.lnet_model.specs.Along.{In, Acyclic, IsWhole, IsWalk, Reaches, end_of, fanin_nodes, nodes_read}
use Rattle.lnet_model.specs.Changes.{GateAt, IsGateAt}
use Rattle.lnet_model.specs.Worked.{signal, and_of_nodes, worked_entries, worked_network}
use Rattle.lnet_model.proofs.WorkedRows.{worked-at}
use Rattle.lnet_model.proofs.Map.{tied, apart}
use Rattle.lnet_hashed.specs.Strashed.{IsStrashed, key_of, held_by}
use Rattle.lnet_substitution.specs.Replaced.{signal_of, redirected_entry, replaced}
use Rattle.lnet_substitution.specs.Representatives.{StandsFor}
use Rattle.lnet_substitution.specs.Substitutions.{CanSubstitute, IsMerged, Stays, Substitutes}
use Rattle.lnet_substitution.specs.Worked.{left_entries, left_network, stands_now}
use Rattle.lnet_substitution.proofs.Replaced.{nothing-some, replaced-some}

-- ---- a network whose entries are listed

-- R, given C of each entry
abbrev Given : (ℕ → Entry → Type 0) → List (ℕ × Entry) → Type 0 → Type 0
Given C [] R = R
Given C (y ∷ ys) R = C y.0 y.1 → Given C ys R

of-found : (C : ℕ → Entry → Type 0) (es : List (ℕ × Entry)) (R : Type 0) → (((n : ℕ) (e : Entry) → find nat_cmp n es ≡ Some e → C n e) → R) → Given C es R
of-found C [] R k = k (λ n e h. nothing-some e h)
of-found C (y ∷ ys) R k = λ here. of-found C ys R (λ rest. k (λ n e h.
    elim (eqb_tells n y.0) as (λ _. C n e) [
      | inl p ↦ (let at_key = ap (λ q. cond (eq_by_cmp nat_cmp q y.0) (Some y.1) (find nat_cmp q ys)) p.1 in
          let found : Some y.1 ≡ Some e = sym (at_key ∙ ap (λ b. cond b (Some y.1) (find nat_cmp y.0 ys)) (tied y.0)) ∙ h in
          let same : y.1 ≡ e = cc in subst (λ m. C m e) (sym p.1) (subst (C y.0) same here))
      | inr p ↦ rest n e (sym (ap (λ b. cond b (Some y.1) (find nat_cmp n ys)) (apart n y.0 p.1)) ∙ h)
    ]))

-- each number is live, and less than n
abbrev Below : List (ℕ × Entry) → ℕ → List ℕ → Type 0
Below es n [] = Unit {0}
Below es n (m ∷ ms) = (m < n) × IsSome (find nat_cmp m es) × Below es n ms

of-below : (es : List (ℕ × Entry)) (n : ℕ) (ms : List ℕ) → Below es n ms → (m : ℕ) → In m ms → (m < n) × IsSome (find nat_cmp m es)
of-below es n [] all m i = absurd i
of-below es n (k ∷ ks) all m (inl e) = subst (λ x. (x < n) × IsSome (find nat_cmp x es)) (sym e) (all.0, all.1)
of-below es n (k ∷ ks) all m (inr i) = of-below es n ks all.2 m i

-- what is said of gates alone
abbrev OfGate : (ℕ → GateValue → Type 0) → ℕ → Entry → Type 0
OfGate C n Constant = Unit {0}
OfGate C n (Input k) = Unit {0}
OfGate C n (IsGate g) = C n g

-- a gate of an Aig that reads live nodes before it, is its own normal form and alone has its key
abbrev IsGood : List (ℕ × Entry) → ℕ → GateValue → Type 0
IsGood es n g =
    Below es n (nodes_read g.fanins) × IsNativeGate Aig g × (normal_by_op g ≡ Gate (key_of g) g.phase) × (g.phase ≡ false)
    × (flat_map (λ e. held_by (key_of g) e.0 e.1) es ≡ signal n false ∷ [])

-- the constant, four inputs and the gates
abbrev listing : List (ℕ × Entry) → List (ℕ × Entry)
listing gs = (0, Constant) ∷ (1, Input 0) ∷ (2, Input 1) ∷ (3, Input 2) ∷ (4, Input 3) ∷ gs

module _ (N : NetworkValue) (gs : List (ℕ × Entry)) (listed : entry_at N ≡ (λ n. find nat_cmp n (listing gs))) where
  at : (n : ℕ) (e : Entry) → find nat_cmp n (listing gs) ≡ Some e → entry_at N n ≡ Some e
  at n e h = ap (λ f. f n) listed ∙ h

  every : (C : ℕ → Entry → Type 0) → Given C (listing gs) ((n : ℕ) (e : Entry) → entry_at N n ≡ Some e → C n e)
  every C = of-found C (listing gs) _ (λ f n e h. f n e (sym (ap (λ f. f n) listed) ∙ h))

  gates : (C : ℕ → GateValue → Type 0) → Given (OfGate C) gs ((n : ℕ) (g : GateValue) → GateAt N n g → C n g)
  gates C = of-found (OfGate C) (listing gs) _ (λ f n g h. f n (IsGate g) (sym (ap (λ f. f n) listed) ∙ h)) tt tt tt tt tt

  walk : (n : ℕ) (ns : List ℕ) → IsWalk (λ k. find nat_cmp k (listing gs)) n ns → IsWalk (entry_at N) n ns
  walk n ns w = subst (λ f. IsWalk f n ns) (sym listed) w

  module _ (good : (n : ℕ) (g : GateValue) → GateAt N n g → IsGood (listing gs) n g) where
    reads : (n : ℕ) (ms : List ℕ) → Below (listing gs) n ms → (m : ℕ) → In m ms → (m < n) × IsLive N m
    reads n ms below m i = let r = of-below (listing gs) n ms below m i in (r.0, subst IsSome (sym (ap (λ f. f m) listed)) r.1)

    fanins : (n : ℕ) (o : Option Entry) → entry_at N n ≡ o → (m : ℕ) → In m (fanin_nodes o) → (m < n) × IsLive N m
    fanins n None h m i = absurd i
    fanins n (Some Constant) h m i = absurd i
    fanins n (Some (Input k)) h m i = absurd i
    fanins n (Some (IsGate g)) h m i = reads n (nodes_read g.fanins) (good n g h).0 m i

    falls : (n : ℕ) (ns : List ℕ) → IsWalk (entry_at N) n ns → end_of n ns ≤ n
    falls n [] w = omega arith
    falls n (m ∷ ns) w = let a = (fanins n _ refl m w.1).0 in let b = falls m ns w.2 in omega arith

    acyclic : Acyclic N
    acyclic n m ns w is = let a = (fanins n _ refl m w.1).0 in let b = falls m ns w.2 in absurd (omega arith)

    whole : (n : ℕ) → Below (listing gs) n (nodes_read N.outputs) → IsWhole N
    whole n below = record { first = at 0 Constant refl; closed = λ k m i. (fanins k _ refl m i).1; outputs_live = λ m i. (reads n (nodes_read N.outputs) below m i).1 }

    strashed : IsStrashed Aig N
    strashed = record {
      native = λ n g h. (good n g h).1;
      own_form = λ n g h. (good n g h).2;
      and_phase = λ n g h is_and. (good n g h).3;
      apart = λ m n g h x y same. ap (λ (ss : List Signal). get_or (nodes_read ss) 0 0) (sym (good m g x).4 ∙ ap (λ k. flat_map (λ e. held_by k e.0 e.1) (listing gs)) same ∙ (good n h y).4);
    }

-- ---- the two networks

left-at : entry_at left_network ≡ (λ n. find nat_cmp n left_entries)
unfolding left_network entry_at
left-at i n = get-from_sorted nat_cmp left_entries n tt i

old : (n : ℕ) (e : Entry) → find nat_cmp n worked_entries ≡ Some e → entry_at worked_network n ≡ Some e
old = at worked_network (drop 5 worked_entries) worked-at

left : (n : ℕ) (e : Entry) → find nat_cmp n left_entries ≡ Some e → entry_at left_network n ≡ Some e
left = at left_network (drop 5 left_entries) left-at

abbrev and_gate : ℕ → ℕ → GateValue
and_gate a b = record { op = And; phase = false; fanins = signal a false ∷ signal b false ∷ [] }

native : (a b : ℕ) → IsNativeGate Aig (and_gate a b)
native a b = record { has = refl; takes = refl; fits = tt }

good-worked : (n : ℕ) (g : GateValue) → GateAt worked_network n g → IsGood worked_entries n g
good-worked =
    gates worked_network (drop 5 worked_entries) worked-at (IsGood worked_entries)
    ((omega arith, refl, (omega arith, refl, tt)), native 1 2, refl, refl, refl) ((omega arith, refl, (omega arith, refl, tt)), native 1 5, refl, refl, refl)
    ((omega arith, refl, (omega arith, refl, tt)), native 3 6, refl, refl, refl) ((omega arith, refl, (omega arith, refl, tt)), native 4 7, refl, refl, refl)
    ((omega arith, refl, (omega arith, refl, tt)), native 3 5, refl, refl, refl) ((omega arith, refl, (omega arith, refl, tt)), native 4 9, refl, refl, refl)

good-left : (n : ℕ) (g : GateValue) → GateAt left_network n g → IsGood left_entries n g
good-left =
    gates left_network (drop 5 left_entries) left-at (IsGood left_entries)
    ((omega arith, refl, (omega arith, refl, tt)), native 1 2, refl, refl, refl) ((omega arith, refl, (omega arith, refl, tt)), native 3 5, refl, refl, refl)
    ((omega arith, refl, (omega arith, refl, tt)), native 4 9, refl, refl, refl)

-- ---- the substitution

pub can-worked : CanSubstitute Aig worked_network 6 (signal 5 false)
unfolding worked_network
can-worked = record {
  acyclic = acyclic worked_network (drop 5 worked_entries) worked-at good-worked;
  whole = whole worked_network (drop 5 worked_entries) worked-at good-worked 11 (omega arith, refl, (omega arith, refl, tt));
  strashed = strashed worked_network (drop 5 worked_entries) worked-at good-worked;
  gate = (_, old 6 _ refl);
  live = subst IsSome (sym (old 5 _ refl)) refl;
  free = λ r. let a = falls worked_network (drop 5 worked_entries) worked-at good-worked 5 r.0 r.1 in let b = r.2 in absurd (omega arith);
}

abbrev LeafIn : NetworkValue → ℕ → Entry → Type 0
LeafIn N n Constant = entry_at N n ≡ Some Constant
LeafIn N n (Input k) = entry_at N n ≡ Some (Input k)
LeafIn N n (IsGate g) = Unit {0}

leaf-left : (n : ℕ) (e : Entry) → entry_at worked_network n ≡ Some e → LeafIn left_network n e
leaf-left = every worked_network (drop 5 worked_entries) worked-at (LeafIn left_network) (left 0 _ refl) (left 1 _ refl) (left 2 _ refl) (left 3 _ refl) (left 4 _ refl) tt tt tt tt tt tt

leaf-old : (n : ℕ) (e : Entry) → entry_at left_network n ≡ Some e → LeafIn worked_network n e
leaf-old = every left_network (drop 5 left_entries) left-at (LeafIn worked_network) (old 0 _ refl) (old 1 _ refl) (old 2 _ refl) (old 3 _ refl) (old 4 _ refl) tt tt tt

-- what is said of what stands for an entry of the replaced network
abbrev StandsIn : ℕ → Entry → Type 0
StandsIn n Constant = stands_now n ≡ signal_of n
StandsIn n (Input k) = stands_now n ≡ signal_of n
StandsIn n (IsGate g) = StandsFor left_network (normal_by_op (replaced_in stands_now g)) (stands_now n)

stands : (n : ℕ) (e : Entry) → entry_at (replaced worked_network 6 (signal 5 false)) n ≡ Some e → StandsIn n e
stands n e h =
    let r = replaced-some worked_network 6 (signal 5 false) n e h in
    let five : StandsIn 5 (and_of_nodes 1 2) = (and_gate 1 2, left 5 _ refl, refl, refl) in
    let nine : StandsIn 9 (and_of_nodes 3 5) = (and_gate 3 5, left 9 _ refl, refl, refl) in
    let ten : StandsIn 10 (and_of_nodes 4 9) = (and_gate 4 9, left 10 _ refl, refl, refl) in
    subst (StandsIn n) r.2
    (every worked_network (drop 5 worked_entries) worked-at (λ n x. n ≢ 6 → StandsIn n (redirected_entry 6 (signal 5 false) x))
    (λ _. refl) (λ _. refl) (λ _. refl) (λ _. refl) (λ _. refl) (λ _. five) (λ ne. absurd (ne refl)) (λ _. nine) (λ _. ten) (λ _. nine) (λ _. ten)
    n r.0 r.1 r.3)

pub merged-worked : IsMerged Aig worked_network 6 (signal 5 false) left_network stands_now
unfolding worked_network left_network replaced
merged-worked = record {
  leaves = record { kind = refl; inputs = refl; constant = λ n. (leaf-left n Constant, leaf-old n Constant); input = λ n k. (leaf-left n (Input k), leaf-old n (Input k)) };
  nodes = record {
    leaf = λ n leaf. elim leaf as (λ _. stands_now n ≡ signal_of n) [ inl h ↦ stands n Constant h | inr h ↦ stands n (Input h.0) h.1 ];
    gate = λ n g h. stands n (IsGate g) h;
  };
  outputs = refl;
  own =
      gates left_network (drop 5 left_entries) left-at (λ n g. (n ≢ 6) × IsGateAt worked_network n × (stands_now n ≡ signal_of n))
      (λ e. omega arith, (_, old 5 _ refl), refl) (λ e. omega arith, (_, old 9 _ refl), refl) (λ e. omega arith, (_, old 10 _ refl), refl);
  kept =
      gates worked_network (drop 5 worked_entries) worked-at (λ n g. (Reaches worked_network n 6 → ⊥) → GateAt left_network n g) (λ _. left 5 _ refl)
      (λ no. absurd (no ([], walk worked_network (drop 5 worked_entries) worked-at 6 [] refl, refl)))
      (λ no. absurd (no (6 ∷ [], walk worked_network (drop 5 worked_entries) worked-at 7 (6 ∷ []) (refl, inr (inl refl), refl), refl)))
      (λ no. absurd (no (7 ∷ 6 ∷ [], walk worked_network (drop 5 worked_entries) worked-at 8 (7 ∷ 6 ∷ []) (refl, inr (inl refl), (refl, inr (inl refl), refl)), refl)))
      (λ _. left 9 _ refl) (λ _. left 10 _ refl);
  strashed = strashed left_network (drop 5 left_entries) left-at good-left;
  acyclic = acyclic left_network (drop 5 left_entries) left-at good-left;
  whole = whole left_network (drop 5 left_entries) left-at good-left 11 (omega arith, refl, (omega arith, refl, tt));
}

stays : (n : ℕ) (ns : List ℕ) → IsWalk (λ k. find nat_cmp k left_entries) 10 ns → end_of 10 ns ≡ n → Stays worked_network left_network n
unfolding left_network
stays n ns w e = (10, inl (inl refl), (ns, walk left_network (drop 5 left_entries) left-at 10 ns w, e))

pub left-worked : Substitutes Aig worked_network 6 (signal 5 false) left_network
left-worked = record {
  merged = left_network;
  rep = stands_now;
  merges = merged-worked;
  drops = record {
    leaves = record { kind = refl; inputs = refl; constant = λ n. (λ h. h, λ h. h); input = λ n k. (λ h. h, λ h. h) };
    outputs = refl;
    gates =
        gates left_network (drop 5 left_entries) left-at (λ n g. GateAt left_network n g × Stays worked_network left_network n)
        (left 5 _ refl, stays 5 (9 ∷ 5 ∷ []) (refl, inr (inl refl), (refl, inr (inl refl), refl)) refl)
        (left 9 _ refl, stays 9 (9 ∷ []) (refl, inr (inl refl), refl) refl) (left 10 _ refl, stays 10 [] refl refl);
    stay = λ n g at s. at;
  };
}
