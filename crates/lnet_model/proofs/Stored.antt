-- What a store keeps of its network stays with each change.
use Rattle.std.proofs.Common.{Bool, ◌≡◌, ◌≢◌, ℕ, ◌+◌, ◌-◌, ◌<◌, true, false, cond, eqb, List, [], ◌∷◌, ◌++◌, map, length, IsSome, is_some, None, Some, refl, sym, ap, subst, ◌∙◌, inl, inr, arith, slice_get}
use Rattle.std.specs.Prelude.{◌⊎◌, count_by}
use Rattle.std.proofs.lemmas.Bool.Decides.{eqb_tells}
use Rattle.std.proofs.lemmas.Cmp.{nat_cmp_total}
use Rattle.std.proofs.lemmas.List.Sums.{sum_by-cons}
use Rattle.std.specs.FinMap.{len, len-insert, len-remove, same_map, nat_cmp-IsAntisymmetric}
use Rattle.lnet_gates.specs.declared.signal.Signal.{Signal}
use Rattle.lnet_gates.specs.Gates.{GateValue}
use Rattle.lnet_gates.specs.Plans.{Takes}
use Rattle.lnet_model.specs.Networks.{Entry, Constant, Input, IsGate, NetworkValue, Lookup, entry_at, live_count, IsLive}
use Rattle.lnet_model.specs.Along.{In, nodes_read, fanin_nodes, IsWalk, end_of, Reaches, Acyclic, IsClosed}
use Rattle.lnet_model.specs.Fanouts.{fan, references, IsParent}
use Rattle.lnet_model.specs.Changes.{with_entry, without, AreLive, GateAt, IsGateAt}
use Rattle.lnet_model.specs.Dags.{IsStored, NUMBERS}
use Rattle.lnet_model.proofs.Map.{len_positive}
use Rattle.lnet_model.proofs.Changes.{entered-constants, with-below, with_entry-here, with_entry-apart, without-here, without-apart, add-Acyclic, add-IsClosed}
use Rattle.lnet_model.proofs.Removals.{left-live, remove-Acyclic, remove-IsClosed}
use Rattle.lnet_model.proofs.Fan.{parent-in-fan}

-- networks that answer alike are one
pub same_network : (M N : NetworkValue) → M.kind ≡ N.kind → M.inputs ≡ N.inputs → M.outputs ≡ N.outputs → ((q : ℕ) → entry_at M q ≡ entry_at N q) → M ≡ N
unfolding entry_at
same_network M N k j o same =
    let e = same_map nat_cmp_total nat_cmp-IsAntisymmetric M.nodes N.nodes same in
    λ i. record { kind = k i; nodes = e i; inputs = j i; outputs = o i }

pub live-gate : (N : NetworkValue) (n : ℕ) → IsGateAt N n → IsLive N n
live-gate N n g = subst IsSome (sym g.1) refl

none-live : (N : NetworkValue) (n : ℕ) → entry_at N n ≡ None → IsLive N n → ⊥
none-live N n e h = let z : false ≡ true = subst IsSome e h in cc

-- with an entry at k all that was live is live
pub with-live : (N : NetworkValue) (k : ℕ) (e : Entry) (m : ℕ) → IsLive N m → IsLive (with_entry N k e) m
with-live N k e m h = elim (eqb_tells m k) as (λ _. IsLive (with_entry N k e) m) [
  | inl p ↦ subst (λ z. IsLive (with_entry N k e) z) (sym p.1) (subst IsSome (sym (with_entry-here N k e)) refl)
  | inr p ↦ subst IsSome (sym (with_entry-apart N k e m p.1)) h
]

with-arities : (N : NetworkValue) (k : ℕ) (g : GateValue) → Takes g.op (length g.fanins) → ((n : ℕ) (h : GateValue) → GateAt N n h → Takes h.op (length h.fanins)) → (n : ℕ) (h : GateValue) → GateAt (with_entry N k (IsGate g)) n h → Takes h.op (length h.fanins)
with-arities N k g takes old n h at = elim (eqb_tells n k) as (λ _. Takes h.op (length h.fanins)) [
  | inl p ↦ (
      let e : Some (IsGate g) ≡ Some (IsGate h) = sym (ap (entry_at (with_entry N k (IsGate g))) p.1 ∙ with_entry-here N k (IsGate g)) ∙ at in
      let same : g ≡ h = cc in
      subst (λ (z : GateValue). Takes z.op (length z.fanins)) same takes
      )
  | inr p ↦ old n h (sym (with_entry-apart N k (IsGate g) n p.1) ∙ at)
]

-- no input stands at k before or after
with-inputs : (N : NetworkValue) (k : ℕ) (g : GateValue) → ((j : ℕ) → entry_at N k ≡ Some (Input j) → ⊥) → ((n j : ℕ) → ((entry_at N n ≡ Some (Input j) → slice_get N.inputs j ≡ Some n) × (slice_get N.inputs j ≡ Some n → entry_at N n ≡ Some (Input j)))) → (n j : ℕ) → ((entry_at (with_entry N k (IsGate g)) n ≡ Some (Input j) → slice_get N.inputs j ≡ Some n) × (slice_get N.inputs j ≡ Some n → entry_at (with_entry N k (IsGate g)) n ≡ Some (Input j)))
with-inputs N k g apart old n j = elim (eqb_tells n k) as (λ _. (entry_at (with_entry N k (IsGate g)) n ≡ Some (Input j) → slice_get N.inputs j ≡ Some n) × (slice_get N.inputs j ≡ Some n → entry_at (with_entry N k (IsGate g)) n ≡ Some (Input j))) [
  | inl p ↦ (
    λ e. absurd (let z : Some (IsGate g) ≡ Some (Input j) = sym (ap (entry_at (with_entry N k (IsGate g))) p.1 ∙ with_entry-here N k (IsGate g)) ∙ e in cc),
    λ e. absurd (apart j (sym (ap (entry_at N) p.1) ∙ (old n j).1 e)),
  )
  | inr p ↦ (
    λ e. (old n j).0 (sym (with_entry-apart N k (IsGate g) n p.1) ∙ e),
    λ e. with_entry-apart N k (IsGate g) n p.1 ∙ (old n j).1 e,
  )
]

-- ---- a gate at a new number

module _ (N : NetworkValue) (k : ℕ) (g : GateValue) (stored : IsStored N) (free : entry_at N k ≡ None) (live : AreLive N (nodes_read g.fanins)) (takes : Takes g.op (length g.fanins)) (lt : k < NUMBERS) where
  pub stored-add : IsStored (with_entry N k (IsGate g))
  unfolding with_entry
  stored-add =
      let closed = add-IsClosed N k (IsGate g) stored.dag.closed free live in
      record {
        dag = record {
          acyclic = add-Acyclic N k (IsGate g) stored.dag.closed free live stored.dag.acyclic;
          closed = closed;
          arities = with-arities N k g takes stored.dag.arities;
        };
        whole = record {
          first = with_entry-apart N k (IsGate g) 0 (λ e. none-live N k free (subst (IsLive N) e (subst IsSome (sym stored.whole.first) refl))) ∙ stored.whole.first;
          closed = closed;
          outputs_live = λ m i. with-live N k (IsGate g) m (stored.whole.outputs_live m i);
        };
        constants = entered-constants N k (IsGate g) (λ e. (let z : IsGate g ≡ Constant = e in cc)) stored.constants;
        inputs = with-inputs N k g (λ j e. none-live N k free (subst IsSome (sym e) refl)) stored.inputs;
        below = with-below N k (IsGate g) lt stored.below;
        few_outputs = stored.few_outputs;
      }

  pub count-add : live_count (with_entry N k (IsGate g)) ≡ live_count N + 1
  unfolding live_count with_entry entry_at
  count-add = len-insert nat_cmp_total N.nodes k (IsGate g) ∙ ap (λ o. cond (is_some o) (len N.nodes) (len N.nodes + 1)) free

-- ---- walks

pub joined : (g : Lookup) (n : ℕ) (ns ms : List ℕ) → IsWalk g n ns → IsWalk g (end_of n ns) ms → IsWalk g n (ns ++ ms)
joined g n [] ms v w = w
joined g n (m ∷ ns) ms v w = (v.0, v.1, joined g m ns ms v.2 w)

pub joined-end : (n : ℕ) (ns ms : List ℕ) → end_of n (ns ++ ms) ≡ end_of (end_of n ns) ms
joined-end n [] ms = refl
joined-end n (m ∷ ns) ms = joined-end m ns ms

-- ---- another gate at a gate's number, from whose fanins no walk comes there

module _ (N : NetworkValue) (k : ℕ) (g : GateValue) (stored : IsStored N) (gate : IsGateAt N k) (live : AreLive N (nodes_read g.fanins)) (takes : Takes g.op (length g.fanins)) (free : (m : ℕ) → In m (nodes_read g.fanins) → Reaches N m k → ⊥) where
  live_old : (q : ℕ) → IsLive (with_entry N k (IsGate g)) q → IsLive N q
  live_old q h = elim (eqb_tells q k) as (λ _. IsLive N q) [
    | inl p ↦ subst (IsLive N) (sym p.1) (live-gate N k gate)
    | inr p ↦ subst IsSome (with_entry-apart N k (IsGate g) q p.1) h
  ]

  -- the walk comes to k by the old network, and the old network goes on from a new fanin to the walk's end
  abbrev Through : ℕ → List ℕ → Type 0
  Through n ns = Reaches N n k × ((m : ℕ) × In m (nodes_read g.fanins) × Reaches N m (end_of n ns))

  walk_old : (n : ℕ) (ns : List ℕ) → IsWalk (entry_at (with_entry N k (IsGate g))) n ns → IsWalk (entry_at N) n ns ⊎ Through n ns
  walk_old n [] w = inl (live_old n w)
  walk_old n (m ∷ ns) w =
      let rest = walk_old m ns w.2 in
      elim (eqb_tells n k) as (λ _. IsWalk (entry_at N) n (m ∷ ns) ⊎ Through n (m ∷ ns)) [
        | inl p ↦
            let here : Reaches N n k = ([], live_old n w.0, p.1) in
            let i : In m (nodes_read g.fanins) = subst (λ o. In m (fanin_nodes o)) (ap (entry_at (with_entry N k (IsGate g))) p.1 ∙ with_entry-here N k (IsGate g)) w.1 in
            elim rest as (λ _. IsWalk (entry_at N) n (m ∷ ns) ⊎ Through n (m ∷ ns)) [
              | inl v ↦ inr (here, (m, i, (ns, v, refl)))
              | inr t ↦ inr (here, t.1)
            ]
        | inr p ↦
            let i : In m (fanin_nodes (entry_at N n)) = subst (λ o. In m (fanin_nodes o)) (with_entry-apart N k (IsGate g) n p.1) w.1 in
            elim rest as (λ _. IsWalk (entry_at N) n (m ∷ ns) ⊎ Through n (m ∷ ns)) [
              | inl v ↦ inl (live_old n w.0, i, v)
              | inr t ↦ inr ((m ∷ t.0.0, (live_old n w.0, i, t.0.1), t.0.2), t.1)
            ]
      ]

  pub set-Acyclic : Acyclic (with_entry N k (IsGate g))
  set-Acyclic n m ns w is = elim (walk_old n (m ∷ ns) w) as (λ _. ⊥) [
    | inl v ↦ stored.dag.acyclic n m ns v is
    | inr t ↦
        let back = t.1.2 in
        let to = t.0 in
        let here : end_of t.1.0 back.0 ≡ n = back.2 ∙ is in
        free t.1.0 t.1.1 (back.0 ++ to.0, joined (entry_at N) t.1.0 back.0 to.0 back.1 (subst (λ z. IsWalk (entry_at N) z to.0) (sym here) to.1), joined-end t.1.0 back.0 to.0 ∙ ap (λ z. end_of z to.0) here ∙ to.2)
  ]

  set-IsClosed : IsClosed (with_entry N k (IsGate g))
  set-IsClosed n m i = with-live N k (IsGate g) m (elim (eqb_tells n k) as (λ _. IsLive N m) [
    | inl p ↦ live m (subst (λ o. In m (fanin_nodes o)) (ap (entry_at (with_entry N k (IsGate g))) p.1 ∙ with_entry-here N k (IsGate g)) i)
    | inr p ↦ stored.dag.closed n m (subst (λ o. In m (fanin_nodes o)) (with_entry-apart N k (IsGate g) n p.1) i)
  ])

  pub stored-set : IsStored (with_entry N k (IsGate g))
  unfolding with_entry
  stored-set = record {
    dag = record { acyclic = set-Acyclic; closed = set-IsClosed; arities = with-arities N k g takes stored.dag.arities };
    whole = record {
      first = with_entry-apart N k (IsGate g) 0 (λ e. let z : Some Constant ≡ Some (IsGate gate.0) = sym stored.whole.first ∙ ap (entry_at N) e ∙ gate.1 in cc) ∙ stored.whole.first;
      closed = set-IsClosed;
      outputs_live = λ m i. with-live N k (IsGate g) m (stored.whole.outputs_live m i);
    };
    constants = entered-constants N k (IsGate g) (λ e. (let z : IsGate g ≡ Constant = e in cc)) stored.constants;
    inputs = with-inputs N k g (λ j e. let z : Some (Input j) ≡ Some (IsGate gate.0) = sym e ∙ gate.1 in cc) stored.inputs;
    below = with-below N k (IsGate g) (stored.below k (live-gate N k gate)) stored.below;
    few_outputs = stored.few_outputs;
  }

  pub count-set : live_count (with_entry N k (IsGate g)) ≡ live_count N
  unfolding live_count with_entry entry_at
  count-set = len-insert nat_cmp_total N.nodes k (IsGate g) ∙ ap (λ b. cond b (len N.nodes) (len N.nodes + 1)) (live-gate N k gate)

-- ---- a gate that nothing names, removed

counted-one : (b : Bool) (c : ℕ) → b ≡ true → cond b 1 0 + c ≡ 0 → ⊥
counted-one true c e h = let k : 1 + c ≡ 0 = h in absurd (omega arith)
counted-one false c e h = cc

no-count : (n : ℕ) (os : List Signal) → count_by (λ (s : Signal). eqb s.node.0 n) os ≡ 0 → In n (nodes_read os) → ⊥
no-count n [] z i = i
no-count n (o ∷ os) z i =
    let both : cond (eqb o.node.0 n) 1 0 + count_by (λ (s : Signal). eqb s.node.0 n) os ≡ 0 = sym (sum_by-cons (λ (s : Signal). cond (eqb s.node.0 n) 1 0) o os) ∙ z in
    elim (eqb_tells o.node.0 n) as (λ _. ⊥) [
      | inl p ↦ counted-one (eqb o.node.0 n) (count_by (λ (s : Signal). eqb s.node.0 n) os) p.0 both
      | inr p ↦ (let rest : count_by (λ (s : Signal). eqb s.node.0 n) os ≡ 0 = omega arith in elim i as (λ _. ⊥) [ inl e ↦ p.1 (sym e) | inr j ↦ no-count n os rest j ])
    ]

no-pairs : (x : ℕ) (ps : List (ℕ × ℕ)) → length ps ≡ 0 → In x (map (λ p. p.0) ps) → ⊥
no-pairs x [] e i = i
no-pairs x (p ∷ ps) e i = absurd (omega arith)

module _ (N : NetworkValue) (n : ℕ) (none : references N n ≡ 0) where
  pub no-parent : (p : ℕ) → IsParent N n p → ⊥
  unfolding references
  no-parent p i = no-pairs p (fan N n) (omega arith) (parent-in-fan N n p i)

  pub no-output : In n (nodes_read N.outputs) → ⊥
  unfolding references
  no-output i = no-count n N.outputs (omega arith) i

module _ (N : NetworkValue) (k : ℕ) (stored : IsStored N) (gate : IsGateAt N k) (none : references N k ≡ 0) where
  live_now : (q : ℕ) → q ≢ k → IsLive N q → IsLive (without N k) q
  live_now q ne h = subst IsSome (sym (without-apart N k q ne)) h

  gate_then : (q : ℕ) (e : Entry) → entry_at (without N k) q ≡ Some e → entry_at N q ≡ Some e
  gate_then q e at = elim (eqb_tells q k) as (λ _. entry_at N q ≡ Some e) [
    | inl p ↦ (let z : None ≡ Some e = sym (ap (entry_at (without N k)) p.1 ∙ without-here N k) ∙ at in cc)
    | inr p ↦ sym (without-apart N k q p.1) ∙ at
  ]

  pub stored-remove : IsStored (without N k)
  unfolding without
  stored-remove = record {
    dag = record {
      acyclic = remove-Acyclic N k stored.dag.acyclic;
      closed = remove-IsClosed N k stored.dag.closed (no-parent N k none);
      arities = λ q h at. stored.dag.arities q h (gate_then q (IsGate h) at);
    };
    whole = record {
      first = without-apart N k 0 (λ e. let z : Some Constant ≡ Some (IsGate gate.0) = sym stored.whole.first ∙ ap (entry_at N) e ∙ gate.1 in cc) ∙ stored.whole.first;
      closed = remove-IsClosed N k stored.dag.closed (no-parent N k none);
      outputs_live = λ m i. live_now m (λ e. no-output N k none (subst (λ z. In z (nodes_read N.outputs)) e i)) (stored.whole.outputs_live m i);
    };
    constants = λ q at. stored.constants q (gate_then q Constant at);
    inputs = λ q j. (
      λ e. (stored.inputs q j).0 (gate_then q (Input j) e),
      λ e. (let at = (stored.inputs q j).1 e in without-apart N k q (λ is. let z : Some (Input j) ≡ Some (IsGate gate.0) = sym at ∙ ap (entry_at N) is ∙ gate.1 in cc) ∙ at),
    );
    below = λ q h. stored.below q (left-live N k q h);
    few_outputs = stored.few_outputs;
  }

  pub count-remove : live_count (without N k) + 1 ≡ live_count N
  unfolding live_count without entry_at
  count-remove =
      let one = len_positive N.nodes k (live-gate N k gate) in
      let fewer = len-remove nat_cmp_total N.nodes k ∙ ap (λ b. cond b (len N.nodes - 1) (len N.nodes)) (live-gate N k gate) in
      omega (arith, one, fewer)

-- ---- and back

pub set_back : (N : NetworkValue) (n : ℕ) (e f : Entry) → entry_at N n ≡ Some f → with_entry (with_entry N n e) n f ≡ N
unfolding with_entry
set_back N n e f at = same_network (with_entry (with_entry N n e) n f) N refl refl refl (λ q. elim (eqb_tells q n) as (λ _. entry_at (with_entry (with_entry N n e) n f) q ≡ entry_at N q) [
  | inl p ↦ ap (entry_at (with_entry (with_entry N n e) n f)) p.1 ∙ with_entry-here (with_entry N n e) n f ∙ sym (ap (entry_at N) p.1 ∙ at)
  | inr p ↦ with_entry-apart (with_entry N n e) n f q p.1 ∙ with_entry-apart N n e q p.1
])

pub put_back : (N : NetworkValue) (n : ℕ) (f : Entry) → entry_at N n ≡ Some f → with_entry (without N n) n f ≡ N
unfolding with_entry without
put_back N n f at = same_network (with_entry (without N n) n f) N refl refl refl (λ q. elim (eqb_tells q n) as (λ _. entry_at (with_entry (without N n) n f) q ≡ entry_at N q) [
  | inl p ↦ ap (entry_at (with_entry (without N n) n f)) p.1 ∙ with_entry-here (without N n) n f ∙ sym (ap (entry_at N) p.1 ∙ at)
  | inr p ↦ with_entry-apart (without N n) n f q p.1 ∙ without-apart N n q p.1
])

pub take_back : (N : NetworkValue) (n : ℕ) (e : Entry) → entry_at N n ≡ None → without (with_entry N n e) n ≡ N
unfolding with_entry without
take_back N n e none = same_network (without (with_entry N n e) n) N refl refl refl (λ q. elim (eqb_tells q n) as (λ _. entry_at (without (with_entry N n e) n) q ≡ entry_at N q) [
  | inl p ↦ ap (entry_at (without (with_entry N n e) n)) p.1 ∙ without-here (with_entry N n e) n ∙ sym (ap (entry_at N) p.1 ∙ none)
  | inr p ↦ without-apart (with_entry N n e) n q p.1 ∙ with_entry-apart N n e q p.1
])
