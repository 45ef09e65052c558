-- The network after each change, its references, and that what a store keeps stays.
use Rattle.std.proofs.Common.{◌≡◌, ◌≢◌, ℕ, zero, suc, ◌+◌, ◌<◌, true, false, cond, eqb, List, [], ◌∷◌, ◌++◌, map, length, length-append, IsSome, is_some, None, Some, get_or, refl, sym, ap, subst, ◌∙◌, inl, inr, arith, slice_get}
use Rattle.std.proofs.Math.ListN.{set}
use Rattle.std.specs.Prelude.{◌⊎◌}
use Rattle.std.specs.Ordering.{nat_cmp}
use Rattle.std.proofs.lemmas.Bool.{cases_lt}
use Rattle.std.proofs.lemmas.Bool.Decides.{eqb_tells}
use Rattle.std.proofs.lemmas.Cmp.{nat_cmp_total}
use Rattle.std.proofs.lemmas.List.{length-set}
use Rattle.std.proofs.lemmas.List.Sums.{sum_by-cons, sum_by-append, sum_by-set}
use Rattle.std.specs.FinMap.{FinMap, len, len-insert, insert, remove}
use Rattle.lnet_gates.specs.declared.signal.Node.{Node}
use Rattle.lnet_gates.specs.declared.signal.Signal.{Signal}
use Rattle.lnet_gates.specs.Gates.{GateValue}
use Rattle.lnet_model.specs.Networks.{NetworkValue, Entry, Constant, Input, IsGate, IsLive, entry_at, live_count}
use Rattle.lnet_model.specs.Along.{In, nodes_read, IsClosed}
use Rattle.lnet_model.specs.Fanouts.{references}
use Rattle.lnet_model.specs.Changes.{with_entry, without, GateAt}
use Rattle.lnet_model.specs.Dags.{IsStored, AreBelow, NUMBERS, OUTPUTS}
use Rattle.lnet_model.proofs.Changes.{entered-constants, with_entry-here, with_entry-apart, without-here, without-apart, add-Acyclic, add-IsClosed}
use Rattle.lnet_model.proofs.Stored.{take_back}
use Rattle.lnet_model.proofs.References.{names_in, references-changed, references-outputs}
use Rattle.lnet_store.specs.StoreValues.{with_input, with_new_output, with_output}
use Rattle.lnet_store.specs.Fields.{network_of, naming}
use Rattle.lnet_store.proofs.StoreLemmas.{length-nodes}

-- ---- the network after each change

module _ (nodes nodes2 : FinMap nat_cmp Entry) (inputs : List Node) (outputs : List Signal) (N : NetworkValue) (is : network_of nodes inputs outputs ≡ N) where
  pub network-with : (n : ℕ) (x : Entry) → nodes2 ≡ insert nodes n x → network_of nodes2 inputs outputs ≡ with_entry N n x
  unfolding network_of with_entry
  network-with n x e = ap (λ m. network_of m inputs outputs) e ∙ ap (λ M. with_entry M n x) is

  pub network-without : (n : ℕ) → nodes2 ≡ remove nodes n → network_of nodes2 inputs outputs ≡ without N n
  unfolding network_of without
  network-without n e = ap (λ m. network_of m inputs outputs) e ∙ ap (λ M. without M n) is

map-append : (ns : List Node) (n : Node) → map (λ (n : Node). n.0) (ns ++ n ∷ []) ≡ map (λ (n : Node). n.0) ns ++ n.0 ∷ []
map-append [] n = refl
map-append (m ∷ ns) n = ap (λ zs. m.0 ∷ zs) (map-append ns n)

pub network-input : (nodes nodes2 : FinMap nat_cmp Entry) (inputs inputs2 : List Node) (outputs : List Signal) (N : NetworkValue) → network_of nodes inputs outputs ≡ N → (n : Node) (k : ℕ) → k ≡ length inputs → nodes2 ≡ insert nodes n.0 (Input k) → inputs2 ≡ inputs ++ n ∷ [] → network_of nodes2 inputs2 outputs ≡ with_input N n.0
unfolding network_of with_input
network-input nodes nodes2 inputs inputs2 outputs N is n k at e i =
    ap (λ m. network_of m inputs2 outputs) (e ∙ ap (λ z. insert nodes n.0 (Input z)) (at ∙ sym (length-nodes inputs)))
    ∙ ap (λ (is : List Node). network_of (insert nodes n.0 (Input (length (map (λ (n : Node). n.0) inputs)))) is outputs) i
    ∙ ap (λ (ns : List ℕ). record (network_of nodes inputs outputs) { nodes = insert nodes n.0 (Input (length (map (λ (n : Node). n.0) inputs))); inputs = ns }) (map-append inputs n)
    ∙ ap (λ M. with_input M n.0) is

module _ (nodes : FinMap nat_cmp Entry) (inputs : List Node) (outputs outputs2 : List Signal) (N : NetworkValue) (is : network_of nodes inputs outputs ≡ N) where
  pub network-new_output : (s : Signal) → outputs2 ≡ outputs ++ s ∷ [] → network_of nodes inputs outputs2 ≡ with_new_output N s
  unfolding network_of with_new_output
  network-new_output s e = ap (network_of nodes inputs) e ∙ ap (λ M. with_new_output M s) is

  pub network-output : (k : ℕ) (s : Signal) → outputs2 ≡ set outputs k s → network_of nodes inputs outputs2 ≡ with_output N k s
  unfolding network_of with_output
  network-output k s e = ap (network_of nodes inputs) e ∙ ap (λ M. with_output M k s) is

-- ---- its references

module _ (N : NetworkValue) (k : ℕ) (g : GateValue) where
  pub refs-add : entry_at N k ≡ None → (m : ℕ) → references (with_entry N k (IsGate g)) m ≡ references N m + naming m g.fanins
  unfolding with_entry
  refs-add free m =
      let both = references-changed (with_entry N k (IsGate g)) N k (with_entry-apart N k (IsGate g)) refl m in
      let old = ap (names_in m) free in
      let new = ap (names_in m) (with_entry-here N k (IsGate g)) in
      omega arith

  pub refs-set : (h : GateValue) → GateAt N k h → (m : ℕ) → references (with_entry N k (IsGate g)) m + naming m h.fanins ≡ references N m + naming m g.fanins
  unfolding with_entry
  refs-set h at m =
      let both = references-changed (with_entry N k (IsGate g)) N k (with_entry-apart N k (IsGate g)) refl m in
      let old = ap (names_in m) at in
      let new = ap (names_in m) (with_entry-here N k (IsGate g)) in
      omega arith

  pub refs-without : GateAt N k g → (m : ℕ) → references (without N k) m + naming m g.fanins ≡ references N m
  unfolding without
  refs-without at m =
      let both = references-changed (without N k) N k (without-apart N k) refl m in
      let old = ap (names_in m) at in
      let new = ap (names_in m) (without-here N k) in
      omega arith

pub refs-input : (N : NetworkValue) (k : ℕ) → entry_at N k ≡ None → (m : ℕ) → references (with_input N k) m ≡ references N m
unfolding with_input entry_at with_entry
refs-input N k free m =
    let both = references-changed (with_input N k) N k (with_entry-apart N k (Input (length N.inputs))) refl m in
    let old = ap (names_in m) free in
    let new = ap (names_in m) (with_entry-here N k (Input (length N.inputs))) in
    omega arith

pub refs-new_output : (N : NetworkValue) (s : Signal) (m : ℕ) → references (with_new_output N s) m ≡ references N m + naming m (s ∷ [])
unfolding with_new_output
refs-new_output N s m =
    let both = references-outputs (with_new_output N s) N refl m in
    let more = sum_by-append (λ (s : Signal). cond (eqb s.node.0 m) 1 0) N.outputs (s ∷ []) in
    omega arith

pub refs-output : (N : NetworkValue) (k : ℕ) (s o : Signal) → k < length N.outputs → o ≡ get_or N.outputs k o → (m : ℕ) → references (with_output N k s) m + naming m (o ∷ []) ≡ references N m + naming m (s ∷ [])
unfolding with_output
refs-output N k s o lt is m =
    let both = references-outputs (with_output N k s) N refl m in
    let more = sum_by-set (λ (s : Signal). cond (eqb s.node.0 m) 1 0) N.outputs k s o lt in
    let here = ap (λ (s : Signal). cond {A = ℕ} (eqb s.node.0 m) 1 0) is in
    let old = sum_by-cons (λ (s : Signal). cond (eqb s.node.0 m) 1 0) o [] in
    let new = sum_by-cons (λ (s : Signal). cond (eqb s.node.0 m) 1 0) s [] in
    omega arith

-- ---- what a store keeps, with one more input

get-append : (xs : List ℕ) (x j : ℕ) → j < length xs → slice_get (xs ++ x ∷ []) j ≡ slice_get xs j
get-append [] x j lt = absurd (omega arith)
get-append (y ∷ ys) x zero lt = refl
get-append (y ∷ ys) x (suc j) lt = get-append ys x j (omega arith)

get-last : (xs : List ℕ) (x : ℕ) → slice_get (xs ++ x ∷ []) (length xs) ≡ Some x
get-last [] x = refl
get-last (y ∷ ys) x = get-last ys x

get-within : (xs : List ℕ) (j n : ℕ) → slice_get xs j ≡ Some n → j < length xs
get-within [] j n e = cc
get-within (x ∷ xs) zero n e = omega arith
get-within (x ∷ xs) (suc j) n e = let h = get-within xs j n e in omega arith

module _ (N : NetworkValue) (k : ℕ) (stored : IsStored N) (free : entry_at N k ≡ None) where
  apart-live : (m : ℕ) → IsLive N m → m ≢ k
  apart-live m h e = let z : false ≡ true = subst IsSome (ap (entry_at N) e ∙ free) h in cc

  input-there : (n j : ℕ) → entry_at (with_entry N k (Input (length N.inputs))) n ≡ Some (Input j) → slice_get (N.inputs ++ k ∷ []) j ≡ Some n
  input-there n j e = elim (eqb_tells n k) as (λ _. slice_get (N.inputs ++ k ∷ []) j ≡ Some n) [
    | inl p ↦ (
        let same : Some (Input (length N.inputs)) ≡ Some (Input j) = sym (ap (entry_at (with_entry N k (Input (length N.inputs)))) p.1 ∙ with_entry-here N k (Input (length N.inputs))) ∙ e in
        let is : length N.inputs ≡ j = cc in
        subst (λ z. slice_get (N.inputs ++ k ∷ []) z ≡ Some n) is (get-last N.inputs k ∙ ap (λ z. Some z) (sym p.1))
        )
    | inr p ↦ (
        let old = (stored.inputs n j).0 (sym (with_entry-apart N k (Input (length N.inputs)) n p.1) ∙ e) in
        get-append N.inputs k j (get-within N.inputs j n old) ∙ old
        )
  ]

  input-back : (n j : ℕ) → slice_get (N.inputs ++ k ∷ []) j ≡ Some n → entry_at (with_entry N k (Input (length N.inputs))) n ≡ Some (Input j)
  input-back n j e = elim (cases_lt j (length N.inputs)) as (λ _. entry_at (with_entry N k (Input (length N.inputs))) n ≡ Some (Input j)) [
    | inl lt ↦ (
        let old = (stored.inputs n j).1 (sym (get-append N.inputs k j lt) ∙ e) in
        with_entry-apart N k (Input (length N.inputs)) n (apart-live n (subst IsSome (sym old) refl)) ∙ old
        )
    | inr ge ↦ (
        let within = get-within (N.inputs ++ k ∷ []) j n e in
        let more = length-append N.inputs (k ∷ []) in
        let is : length N.inputs ≡ j = omega arith in
        let same : Some k ≡ Some n = sym (get-last N.inputs k) ∙ ap (slice_get (N.inputs ++ k ∷ [])) is ∙ e in
        let here : n ≡ k = cc in
        ap (entry_at (with_entry N k (Input (length N.inputs)))) here ∙ with_entry-here N k (Input (length N.inputs)) ∙ ap (λ z. Some (Input z)) is
        )
  ]

  input-gate : (n : ℕ) (h : GateValue) → GateAt (with_entry N k (Input (length N.inputs))) n h → GateAt N n h
  input-gate n h at = elim (eqb_tells n k) as (λ _. GateAt N n h) [
    | inl p ↦ (let z : Some (Input (length N.inputs)) ≡ Some (IsGate h) = sym (ap (entry_at (with_entry N k (Input (length N.inputs)))) p.1 ∙ with_entry-here N k (Input (length N.inputs))) ∙ at in cc)
    | inr p ↦ sym (with_entry-apart N k (Input (length N.inputs)) n p.1) ∙ at
  ]

  input-live : (m : ℕ) → IsLive N m → IsLive (with_entry N k (Input (length N.inputs))) m
  input-live m h = subst IsSome (sym (with_entry-apart N k (Input (length N.inputs)) m (apart-live m h))) h

  input-below : k < NUMBERS → AreBelow (with_entry N k (Input (length N.inputs))) NUMBERS
  input-below lt n h = elim (eqb_tells n k) as (λ _. n < NUMBERS) [
    | inl p ↦ subst (λ z. z < NUMBERS) (sym p.1) lt
    | inr p ↦ stored.below n (subst IsSome (with_entry-apart N k (Input (length N.inputs)) n p.1) h)
  ]

  pub stored-input : k < NUMBERS → IsStored (with_input N k)
  unfolding with_input entry_at with_entry
  stored-input lt =
      let closed : IsClosed (with_input N k) = add-IsClosed N k (Input (length N.inputs)) stored.dag.closed free (λ m i. absurd i) in
      record {
        dag = record {
          acyclic = add-Acyclic N k (Input (length N.inputs)) stored.dag.closed free (λ m i. absurd i) stored.dag.acyclic;
          closed = closed;
          arities = λ n h at. stored.dag.arities n h (input-gate n h at);
        };
        whole = record {
          first = with_entry-apart N k (Input (length N.inputs)) 0 (apart-live 0 (subst IsSome (sym stored.whole.first) refl)) ∙ stored.whole.first;
          closed = closed;
          outputs_live = λ m i. input-live m (stored.whole.outputs_live m i);
        };
        constants = entered-constants N k (Input (length N.inputs)) (λ e. (let z : Input (length N.inputs) ≡ Constant = e in cc)) stored.constants;
        inputs = λ n j. (input-there n j, input-back n j);
        below = input-below lt;
        few_outputs = stored.few_outputs;
      }

  pub count-input : live_count (with_input N k) ≡ live_count N + 1
  unfolding live_count with_input entry_at
  count-input = len-insert nat_cmp_total N.nodes k (Input (length N.inputs)) ∙ ap (λ o. cond (is_some o) (len N.nodes) (len N.nodes + 1)) free

pub input-was : (N : NetworkValue) (k : ℕ) → entry_at N k ≡ None → without (with_input N k) k ≡ record N { inputs = (with_input N k).inputs }
unfolding without with_input with_entry
input-was N k free = ap (λ (M : NetworkValue). record M { inputs = N.inputs ++ k ∷ [] }) (take_back N k (Input (length N.inputs)) free)

-- ---- with other outputs

in-append : (m : ℕ) (os : List Signal) (s : Signal) → In m (nodes_read (os ++ s ∷ [])) → In m (nodes_read os) ⊎ (m ≡ s.node.0)
in-append m [] s (inl e) = inr e
in-append m [] s (inr i) = absurd i
in-append m (o ∷ os) s (inl e) = inl (inl e)
in-append m (o ∷ os) s (inr i) = elim (in-append m os s i) [ inl j ↦ inl (inr j) | inr e ↦ inr e ]

in-set : (k m : ℕ) (s : Signal) (os : List Signal) → In m (nodes_read (set os k s)) → In m (nodes_read os) ⊎ (m ≡ s.node.0)
in-set k m s [] i = inl i
in-set zero m s (o ∷ os) (inl e) = inr e
in-set zero m s (o ∷ os) (inr i) = inl (inr i)
in-set (suc k) m s (o ∷ os) (inl e) = inl (inl e)
in-set (suc k) m s (o ∷ os) (inr i) = elim (in-set k m s os i) [ inl j ↦ inl (inr j) | inr e ↦ inr e ]

pub stored-new_output : (N : NetworkValue) (s : Signal) → IsStored N → IsLive N s.node.0 → length N.outputs < OUTPUTS → IsStored (with_new_output N s)
unfolding with_new_output entry_at
stored-new_output N s stored live few = record {
  dag = record { acyclic = stored.dag.acyclic; closed = stored.dag.closed; arities = stored.dag.arities };
  whole = record {
    first = stored.whole.first;
    closed = stored.whole.closed;
    outputs_live = λ m i. elim (in-append m N.outputs s i) as (λ _. IsLive N m) [ inl j ↦ stored.whole.outputs_live m j | inr e ↦ subst (IsLive N) (sym e) live ];
  };
  constants = stored.constants;
  inputs = stored.inputs;
  below = stored.below;
  few_outputs = (let e = length-append N.outputs (s ∷ []) in omega arith);
}

pub stored-output : (N : NetworkValue) (k : ℕ) (s : Signal) → IsStored N → IsLive N s.node.0 → IsStored (with_output N k s)
unfolding with_output entry_at
stored-output N k s stored live = record {
  dag = record { acyclic = stored.dag.acyclic; closed = stored.dag.closed; arities = stored.dag.arities };
  whole = record {
    first = stored.whole.first;
    closed = stored.whole.closed;
    outputs_live = λ m i. elim (in-set k m s N.outputs i) as (λ _. IsLive N m) [ inl j ↦ stored.whole.outputs_live m j | inr e ↦ subst (IsLive N) (sym e) live ];
  };
  constants = stored.constants;
  inputs = stored.inputs;
  below = stored.below;
  few_outputs = (let e = length-set N.outputs k s in let f = stored.few_outputs in omega arith);
}
