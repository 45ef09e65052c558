-- A store's fields as its network.
use Rattle.std.proofs.Common.{Result, Ok, Err, OnOk, Bool, ◌≤◌, get_or, ◌++◌, slice_index, cond, eqb, true, false, lit<, ◌≡◌, ℕ, zero, suc, ◌<◌, List, [], ◌∷◌, map, length, IsSome, IfSome, Option, None, Some, slice_get, inl, inr, refl, sym, ap, subst, ◌∙◌, arith}
use Rattle.std.specs.Ordering.{nat_cmp}
use Rattle.std.specs.FinMap.{FinMap, get, len, insert, empty, get-empty}
use Rattle.std.proofs.lemmas.Bool.Decides.{eqb_tells}
use Rattle.lnet_gates.specs.Gates.{GateValue}
use Rattle.lnet_model.specs.Fanouts.{fan, references, slots_naming}
use Rattle.lnet_model.proofs.Rising.{entries-by_number}
use Rattle.lnet_model.proofs.Map.{insert_here, insert_apart}
use Rattle.lnet_gates.specs.declared.signal.Node.{Node}
use Rattle.lnet_gates.specs.declared.signal.Signal.{Signal}
use Rattle.lnet_model.specs.Networks.{fanins_of, Entry, Constant, Input, IsGate, NetworkValue, entry_at, live_count, IsLive}
use Rattle.lnet_model.specs.Along.{at_entry, In, nodes_read, fanin_nodes}
use Rattle.lnet_model.specs.Dags.{IsStored, AreBelow, NUMBERS}
use Rattle.lnet_store.specs.StoreValues.{first_network}
use Rattle.lnet_store.specs.Held.{Numbered, IsFitting}
use Rattle.lnet_store.specs.Fields.{network_of, AreReferences, HasRoom}

module _ (nodes : FinMap nat_cmp Entry) (inputs : List Node) (outputs : List Signal) (N : NetworkValue) (is : network_of nodes inputs outputs ≡ N) where
  pub entry-of : (n : ℕ) → get nodes n ≡ entry_at N n
  unfolding network_of entry_at
  entry-of n = ap (λ M. entry_at M n) is

  pub live-of : len nodes ≡ live_count N
  unfolding network_of live_count
  live-of = ap live_count is

  pub inputs-of : map (λ (n : Node). n.0) inputs ≡ N.inputs
  unfolding network_of
  inputs-of = ap (λ (M : NetworkValue). M.inputs) is

  pub outputs-of : outputs ≡ N.outputs
  unfolding network_of
  outputs-of = ap (λ (M : NetworkValue). M.outputs) is

read-In : (os : List Signal) (k : ℕ) (s : Signal) → Some s ≡ slice_get os k → In s.node.0 (nodes_read os)
read-In [] k s e = cc
read-In (o ∷ os) zero s e = inl (let z : s ≡ o = cc in ap (λ (s : Signal). s.node.0) z)
read-In (o ∷ os) (suc k) s e = inr (read-In os k s e)

pub output-live : (N : NetworkValue) (k : ℕ) (r : Option Signal) → IsStored N → r ≡ slice_get N.outputs k → IfSome r (λ s. IsLive N s.node.0)
output-live N k None stored e = tt
output-live N k (Some s) stored e = stored.whole.outputs_live s.node.0 (read-In N.outputs k s e)

pub length-nodes : (ns : List Node) → length (map (λ (n : Node). n.0) ns) ≡ length ns
length-nodes [] = refl
length-nodes (n ∷ ns) = ap suc (length-nodes ns)

-- ---- node 0 alone

abbrev first_nodes : FinMap nat_cmp Entry
first_nodes = insert empty 0 Constant

pub first-entry : (n : ℕ) → entry_at first_network n ≡ cond (eqb n 0) (Some Constant) None
unfolding entry_at first_network
first-entry n = elim (eqb_tells n 0) as (λ _. get first_nodes n ≡ cond (eqb n 0) (Some Constant) None) [
  | inl p ↦ ap (get first_nodes) p.1 ∙ insert_here empty 0 Constant ∙ ap (λ b. cond b (Some Constant) None) (sym p.0)
  | inr p ↦ insert_apart empty 0 Constant n p.1 ∙ get-empty nat_cmp n ∙ ap (λ b. cond b (Some Constant) None) (sym p.0)
]

first-reads : (n m : ℕ) → In m (fanin_nodes (entry_at first_network n)) → ⊥
first-reads n m i = elim (eqb n 0) as (λ b. In m (fanin_nodes (cond b (Some Constant) None)) → ⊥) [ true ↦ λ h. h | false ↦ λ h. h ] (subst (λ o. In m (fanin_nodes o)) (first-entry n) i)

first-gate : (n : ℕ) (g : GateValue) → entry_at first_network n ≡ Some (IsGate g) → ⊥
first-gate n g e = elim (eqb n 0) as (λ b. cond b (Some Constant) None ≡ Some (IsGate g) → ⊥) [ true ↦ λ h. cc | false ↦ λ h. cc ] (sym (first-entry n) ∙ e)

first-input : (n k : ℕ) → entry_at first_network n ≡ Some (Input k) → ⊥
first-input n k e = elim (eqb n 0) as (λ b. cond b (Some Constant) None ≡ Some (Input k) → ⊥) [ true ↦ λ h. cc | false ↦ λ h. cc ] (sym (first-entry n) ∙ e)

first-constant : (n : ℕ) → entry_at first_network n ≡ Some Constant → n ≡ 0
first-constant n e = elim (eqb_tells n 0) as (λ _. n ≡ 0) [
  | inl p ↦ p.1
  | inr p ↦ (let z : None ≡ Some Constant = sym (first-entry n ∙ ap (λ b. cond b (Some Constant) None) p.0) ∙ e in cc)
]

first-below : AreBelow first_network NUMBERS
first-below n live = elim (eqb_tells n 0) as (λ _. n < NUMBERS) [
  | inl p ↦ (let e = p.1 in let z : 0 < NUMBERS = lit< tt in omega arith)
  | inr p ↦ absurd (let z : false ≡ true = subst IsSome (first-entry n ∙ ap (λ b. cond b (Some Constant) None) p.0) live in cc)
]

pub first-stored : IsStored first_network
unfolding first_network
first-stored = record {
  dag = record {
    acyclic = λ n m ns w e. first-reads n m w.1;
    closed = λ n m i. absurd (first-reads n m i);
    arities = λ n g e. absurd (first-gate n g e);
  };
  whole = record {
    first = first-entry 0;
    closed = λ n m i. absurd (first-reads n m i);
    outputs_live = λ m i. absurd i;
  };
  constants = first-constant;
  inputs = λ n k. (λ e. absurd (first-input n k e), λ e. cc);
  below = first-below;
  few_outputs = omega arith;
}

pub network-first : (nodes : FinMap nat_cmp Entry) (inputs : List Node) (outputs : List Signal) → nodes ≡ insert empty 0 Constant → inputs ≡ [] → outputs ≡ [] → network_of nodes inputs outputs ≡ first_network
unfolding network_of first_network
network-first nodes inputs outputs e i o = ap (λ m. network_of m inputs outputs) e ∙ ap (λ is. network_of first_nodes is outputs) i ∙ ap (λ os. network_of first_nodes [] os) o

no-fan : (n : ℕ) → fan first_network n ≡ []
unfolding fan first_network entry_at
no-fan n =
    entries-by_number (λ m e. slots_naming n m 0 (fanins_of e)) first_nodes 1 (λ q h. elim (eqb_tells q 0) as (λ _. q < 1) [
      | inl p ↦ (let e = p.1 in omega arith)
      | inr p ↦ absurd (let z : false ≡ true = subst IsSome (first-entry q ∙ ap (λ b. cond b (Some Constant) None) p.0) h in cc)
    ])
    ∙ ap (λ o. at_entry [] (λ e. slots_naming n 0 0 (fanins_of e)) o ++ []) (first-entry 0)

pub first-named : (n : ℕ) → references first_network n ≡ 0
unfolding references first_network
first-named n = let e = ap (λ zs. length zs) (no-fan n) in omega arith

zeros : (n : ℕ) → slice_index (0 ∷ []) n ≡ 0
zeros zero = refl
zeros (suc n) = refl

pub first-references : AreReferences (0 ∷ []) first_network
unfolding AreReferences
first-references n = zeros n ∙ sym (first-named n)

-- ---- more memory

pub room-more : (nodes nodes2 : Numbered) (places places2 : ℕ) (inputs inputs2 : List Node) (counts counts2 : List ℕ) (marks marks2 : List Bool) (queue queue2 : ℕ) → HasRoom nodes places inputs counts marks queue → IsFitting nodes2 → nodes2.room ≤ places2 → inputs2 ≡ inputs → nodes2.room ≤ length counts2 → nodes2.room ≤ length marks2 → ((k : ℕ) → get_or marks2 k false ≡ get_or marks k false) → nodes2.room ≤ queue2 → HasRoom nodes2 places2 inputs2 counts2 marks2 queue2
room-more nodes nodes2 places places2 inputs inputs2 counts counts2 marks marks2 queue queue2 h f p i c m same q = record {
  fitting = f;
  inputs_fit = p;
  few_inputs = subst (λ (xs : List Node). length xs ≤ NUMBERS) (sym i) h.few_inputs;
  counts_fit = c;
  marks_fit = m;
  unmarked = λ k. same k ∙ h.unmarked k;
  queue_fits = q;
}

pub network-same : (nodes nodes2 : FinMap nat_cmp Entry) (inputs inputs2 : List Node) (outputs : List Signal) → nodes2 ≡ nodes → inputs2 ≡ inputs → network_of nodes2 inputs2 outputs ≡ network_of nodes inputs outputs
network-same nodes nodes2 inputs inputs2 outputs e i = ap (λ m. network_of m inputs2 outputs) e ∙ ap (λ is. network_of nodes is outputs) i

pub counts-same : (counts counts2 : List ℕ) (N : NetworkValue) → ((k : ℕ) → slice_index counts2 k ≡ slice_index counts k) → AreReferences counts N → AreReferences counts2 N
unfolding AreReferences
counts-same counts counts2 N same h k = same k ∙ h k

pub on-ok : {A B : Type 0} {P Q : Type 0} (r : Result A B) → (P → Q) → OnOk r P → OnOk r Q
on-ok (Ok x) f h = f h
on-ok (Err e) f h = tt

pub read-place : (os : List Signal) (k : ℕ) (o : Signal) → k < length os → o ≡ get_or os k o → In o.node.0 (nodes_read os)
read-place [] k o lt e = absurd (omega arith)
read-place (s ∷ ss) zero o lt e = inl (ap (λ (s : Signal). s.node.0) e)
read-place (s ∷ ss) (suc k) o lt e = inr (read-place ss k o (omega arith) e)
