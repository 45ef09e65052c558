-- The counts stay the references with each change, and there is memory for each number.
use Rattle.std.proofs.Common.{Bool, ◌≡◌, ℕ, ◌+◌, ◌^◌, ◌<◌, ◌≤◌, List, [], ◌∷◌, length, IsSome, Option, None, Some, get_or, slice_index, refl, sym, ap, subst, ◌∙◌, arith}
use Rattle.std.proofs.lemmas.List.Sums.{count_by-le-length}
use Rattle.std.specs.Ordering.{nat_cmp}
use Rattle.std.specs.FinMap.{FinMap, get}
use Rattle.std.specs.Prelude.{eqb}
use Rattle.lnet_gates.specs.declared.signal.Node.{Node}
use Rattle.lnet_gates.specs.declared.signal.Signal.{Signal}
use Rattle.lnet_gates.specs.Gates.{GateValue}
use Rattle.lnet_gates.specs.Plans.{Takes}
use Rattle.lnet_model.specs.Networks.{NetworkValue, Entry, Constant, Input, IsGate, IsLive, entry_at, gate_in}
use Rattle.lnet_model.specs.Along.{In, nodes_read, fanin_nodes}
use Rattle.lnet_model.specs.Changes.{with_entry, without, GateAt, IsGateAt}
use Rattle.lnet_model.specs.Dags.{IsStored}
use Rattle.lnet_model.proofs.References.{references-few, takes-six}
use Rattle.lnet_store.specs.StoreValues.{with_input, with_new_output, with_output}
use Rattle.lnet_store.specs.Held.{Numbered, IsFitting}
use Rattle.lnet_store.specs.Fields.{network_of, naming, AreReferences, HasRoom}
use Rattle.lnet_store.proofs.StoreLemmas.{entry-of}
use Rattle.lnet_store.proofs.ChangeLemmas.{refs-add, refs-set, refs-without, refs-input, refs-new_output, refs-output}

-- ---- a gate and where it stands

pub gate-at : (o : Option Entry) (g : GateValue) → gate_in o ≡ Some g → o ≡ Some (IsGate g)
gate-at None g e = cc
gate-at (Some Constant) g e = cc
gate-at (Some (Input k)) g e = cc
gate-at (Some (IsGate h)) g e = let same : h ≡ g = cc in ap (λ z. Some (IsGate z)) same

pub one-gate : (g h : GateValue) → Some g ≡ Some h → g ≡ h
one-gate g h e = cc

pub gate-stands : (nodes : FinMap nat_cmp Entry) (inputs : List Node) (outputs : List Signal) (N : NetworkValue) → network_of nodes inputs outputs ≡ N → (n : ℕ) (g : GateValue) →
    gate_in (get nodes n) ≡ Some g → GateAt N n g
gate-stands nodes inputs outputs N is n g e = sym (entry-of nodes inputs outputs N is n) ∙ gate-at (get nodes n) g e

pub gate-there : (N : NetworkValue) (n : ℕ) → IsGateAt N n → IsSome (gate_in (entry_at N n))
gate-there N n g = subst (λ o. IsSome (gate_in o)) (sym g.1) refl

pub fanin-live : (N : NetworkValue) (n m : ℕ) (g : GateValue) → IsStored N → GateAt N n g → In m (nodes_read g.fanins) → IsLive N m
fanin-live N n m g stored at i = stored.dag.closed n m (subst (λ o. In m (fanin_nodes o)) (sym at) i)

-- ---- memory

pub counts-known : (nodes : Numbered) (places : ℕ) (inputs : List Node) (outputs : List Signal) (counts : List ℕ) (marks : List Bool) (queue : ℕ) (N : NetworkValue) →
    HasRoom nodes places inputs counts marks queue → network_of nodes.nodes inputs outputs ≡ N → (m : ℕ) → IsLive N m → m < length counts
counts-known nodes places inputs outputs counts marks queue N h is m live =
    let lt = h.fitting.within m (subst IsSome (sym (entry-of nodes.nodes inputs outputs N is m)) live) in
    let le = h.counts_fit in
    omega arith

naming-few : (n : ℕ) (ss : List Signal) → naming n ss ≤ length ss
naming-few n ss = count_by-le-length (λ (s : Signal). eqb s.node.0 n) ss

pub counts-fit : (counts : List ℕ) (N : NetworkValue) → AreReferences counts N → IsStored N → (ss : List Signal) → length ss ≤ 6 → (n : ℕ) → slice_index counts n + naming n ss < 2 ^ 32
unfolding AreReferences
counts-fit counts N refs stored ss six n =
    let few = references-few N stored n in
    let le = naming-few n ss in
    let is = refs n in
    omega arith

pub gate-six : (g : GateValue) → Takes g.op (length g.fanins) → length g.fanins ≤ 6
gate-six g takes = takes-six g.op (length g.fanins) takes

pub room-kept : (nodes nodes2 : Numbered) (places : ℕ) (inputs : List Node) (counts counts2 : List ℕ) (marks : List Bool) (queue : ℕ) → HasRoom nodes places inputs counts marks queue →
    IsFitting nodes2 → nodes2.room ≡ nodes.room → length counts2 ≡ length counts → HasRoom nodes2 places inputs counts2 marks queue
room-kept nodes nodes2 places inputs counts counts2 marks queue h f r c =
    let a = h.inputs_fit in
    let b = h.counts_fit in
    let d = h.marks_fit in
    let e = h.queue_fits in
    record {
      fitting = f;
      inputs_fit = omega arith;
      few_inputs = h.few_inputs;
      counts_fit = omega arith;
      marks_fit = omega arith;
      unmarked = h.unmarked;
      queue_fits = omega arith;
    }

-- ---- the counts

module _ (counts counts2 : List ℕ) (N : NetworkValue) (refs : AreReferences counts N) where
  pub kept-add : (k : ℕ) (g : GateValue) (ss : List Signal) → ss ≡ g.fanins → entry_at N k ≡ None → ((m : ℕ) → slice_index counts2 m ≡ slice_index counts m + naming m ss) →
      AreReferences counts2 (with_entry N k (IsGate g))
  unfolding AreReferences
  kept-add k g ss same free more m =
      let a = more m in
      let b = refs m in
      let d = refs-add N k g free m in
      let e = ap (naming m) same in
      omega arith

  pub kept-new_output : (s : Signal) → ((m : ℕ) → slice_index counts2 m ≡ slice_index counts m + naming m (s ∷ [])) → AreReferences counts2 (with_new_output N s)
  unfolding AreReferences
  kept-new_output s more m =
      let a = more m in
      let b = refs m in
      let d = refs-new_output N s m in
      omega arith

  pub kept-remove : (k : ℕ) (g : GateValue) (ss : List Signal) → ss ≡ g.fanins → GateAt N k g → ((m : ℕ) → slice_index counts2 m + naming m ss ≡ slice_index counts m) →
      AreReferences counts2 (without N k)
  unfolding AreReferences
  kept-remove k g ss same at less m =
      let a = less m in
      let b = refs m in
      let d = refs-without N k g at m in
      let e = ap (naming m) same in
      omega arith

pub kept-input : (counts : List ℕ) (N : NetworkValue) → AreReferences counts N → (k : ℕ) → entry_at N k ≡ None → AreReferences counts (with_input N k)
unfolding AreReferences
kept-input counts N refs k free m = refs m ∙ sym (refs-input N k free m)

module _ (counts counts2 counts3 : List ℕ) (N : NetworkValue) (refs : AreReferences counts N) where
  pub kept-set : (k : ℕ) (g h : GateValue) (ss rs : List Signal) → ss ≡ g.fanins → rs ≡ h.fanins → GateAt N k h → ((m : ℕ) → slice_index counts2 m ≡ slice_index counts m + naming m ss) →
      ((m : ℕ) → slice_index counts3 m + naming m rs ≡ slice_index counts2 m) → AreReferences counts3 (with_entry N k (IsGate g))
  unfolding AreReferences
  kept-set k g h ss rs same is at more less m =
      let a = more m in
      let b = less m in
      let d = refs m in
      let e = refs-set N k g h at m in
      let f = ap (naming m) same in
      let i = ap (naming m) is in
      omega arith

  pub kept-output : (k : ℕ) (s o : Signal) → k < length N.outputs → o ≡ get_or N.outputs k o → ((m : ℕ) → slice_index counts2 m ≡ slice_index counts m + naming m (s ∷ [])) →
      ((m : ℕ) → slice_index counts3 m + naming m (o ∷ []) ≡ slice_index counts2 m) → AreReferences counts3 (with_output N k s)
  unfolding AreReferences
  kept-output k s o lt is more less m =
      let a = more m in
      let b = less m in
      let d = refs m in
      let e = refs-output N k s o lt is m in
      omega arith

-- what a gate reads is counted
pub gate-counted : (counts : List ℕ) (N : NetworkValue) → AreReferences counts N → (k : ℕ) (g : GateValue) (ss : List Signal) → ss ≡ g.fanins → GateAt N k g → (m : ℕ) →
    naming m ss ≤ slice_index counts m
unfolding AreReferences
gate-counted counts N refs k g ss same at m =
    let b = refs m in
    let d = refs-without N k g at m in
    let e = ap (naming m) same in
    omega arith

pub output-counted : (counts : List ℕ) (N : NetworkValue) → AreReferences counts N → (k : ℕ) (s o : Signal) → k < length N.outputs → o ≡ get_or N.outputs k o → (m : ℕ) →
    naming m (o ∷ []) ≤ slice_index counts m + naming m (s ∷ [])
unfolding AreReferences
output-counted counts N refs k s o lt is m =
    let b = refs m in
    let d = refs-output N k s o lt is m in
    omega arith
