-- There is a chain for each number, and what a change of links asks.
use Rattle.std.proofs.Common.{◌≡◌, ℕ, ◌-◌, ◌<◌, ◌≤◌, List, length, IsSome, Some, refl, sym, subst, ◌∙◌, arith}
use Rattle.std.specs.FinMap.{get, len}
use Rattle.lnet_gates.specs.declared.signal.Node.{Node}
use Rattle.lnet_gates.specs.declared.signal.Signal.{Signal}
use Rattle.lnet_gates.specs.Gates.{GateValue}
use Rattle.lnet_model.specs.Networks.{NetworkValue, IsLive, gate_in}
use Rattle.lnet_model.specs.Along.{In, nodes_read}
use Rattle.lnet_model.specs.Changes.{GateAt, IsGateAt}
use Rattle.lnet_model.specs.Dags.{IsStored}
use Rattle.lnet_chains.specs.Lists.{ChainsValue}
use Rattle.lnet_store.specs.Held.{Numbered, IsFitting}
use Rattle.lnet_store.specs.Fields.{network_of}
use Rattle.lnet_store.specs.Linked.{AreLinked, CanRelink}
use Rattle.lnet_store.proofs.SlotLemmas.{all-live}
use Rattle.lnet_store.proofs.StoreLemmas.{entry-of}
use Rattle.lnet_store.proofs.KeptLemmas.{gate-at, gate-there, gate-six}
use Rattle.lnet_store.proofs.LinkLemmas.{gate-linked, gate-slots}

module _ (nodes : Numbered) (inputs : List Node) (outputs : List Signal) (c : ChainsValue) (N : NetworkValue) (is : network_of nodes.nodes inputs outputs ≡ N) (L : AreLinked c nodes.room N) where
  -- each live node has a chain
  pub chains-known : IsFitting nodes → (m : ℕ) → IsLive N m → m < length c.lists
  chains-known fitting m live =
      let lt = fitting.within m (subst IsSome (sym (entry-of nodes.nodes inputs outputs N is m)) live) in
      let le = L.fits in
      omega arith

  -- and so has the least number that isn't live, where there is memory for it
  pub chains-free : (n : ℕ) → ((m : ℕ) → m < n → IsLive N m) → 0 < nodes.room - len nodes.nodes → n < length c.lists
  chains-free n least space =
      let few = all-live nodes.nodes n (λ m lt. subst IsSome (sym (entry-of nodes.nodes inputs outputs N is m)) (least m lt)) in
      let le = L.fits in
      omega arith

  -- the gate at a number, and its slots
  at-number : (n : ℕ) (g : GateValue) → gate_in (get nodes.nodes n) ≡ Some g → GateAt N n g
  at-number n g e = sym (entry-of nodes.nodes inputs outputs N is n) ∙ gate-at (get nodes.nodes n) g e

  few-slots : IsStored N → (n : ℕ) (g : GateValue) → gate_in (get nodes.nodes n) ≡ Some g → length g.fanins ≤ 6
  few-slots stored n g e = gate-six g (stored.dag.arities n g (at-number n g e))

  -- another gate may take the place of one
  pub can-relink : IsFitting nodes → IsStored N → (n : ℕ) (ss rs : List Signal) → IsGateAt N n → ss ≡ rs → ((m : ℕ) → In m (nodes_read rs) → IsLive N m) → CanRelink nodes.nodes n ss c
  can-relink fitting stored n ss rs gate same live = record {
    gate = subst (λ o. IsSome (gate_in o)) (sym (entry-of nodes.nodes inputs outputs N is n)) (gate-there N n gate);
    arity = few-slots stored n;
    known = λ m i. chains-known fitting m (live m (subst (λ (xs : List Signal). In m (nodes_read xs)) same i));
    within = chains-known fitting n (subst IsSome (sym gate.1) refl);
    linked = λ g e. gate-linked c nodes.room N n g g.fanins refl (few-slots stored n g e) L (at-number n g e);
    absent = λ g e. gate-slots c nodes.room N n g g.fanins refl (few-slots stored n g e) L (at-number n g e);
  }
