-- Networks that have all that another has, with its values.
use Rattle.std.proofs.Common.{◌≡◌, ◌≢◌, ℕ, Bool, true, false, List, [], ◌∷◌, map, IsSome, None, refl, sym, ap, subst, ◌∙◌, inl, inr}
use Rattle.lnet_gates.specs.declared.signal.Signal.{Signal}
use Rattle.lnet_gates.specs.Gates.{GateValue, flip}
use Rattle.lnet_model.specs.Networks.{NetworkValue, IsGate, IsLive, entry_at, fanins_of}
use Rattle.lnet_model.specs.Along.{at_entry, IsWhole, Acyclic, nodes_read}
use Rattle.lnet_model.specs.Values.{value_step, node_value, signal_value}
use Rattle.lnet_model.specs.Changes.{AreLive, with_entry}
use Rattle.lnet_model.specs.Dags.{IsStored}
use Rattle.lnet_model.proofs.Over.{over-once}
use Rattle.lnet_model.proofs.Changes.{with_entry-apart, add-over}

-- M has what N has, where N has it and with the same values, and maybe more nodes
pub record Extends (N M : NetworkValue) : Type 0 where
  pub entries : (n : ℕ) → IsLive N n → entry_at M n ≡ entry_at N n
  pub values : (a : ℕ → Bool) (n : ℕ) → IsLive N n → node_value M a n ≡ node_value N a n
  pub kind : M.kind ≡ N.kind
  pub inputs : M.inputs ≡ N.inputs
  pub outputs : M.outputs ≡ N.outputs

-- what was live is live
pub extends-live : (N M : NetworkValue) → Extends N M → (n : ℕ) → IsLive N n → IsLive M n
extends-live N M e n h = subst IsSome (sym (e.entries n h)) h

pub extends-all_live : (N M : NetworkValue) → Extends N M → (ns : List ℕ) → AreLive N ns → AreLive M ns
extends-all_live N M e ns h n i = extends-live N M e n (h n i)

pub extends-self : (N : NetworkValue) → Extends N N
extends-self N = record { entries = λ n h. refl; values = λ a n h. refl; kind = refl; inputs = refl; outputs = refl }

pub extends-twice : (N M L : NetworkValue) → Extends N M → Extends M L → Extends N L
extends-twice N M L e f = record {
  entries = λ n h. f.entries n (extends-live N M e n h) ∙ e.entries n h;
  values = λ a n h. f.values a n (extends-live N M e n h) ∙ e.values a n h;
  kind = f.kind ∙ e.kind;
  inputs = f.inputs ∙ e.inputs;
  outputs = f.outputs ∙ e.outputs;
}

-- signals of live nodes have their values
pub extends-signal : (N M : NetworkValue) → Extends N M → (a : ℕ → Bool) (s : Signal) → IsLive N s.node.0 → signal_value M a s ≡ signal_value N a s
extends-signal N M e a s h = ap (flip s.complement) (e.values a s.node.0 h)

pub extends-signals : (N M : NetworkValue) → Extends N M → (a : ℕ → Bool) (ss : List Signal) → AreLive N (nodes_read ss) → map (signal_value M a) ss ≡ map (signal_value N a) ss
extends-signals N M e a [] h = refl
extends-signals N M e a (s ∷ ss) h = λ i. extends-signal N M e a s (h s.node.0 (inl refl)) i ∷ extends-signals N M e a ss (λ m k. h m (inr k)) i

-- a gate on live fanins at a free number
pub extends-added : (N : NetworkValue) (k : ℕ) (g : GateValue) → IsStored N → entry_at N k ≡ None → AreLive N (nodes_read g.fanins) → Extends N (with_entry N k (IsGate g))
unfolding with_entry
extends-added N k g stored free live = record {
  entries = λ n h. with_entry-apart N k (IsGate g) n (old n h);
  values = λ a n h. add-over N k (IsGate g) stored.dag.closed free live (value_step a) false stored.dag.acyclic n (old n h);
  kind = refl;
  inputs = refl;
  outputs = refl;
}
  where
    old : (n : ℕ) → IsLive N n → n ≢ k
    old n h is = let none : false ≡ true = subst IsSome (ap (entry_at N) is ∙ free) h in cc

-- node 0 is false
pub value-first : (N : NetworkValue) (a : ℕ → Bool) → Acyclic N → IsWhole N → node_value N a 0 ≡ false
value-first N a acyclic whole =
    over-once N (value_step a) false acyclic 0
    ∙ ap (at_entry false (λ e. value_step a 0 e (map {B = Signal × Bool} (λ s. (s, node_value N a s.node.0)) (fanins_of e)))) whole.first
