-- The fanins of a gate, by the list that the code reads.
use Rattle.std.proofs.Common.{◌≡◌, ℕ, zero, suc, ◌<◌, List, [], ◌∷◌, length, get_or, Option, None, Some, refl, sym, ap, subst, ◌∙◌, inl, inr, arith}
use Rattle.lnet_gates.specs.declared.signal.Signal.{Signal}
use Rattle.lnet_gates.specs.Gates.{GateValue}
use Rattle.lnet_model.specs.Networks.{NetworkValue, Entry, Constant, Input, IsGate, entry_at, gate_at, gate_in}
use Rattle.lnet_model.specs.Along.{In, nodes_read, fanin_nodes}
use Rattle.lnet_model.specs.Changes.{GateAt}
use Rattle.lnet_model.specs.Dags.{IsStored, numbers_of}
use Rattle.lnet_model.proofs.Numbers.{live-below-numbers}

pub gate-from : (N : NetworkValue) (n : ℕ) (g : GateValue) → gate_at N n ≡ Some g → GateAt N n g
gate-from N n g is = by (entry_at N n) refl
  where
    by : (o : Option Entry) → entry_at N n ≡ o → GateAt N n g
    by None at = absurd (let z : None ≡ Some g = sym (ap gate_in at) ∙ is in cc)
    by (Some Constant) at = absurd (let z : None ≡ Some g = sym (ap gate_in at) ∙ is in cc)
    by (Some (Input k)) at = absurd (let z : None ≡ Some g = sym (ap gate_in at) ∙ is in cc)
    by (Some (IsGate h)) at = let z : Some h ≡ Some g = sym (ap gate_in at) ∙ is in let e : h ≡ g = cc in at ∙ ap (λ x. Some (IsGate x)) e

-- what is no gate reads nothing
pub reads-nothing : (N : NetworkValue) (n m : ℕ) → gate_at N n ≡ None → In m (fanin_nodes (entry_at N n)) → ⊥
reads-nothing N n m none = by (entry_at N n) refl
  where
    by : (o : Option Entry) → entry_at N n ≡ o → In m (fanin_nodes o) → ⊥
    by None at i = i
    by (Some Constant) at i = i
    by (Some (Input k)) at i = i
    by (Some (IsGate g)) at i = absurd (let z : Some g ≡ None = sym (ap gate_in at) ∙ none in cc)

pub in-read : (ss : List Signal) (k : ℕ) (d : Signal) → k < length ss → In (get_or ss k d).node.0 (nodes_read ss)
in-read [] k d low = absurd (omega arith)
in-read (s ∷ ss) zero d low = inl refl
in-read (s ∷ ss) (suc k) d low = inr (in-read ss k d (omega arith))

-- what holds of each signal's node holds of each number that is read
pub read-each : (P : ℕ → Type 0) (ss : List Signal) → ((k : ℕ) (d : Signal) → k < length ss → P (get_or ss k d).node.0) → (m : ℕ) → In m (nodes_read ss) → P m
read-each P [] each m i = absurd i
read-each P (s ∷ ss) each m (inl e) = subst P (sym e) (each 0 s (omega arith))
read-each P (s ∷ ss) each m (inr i) = read-each P ss (λ k d low. each (suc k) d (omega arith)) m i

pub fanin-below : (N : NetworkValue) (n m : ℕ) → IsStored N → In m (fanin_nodes (entry_at N n)) → m < numbers_of N
fanin-below N n m stored i = live-below-numbers N m (stored.whole.closed n m i)

-- a fanin of the gate at n, by the list of the fanins
pub listed-read : (N : NetworkValue) (n : ℕ) (g : GateValue) (ss : List Signal) (k : ℕ) (d : Signal) → gate_at N n ≡ Some g → ss ≡ g.fanins → k < length ss → In (get_or ss k d).node.0 (fanin_nodes (entry_at N n))
listed-read N n g ss k d is same low =
    subst (λ o. In (get_or ss k d).node.0 (fanin_nodes o)) (sym (gate-from N n g is))
    (subst (λ (ts : List Signal). In (get_or ss k d).node.0 (nodes_read ts)) same (in-read ss k d low))

pub listed-below : (N : NetworkValue) (n : ℕ) (g : GateValue) (ss : List Signal) (k : ℕ) (d : Signal) → IsStored N → gate_at N n ≡ Some g → ss ≡ g.fanins → k < length ss → (get_or ss k d).node.0 < numbers_of N
listed-below N n g ss k d stored is same low = fanin-below N n (get_or ss k d).node.0 stored (listed-read N n g ss k d is same low)

-- what holds of each of the listed fanins holds of each fanin of the gate at n
pub listed-each : (P : ℕ → Type 0) (N : NetworkValue) (n : ℕ) (g : GateValue) (ss : List Signal) → gate_at N n ≡ Some g → ss ≡ g.fanins → ((k : ℕ) (d : Signal) → k < length ss → P (get_or ss k d).node.0) → (m : ℕ) → In m (fanin_nodes (entry_at N n)) → P m
listed-each P N n g ss is same each m i =
    read-each P ss each m (subst (λ (ts : List Signal). In m (nodes_read ts)) (sym same) (subst (λ o. In m (fanin_nodes o)) (gate-from N n g is) i))
