-- The level of a gate, by the levels of its fanins.
use Rattle.std.proofs.Common.{◌≡◌, ℕ, zero, suc, ◌+◌, ◌<◌, ◌≤◌, max, List, [], ◌∷◌, ◌++◌, length, map, take, get_or, Option, None, Some, IsSome, refl, sym, ap, subst, ◌∙◌, inl, inr, arith, take_all, add-one}
use Rattle.lnet_gates.specs.declared.signal.Signal.{Signal}
use Rattle.lnet_gates.specs.Gates.{GateValue}
use Rattle.lnet_model.specs.Networks.{NetworkValue, Entry, Constant, Input, IsGate, IsLive, entry_at, gate_at, gate_in, live_count, fanins_of}
use Rattle.lnet_model.specs.Along.{In, Acyclic, at_entry, nodes_read, fanin_nodes}
use Rattle.lnet_model.specs.Changes.{GateAt}
use Rattle.lnet_model.specs.Dags.{IsStored, numbers_of}
use Rattle.lnet_model.specs.Levels.{greatest, level, level_step}
use Rattle.lnet_model.proofs.Levels.{level-small}
use Rattle.lnet_model.proofs.Numbers.{live-below-numbers}
use Rattle.lnet_model.proofs.Over.{over-once}
use Rattle.lnet_model.proofs.Values.{map-pairs}

pub gate-from : (N : NetworkValue) (n : ℕ) (g : GateValue) → gate_at N n ≡ Some g → GateAt N n g
gate-from N n g is = by (entry_at N n) refl
  where
    by : (o : Option Entry) → entry_at N n ≡ o → GateAt N n g
    by None at = absurd (let z : None ≡ Some g = sym (ap gate_in at) ∙ is in cc)
    by (Some Constant) at = absurd (let z : None ≡ Some g = sym (ap gate_in at) ∙ is in cc)
    by (Some (Input k)) at = absurd (let z : None ≡ Some g = sym (ap gate_in at) ∙ is in cc)
    by (Some (IsGate h)) at = let z : Some h ≡ Some g = sym (ap gate_in at) ∙ is in let e : h ≡ g = cc in at ∙ ap (λ x. Some (IsGate x)) e

-- no gate has a level of its own but 0
pub level-none : (N : NetworkValue) (n : ℕ) → Acyclic N → gate_at N n ≡ None → level N n ≡ 0
level-none N n acyclic none = by (entry_at N n) refl
  where
    once : (o : Option Entry) → entry_at N n ≡ o → level N n ≡ at_entry 0 (λ e. level_step n e (map {B = Signal × ℕ} (λ s. (s, level N s.node.0)) (fanins_of e))) o
    once o is = over-once N level_step 0 acyclic n ∙ ap (at_entry 0 (λ e. level_step n e (map {B = Signal × ℕ} (λ s. (s, level N s.node.0)) (fanins_of e)))) is

    by : (o : Option Entry) → entry_at N n ≡ o → level N n ≡ 0
    by None at = once None at
    by (Some Constant) at = once (Some Constant) at
    by (Some (Input k)) at = once (Some (Input k)) at
    by (Some (IsGate g)) at = absurd (let z : Some g ≡ None = sym (ap gate_in at) ∙ none in cc)

read-levels : (N : NetworkValue) (ss : List Signal) → map (λ (s : Signal). level N s.node.0) ss ≡ map (level N) (nodes_read ss)
read-levels N [] = refl
read-levels N (s ∷ ss) = ap (λ ls. level N s.node.0 ∷ ls) (read-levels N ss)

pub level-gate : (N : NetworkValue) (n : ℕ) (g : GateValue) → Acyclic N → GateAt N n g → level N n ≡ 1 + greatest (map (level N) (nodes_read g.fanins))
level-gate N n g acyclic is =
    over-once N level_step 0 acyclic n
    ∙ ap (at_entry 0 (λ e. level_step n e (map {B = Signal × ℕ} (λ s. (s, level N s.node.0)) (fanins_of e)))) is
    ∙ ap (λ ls. 1 + greatest ls) (map-pairs (level N) (λ r. r.1) g.fanins ∙ read-levels N g.fanins)

-- ---- the greatest so far

pub greatest-small : (N : NetworkValue) (ns : List ℕ) → greatest (map (level N) ns) ≤ live_count N
greatest-small N [] = omega arith
greatest-small N (n ∷ ns) = let a = level-small N n in let b = greatest-small N ns in omega arith

greatest-suc : (N : NetworkValue) (ss : List Signal) (k : ℕ) (d : Signal) → k < length ss → greatest (map (level N) (nodes_read (take (suc k) ss))) ≡ max (level N (get_or ss k d).node.0) (greatest (map (level N) (nodes_read (take k ss))))
greatest-suc N [] k d low = absurd (omega arith)
greatest-suc N (s ∷ ss) zero d low = refl
greatest-suc N (s ∷ ss) (suc k) d low =
    let rest = greatest-suc N ss k d (omega arith) in
    ap (max (level N s.node.0)) rest ∙ swap_max (level N s.node.0) (level N (get_or ss k d).node.0) (greatest (map (level N) (nodes_read (take k ss))))
  where
    swap_max : (a b c : ℕ) → max a (max b c) ≡ max b (max a c)
    swap_max a b c = omega arith

pub greatest-more : (N : NetworkValue) (ss : List Signal) (k : ℕ) (d : Signal) → k < length ss → greatest (map (level N) (nodes_read (take (k + 1) ss))) ≡ max (level N (get_or ss k d).node.0) (greatest (map (level N) (nodes_read (take k ss))))
greatest-more N ss k d low = ap (λ (j : ℕ). greatest (map (level N) (nodes_read (take j ss)))) (add-one k) ∙ greatest-suc N ss k d low

-- ---- fanins

in-read : (ss : List Signal) (k : ℕ) (d : Signal) → k < length ss → In (get_or ss k d).node.0 (nodes_read ss)
in-read [] k d low = absurd (omega arith)
in-read (s ∷ ss) zero d low = inl refl
in-read (s ∷ ss) (suc k) d low = inr (in-read ss k d (omega arith))

pub fanin-read : (N : NetworkValue) (n : ℕ) (g : GateValue) (k : ℕ) (d : Signal) → GateAt N n g → k < length g.fanins → In (get_or g.fanins k d).node.0 (fanin_nodes (entry_at N n))
fanin-read N n g k d is low = subst (λ o. In (get_or g.fanins k d).node.0 (fanin_nodes o)) (sym is) (in-read g.fanins k d low)

pub fanin-below : (N : NetworkValue) (n m : ℕ) → IsStored N → In m (fanin_nodes (entry_at N n)) → m < numbers_of N
fanin-below N n m stored i = live-below-numbers N m (stored.whole.closed n m i)

-- a fanin of the gate at n, by the list of the fanins
pub listed-read : (N : NetworkValue) (n : ℕ) (g : GateValue) (ss : List Signal) (k : ℕ) (d : Signal) → gate_at N n ≡ Some g → ss ≡ g.fanins → k < length ss → In (get_or ss k d).node.0 (fanin_nodes (entry_at N n))
listed-read N n g ss k d is same low =
    let here : k < length g.fanins = subst (λ (ts : List Signal). k < length ts) same low in
    subst (λ (ts : List Signal). In (get_or ts k d).node.0 (fanin_nodes (entry_at N n))) (sym same) (fanin-read N n g k d (gate-from N n g is) here)

pub listed-below : (N : NetworkValue) (n : ℕ) (g : GateValue) (ss : List Signal) (k : ℕ) (d : Signal) → IsStored N → gate_at N n ≡ Some g → ss ≡ g.fanins → k < length ss → (get_or ss k d).node.0 < numbers_of N
listed-below N n g ss k d stored is same low = fanin-below N n (get_or ss k d).node.0 stored (listed-read N n g ss k d is same low)

-- the gate's level is one more than the greatest of all of them
pub listed-level : (N : NetworkValue) (n : ℕ) (g : GateValue) (ss : List Signal) (k greatest_so_far : ℕ) → IsStored N → gate_at N n ≡ Some g → ss ≡ g.fanins → length ss ≤ k → greatest_so_far ≡ greatest (map (level N) (nodes_read (take k ss))) → greatest_so_far + 1 ≡ level N n
listed-level N n g ss k x stored is same all so_far =
    let whole : take k ss ≡ ss = take_all k ss all in
    let e : x ≡ greatest (map (level N) (nodes_read g.fanins)) = so_far ∙ ap (λ (ts : List Signal). greatest (map (level N) (nodes_read ts))) (whole ∙ same) in
    let l = level-gate N n g stored.dag.acyclic (gate-from N n g is) in
    omega arith
