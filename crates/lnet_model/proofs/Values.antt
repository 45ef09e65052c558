-- Values and levels, by the laws of `over`.
use Rattle.std.proofs.Common.{◌≡◌, ℕ, zero, suc, ◌+◌, ◌-◌, ◌≤◌, Bool, false, List, [], ◌∷◌, map, Some, refl, ap, ◌∙◌, arith}
use Rattle.lnet_gates.specs.declared.signal.Signal.{Signal}
use Rattle.lnet_gates.specs.Gates.{GateValue}
use Rattle.lnet_gates.specs.Gates.{flip}
use Rattle.lnet_gates.specs.Gates.{apply}
use Rattle.lnet_model.specs.Networks.{IsGate, NetworkValue, entry_at, live_count, fanins_of}
use Rattle.lnet_model.specs.Along.{at_entry, once, along, over, Acyclic}
use Rattle.lnet_model.specs.Values.{value_step, node_value, signal_value}
use Rattle.lnet_model.proofs.Along.{Step, along-deeper}
use Rattle.lnet_model.proofs.Walks.{short_walks}
use Rattle.lnet_model.proofs.Over.{over-once}

-- reading the pairs of a step is reading V at the fanins
pub map-pairs : {A B : Type 0} (V : ℕ → A) (f : Signal × A → B) (ss : List Signal) → map f (map {B = Signal × A} (λ s. (s, V s.node.0)) ss) ≡ map (λ s. f (s, V s.node.0)) ss
map-pairs V f [] = refl
map-pairs V f (s ∷ ss) = ap (λ r. f (s, V s.node.0) ∷ r) (map-pairs V f ss)

pub map-same : {A B : Type 0} (f h : A → B) (xs : List A) → ((x : A) → f x ≡ h x) → map f xs ≡ map h xs
map-same f h [] same = refl
map-same f h (x ∷ xs) same = λ i. same x i ∷ map-same f h xs same i

pub gate_once : (N : NetworkValue) (a : ℕ → Bool) (n : ℕ) (g : GateValue) (V : ℕ → Bool) → entry_at N n ≡ Some (IsGate g) → once (entry_at N) (value_step a) false V n ≡ apply g.op g.phase (map (λ s. flip s.complement (V s.node.0)) g.fanins)
gate_once N a n g V is =
    ap (at_entry false (λ e. value_step a n e (map {B = Signal × Bool} (λ s. (s, V s.node.0)) (fanins_of e)))) is
    ∙ ap (apply g.op g.phase) (map-pairs V (λ r. flip r.0.complement r.1) g.fanins)

pub gate_value : (N : NetworkValue) (a : ℕ → Bool) (n : ℕ) (g : GateValue) → Acyclic N → entry_at N n ≡ Some (IsGate g) → node_value N a n ≡ apply g.op g.phase (map (signal_value N a) g.fanins)
gate_value N a n g acyclic is = over-once N (value_step a) false acyclic n ∙ gate_once N a n g (node_value N a) is

along-above : {A : Type 0} (N : NetworkValue) (step : Step A) (none : A) → Acyclic N → (x n : ℕ) → along (entry_at N) step none (x + live_count N) n ≡ along (entry_at N) step none (live_count N) n
along-above N step none acyclic zero n = ap (λ d. along (entry_at N) step none d n) (omega arith)
along-above N step none acyclic (suc x) n =
    ap (λ d. along (entry_at N) step none d n) (omega arith)
    ∙ along-deeper (entry_at N) step none (x + live_count N) n (λ ns w. let k = short_walks N acyclic n ns w in omega arith)
    ∙ along-above N step none acyclic x n

pub along-enough : {A : Type 0} (N : NetworkValue) (step : Step A) (none : A) → Acyclic N → (d n : ℕ) → live_count N ≤ d → along (entry_at N) step none d n ≡ over N step none n
unfolding over
along-enough N step none acyclic d n h =
    let e : d ≡ (d - live_count N) + live_count N = omega arith in
    ap (λ z. along (entry_at N) step none z n) e ∙ along-above N step none acyclic (d - live_count N) n
