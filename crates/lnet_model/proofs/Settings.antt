-- A gate that gives way to one of the same value, or of the same level.
use Rattle.std.proofs.Common.{◌≡◌, ℕ, ◌+◌, Bool, false, List, [], ◌∷◌, map, Some, refl, sym, ap, ◌∙◌}
use Rattle.lnet_gates.specs.declared.signal.Signal.{Signal}
use Rattle.lnet_gates.specs.Gates.{GateValue, flip, apply}
use Rattle.lnet_model.specs.Networks.{IsGate, NetworkValue, entry_at, fanins_of}
use Rattle.lnet_model.specs.Along.{at_entry, once, nodes_read, Acyclic}
use Rattle.lnet_model.specs.Values.{value_step, node_value, signal_value, network_outputs}
use Rattle.lnet_model.specs.Levels.{greatest, level_step, level}
use Rattle.lnet_model.specs.Changes.{with_entry}
use Rattle.lnet_model.proofs.Over.{over-kept}
use Rattle.lnet_model.proofs.Values.{map-pairs, map-same, gate_once}
use Rattle.lnet_model.proofs.Changes.{with_entry-here, with_entry-apart}

pub value-kept : (N : NetworkValue) (k : ℕ) (g : GateValue) → Acyclic N → Acyclic (with_entry N k (IsGate g)) → (a : ℕ → Bool) → apply g.op g.phase (map (signal_value N a) g.fanins) ≡ node_value N a k → (n : ℕ) → node_value (with_entry N k (IsGate g)) a n ≡ node_value N a n
value-kept N k g cn cm a same = over-kept (with_entry N k (IsGate g)) N k (value_step a) false cm cn (with_entry-apart N k (IsGate g)) (sym (gate_once (with_entry N k (IsGate g)) a k g (node_value N a) (with_entry-here N k (IsGate g)) ∙ same))

pub outputs-kept : (N : NetworkValue) (k : ℕ) (g : GateValue) → Acyclic N → Acyclic (with_entry N k (IsGate g)) → (a : ℕ → Bool) → apply g.op g.phase (map (signal_value N a) g.fanins) ≡ node_value N a k → network_outputs (with_entry N k (IsGate g)) a ≡ network_outputs N a
unfolding network_outputs with_entry
outputs-kept N k g cn cm a same = map-same (signal_value (with_entry N k (IsGate g)) a) (signal_value N a) N.outputs (λ (s : Signal). ap (flip s.complement) (value-kept N k g cn cm a same s.node.0))

map-read : (V : ℕ → ℕ) (ss : List Signal) → map (λ (s : Signal). V s.node.0) ss ≡ map V (nodes_read ss)
map-read V [] = refl
map-read V (s ∷ ss) = ap (λ r. V s.node.0 ∷ r) (map-read V ss)

-- one step gives a gate one more than the greatest of what its fanins have
pub level_once : (N : NetworkValue) (V : ℕ → ℕ) (n : ℕ) (g : GateValue) → entry_at N n ≡ Some (IsGate g) → once (entry_at N) level_step 0 V n ≡ 1 + greatest (map V (nodes_read g.fanins))
level_once N V n g is =
    ap (at_entry 0 (λ e. level_step n e (map {B = Signal × ℕ} (λ s. (s, V s.node.0)) (fanins_of e)))) is
    ∙ ap (λ r. 1 + greatest r) (map-pairs V (λ r. r.1) g.fanins ∙ map-read V g.fanins)

pub level-kept : (N : NetworkValue) (k : ℕ) (g : GateValue) → Acyclic N → Acyclic (with_entry N k (IsGate g)) → 1 + greatest (map (level N) (nodes_read g.fanins)) ≡ level N k → (n : ℕ) → level (with_entry N k (IsGate g)) n ≡ level N n
level-kept N k g cn cm same = over-kept (with_entry N k (IsGate g)) N k level_step 0 cm cn (with_entry-apart N k (IsGate g)) (sym (level_once (with_entry N k (IsGate g)) (level N) k g (with_entry-here N k (IsGate g)) ∙ same))
