-- Who reads a node: its fanout, by filtering the slots of all gates, and its references.
-- Source: the fanout view of the mockturtle documentation.
use Rattle.std.specs.Prelude.{ℕ, suc, ◌+◌, cond, List, [], ◌∷◌, length, eqb, count_by}
use Rattle.std.specs.List.{flat_map}
use Rattle.std.specs.FinMap.{entries}
use Rattle.lnet_gates.specs.declared.signal.Signal.{Signal}
use Rattle.lnet_model.specs.Networks.{NetworkValue, fanins_of, entry_at}
use Rattle.lnet_model.specs.Along.{In, fanin_nodes}

-- those of the parent's slots, from this one on, that name n: each as the parent and the slot
abbrev pub slots_naming : ℕ → ℕ → ℕ → List Signal → List (ℕ × ℕ)
slots_naming n parent slot [] = []
slots_naming n parent slot (s ∷ ss) = cond (eqb s.node.0 n) ((parent, slot) ∷ slots_naming n parent (suc slot) ss) (slots_naming n parent (suc slot) ss)

-- the fanout of n: all pairs of a parent and a slot whose fanin is n, ascending by parent, then by slot
unfoldable pub fan : NetworkValue → ℕ → List (ℕ × ℕ)
fan N n = flat_map (λ e. slots_naming n e.0 0 (fanins_of e.1)) (entries N.nodes)

-- p has n as a fanin
abbrev pub IsParent : NetworkValue → ℕ → ℕ → Type 0
IsParent N n p = In n (fanin_nodes (entry_at N p))

-- how many fanin slots and outputs name n
unfoldable pub references : NetworkValue → ℕ → ℕ
references N n = length (fan N n) + count_by (λ (s : Signal). eqb s.node.0 n) N.outputs
