-- Levels and depth. Source: the depth view of the mockturtle documentation.
use Rattle.std.specs.Prelude.{ℕ, ◌+◌, max, List, [], ◌∷◌, map}
use Rattle.lnet_gates.specs.declared.signal.Signal.{Signal}
use Rattle.lnet_model.specs.Networks.{Entry, Constant, Input, IsGate, NetworkValue}
use Rattle.lnet_model.specs.Along.{over, nodes_read}

-- the greatest of the numbers, 0 of none
abbrev pub greatest : List ℕ → ℕ
greatest [] = 0
greatest (x ∷ xs) = max x (greatest xs)

-- 0 for the constant and an input, and for a gate one more than the greatest of its fanins' levels
abbrev pub level_step : ℕ → Entry → List (Signal × ℕ) → ℕ
level_step n Constant rs = 0
level_step n (Input k) rs = 0
level_step n (IsGate g) rs = 1 + greatest (map (λ r. r.1) rs)

-- the level of node n: how many gates the longest path from it towards the inputs has
abbrev pub level : NetworkValue → ℕ → ℕ
level N n = over N level_step 0 n

-- the greatest level of an output's node
unfoldable pub depth : NetworkValue → ℕ
depth N = greatest (map (level N) (nodes_read N.outputs))
