-- Networks whose gates are well placed, and what a store of nodes keeps of its network.
use Rattle.std.specs.Prelude.{◌≡◌, ℕ, suc, ◌≤◌, ◌<◌, ◌↔◌, length, map, slice_get, Some}
use Rattle.std.specs.FinMap.{keys}
use Rattle.lnet_gates.specs.Gates.{GateValue}
use Rattle.lnet_gates.specs.Plans.{Takes}
use Rattle.lnet_model.specs.Networks.{NetworkValue, Constant, Input, IsLive, entry_at}
use Rattle.lnet_model.specs.Along.{Acyclic, IsClosed, IsWhole}
use Rattle.lnet_model.specs.Changes.{GateAt}
use Rattle.lnet_model.specs.Levels.{greatest}

-- no cycle, live fanins, and each gate has as many fanins as its operation takes
pub record IsDag (N : NetworkValue) : Type 0 where
  pub acyclic : Acyclic N
  pub closed : IsClosed N
  pub arities : (n : ℕ) (g : GateValue) → GateAt N n g → Takes g.op (length g.fanins)

-- each live number is below r
abbrev pub AreBelow : NetworkValue → ℕ → Type 0
AreBelow N r = (n : ℕ) → IsLive N n → n < r

-- how many numbers a network can have
abbrev pub NUMBERS : ℕ
NUMBERS = 1048576

-- how many outputs a network can have
abbrev pub OUTPUTS : ℕ
OUTPUTS = 100000000

-- one past the greatest live number
unfoldable pub numbers_of : NetworkValue → ℕ
numbers_of N = greatest (map suc (keys N.nodes))

-- what every store keeps of its network
pub record IsStored (N : NetworkValue) : Type 0 where
  pub dag : IsDag N
  pub whole : IsWhole N
  -- the constant stands at 0 alone
  pub constants : (n : ℕ) → entry_at N n ≡ Some Constant → n ≡ 0
  -- input k stands at the number that the list of inputs has at place k
  pub inputs : (n k : ℕ) → (entry_at N n ≡ Some (Input k)) ↔ (slice_get N.inputs k ≡ Some n)
  pub below : AreBelow N NUMBERS
  pub few_outputs : length N.outputs ≤ OUTPUTS
