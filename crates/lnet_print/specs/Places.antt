-- Which input a node is.
use Rattle.std.specs.Prelude.{ℕ, nat_lt, Option, None, Some, if◌then◌else◌}
use Rattle.lnet_model.specs.Networks.{Entry, Constant, Input, IsGate}

-- the place in the list of inputs that an entry has
abbrev pub place_of : Option Entry → Option ℕ
place_of None = None
place_of (Some Constant) = None
place_of (Some (Input k)) = Some k
place_of (Some (IsGate g)) = None

-- a place below a bound
abbrev pub place_below : ℕ → Option ℕ → Option ℕ
place_below bound None = None
place_below bound (Some k) = if nat_lt k bound then Some k else None
