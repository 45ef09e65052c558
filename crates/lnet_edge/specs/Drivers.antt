-- What the map from wires to their drivers says.
use Rattle.std.specs.Prelude.{◌≡◌, ℕ, ◌<◌, Bool, true, false, List, Contains, Option, Some, None, nat_eq, is_some, slice_index, Decides}
use Rattle.std.specs.declared.hash.FoldHasher.{FoldHasher}
use Rattle.std.specs.declared.hash.BuildHasherDefault.{BuildHasherDefault}
use Rattle.std.specs.HashMap.{get, HashMap}
use Rattle.std.specs.List.{list_all}
use Rattle.lnet_edge.specs.declared.circuit.WireRef.{WireRef}
use Rattle.lnet_edge.specs.Circuits.{EquationValue}
use Rattle.lnet_edge.specs.Wires.{targets, Repeats}

-- from each wire that is driven: the place of the equation that drives it, None where another drives it
abbrev pub Drivers : Type 0
Drivers = HashMap ℕ (Option ℕ) (BuildHasherDefault FoldHasher)

abbrev pub driver_at : Drivers → ℕ → Option (Option ℕ)
driver_at m w = get nat_eq m w

-- whether something drives the wire
abbrev pub is_driven : Drivers → ℕ → Bool
is_driven m w = is_some (driver_at m w)

-- whether something drives each operand
abbrev pub drives_operands : Drivers → EquationValue → Bool
drives_operands m e = list_all (λ (r : WireRef). is_driven m r.wire.0) e.operands

-- the place of the equation that drives the wire
abbrev pub place_in : Option (Option ℕ) → Option ℕ
place_in None = None
place_in (Some o) = o

-- the wire that the equation at this place drives
abbrev pub target_at : List EquationValue → ℕ → ℕ
target_at es k = slice_index (targets es) k

-- the map has these wires, and the flag says whether one stands twice among them
pub record KnowsWires (m : Drivers) (twice : Bool) (xs : List ℕ) : Type 0 where
  pub has : (w : ℕ) → Decides (is_some (driver_at m w)) (Contains xs w)
  pub repeated : twice ≡ true → Repeats xs
  pub single : twice ≡ false → ¬ (Repeats xs)

-- the map has equations at their targets, and each of the first n where no wire stands twice
pub record KnowsEquations (m : Drivers) (twice : Bool) (es : List EquationValue) (n : ℕ) : Type 0 where
  pub only : (w k : ℕ) → driver_at m w ≡ Some (Some k) → (k < n) × (target_at es k ≡ w)
  pub each : twice ≡ false → (k : ℕ) → k < n → driver_at m (target_at es k) ≡ Some (Some k)
