-- What an order of building keeps: each equation stands after those of its operands.
use Rattle.std.specs.Prelude.{◌≡◌, ℕ, true, List, [], ◌∷◌, ◌++◌, Some, Contains}
use Rattle.lnet_edge.specs.Circuits.{EquationValue}
use Rattle.lnet_edge.specs.Searches.{operands_at}
use Rattle.lnet_order.specs.Orders.{place_from, is_among}

-- each equation that drives one of the wires is there
abbrev pub AreDriven : List EquationValue → List ℕ → List ℕ → Type 0
AreDriven es places ws = (v : ℕ) → Contains ws v → (k : ℕ) → place_from 0 es v ≡ Some k → is_among k places ≡ true

-- the operands of each equation are driven by those before it
abbrev pub IsBuildOrder : List EquationValue → List ℕ → List ℕ → Type 0
IsBuildOrder es places [] = Unit {0}
IsBuildOrder es places (k ∷ ks) = AreDriven es places (operands_at es k) × IsBuildOrder es (places ++ k ∷ []) ks
