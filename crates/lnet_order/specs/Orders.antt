-- The order in which the equations of a circuit are built: those of an equation's operands first, from the outputs on.
-- Source: the post-order of a depth-first search (Tarjan 1972).
use Rattle.std.specs.Prelude.{ℕ, zero, suc, ◌+◌, ◌==◌, Bool, List, [], ◌∷◌, ◌++◌, length, Option, None, Some, if◌then◌else◌}
use Rattle.std.specs.List.{list_any}
use Rattle.lnet_edge.specs.Circuits.{CircuitValue, EquationValue}
use Rattle.lnet_edge.specs.Wires.{output_wires}
use Rattle.lnet_edge.specs.Searches.{operands_at}

-- a place, where there is one, and else another
abbrev pub or_place : Option ℕ → Option ℕ → Option ℕ
or_place None other = other
or_place (Some k) other = Some k

-- the place, counted from i, of the last equation that drives wire w; a circuit has one at most
abbrev pub place_from : ℕ → List EquationValue → ℕ → Option ℕ
place_from i [] w = None
place_from i (e ∷ es) w = or_place (place_from (i + 1) es w) (if e.target == w then Some i else None)

-- whether the place is one of those
abbrev pub is_among : ℕ → List ℕ → Bool
is_among k places = list_any (λ j. k == j) places

-- the wires one after another, each by `take`, which adds places to those that are there
abbrev pub in_turn : (List ℕ → ℕ → List ℕ) → List ℕ → List ℕ → List ℕ
in_turn take places [] = places
in_turn take places (w ∷ ws) = in_turn take (take places w) ws

-- an equation that is there stays where it is; else its operands are taken, the first first, and then comes the equation
abbrev pub with_driver : (List ℕ → ℕ → List ℕ) → List EquationValue → List ℕ → Option ℕ → List ℕ
with_driver take es places None = places
with_driver take es places (Some k) = if is_among k places then places else in_turn take places (operands_at es k) ++ k ∷ []

-- the places with those that wire w needs and that are not there, by recursion along operands to the given depth
unfoldable pub taken : ℕ → List EquationValue → List ℕ → ℕ → List ℕ
taken zero es places w = places
taken (suc d) es places w = with_driver (taken d es) es places (place_from 0 es w)

-- The places of the equations that the outputs need, in order. A wire without cycles hangs on as many equations as there are at
-- most, and the depth counts the wire itself too.
unfoldable pub order_of : CircuitValue → List ℕ
order_of c = in_turn (taken (suc (length c.equations)) c.equations) [] (output_wires c.outputs)
