use Rattle.std.proofs.Common.{◌≡◌, ℕ, take, nat_eq}
use Rattle.std.specs.HashMap.{get}
use Rattle.lnet_edge.specs.CircuitLists.{equation_views}
use Rattle.lnet_order.specs.Orders.{place_from}
use Rattle.lnet_order.proofs.places.places_of.Given as goal

abbrev pub invariant-loop-place : goal.invariant-loop-place
invariant-loop-place l = (w : ℕ) → get nat_eq l.places w ≡ place_from 0 (take l.place (equation_views l.equations)) w
