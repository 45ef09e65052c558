-- Lists that are drawn item by item.
use Rattle.std.proofs.Common.{List, ◌++◌}
use Rattle.rand_core.specs.Stream.{Stream}

-- behind the items so far
abbrev pub onto : {A : Type 0} → List A → List A × Stream → List A × Stream
onto xs r = (xs ++ r.0, r.1)
