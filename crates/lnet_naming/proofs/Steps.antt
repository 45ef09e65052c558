-- Ports one after the other.
use Rattle.std.proofs.Common.{ℕ, List, ◌++◌}

-- behind the names so far
abbrev pub onto : List (List ℕ) → List (List ℕ) × List (List ℕ) → List (List ℕ) × List (List ℕ)
onto names r = (names ++ r.0, r.1)
