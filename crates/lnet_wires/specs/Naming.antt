-- Names in the order in which they were first seen, and the wires that they stand for.
use Rattle.std.specs.Prelude.{ℕ, ◌+◌, Bool, List, [], ◌∷◌, ◌++◌, if◌then◌else◌}
use Rattle.std.specs.List.{list_any, position_or_len}
use Rattle.std.specs.Str.{bytes_eq}

-- whether the name was seen
abbrev pub is_seen : List (List ℕ) → List ℕ → Bool
is_seen names name = list_any (bytes_eq name) names

-- the names once this one is seen too
abbrev pub with_name : List (List ℕ) → List ℕ → List (List ℕ)
with_name names name = if is_seen names name then names else names ++ name ∷ []

-- the wire of a name: its place among the names, counted from 1; the next one for a name that wasn't seen
abbrev pub wire_of : List (List ℕ) → List ℕ → ℕ
wire_of names name = position_or_len (bytes_eq name) names + 1
