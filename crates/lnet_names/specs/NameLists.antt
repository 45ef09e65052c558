-- The names of inputs and outputs.
use Rattle.std.specs.Prelude.{◌≡◌, ℕ, ◌^◌, ◌<◌, List, length, slice_get, Option, None, Some}

-- the name of each input and of each output, in order, where it has one: its bytes
pub record NamesValue : Type 0 where
  pub inputs : List (Option (List ℕ))
  pub outputs : List (Option (List ℕ))

-- the places of both are numbers of 32 bits
pub record AreFew (names : NamesValue) : Type 0 where
  pub few_inputs : length names.inputs < 2 ^ 32
  pub few_outputs : length names.outputs < 2 ^ 32

-- a name at a place that is within the list and has one
abbrev pub name_in : Option (Option (List ℕ)) → Option (List ℕ)
name_in None = None
name_in (Some name) = name

-- the name at place k, where k is within the list and has one
abbrev pub name_at : List (Option (List ℕ)) → ℕ → Option (List ℕ)
name_at names k = name_in (slice_get names k)
