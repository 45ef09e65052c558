-- The search for the levels of all numbers: what is known of them so far, and the path of the search.
use Rattle.std.specs.Prelude.{◌≡◌, ◌≢◌, ℕ, suc, ◌+◌, ◌*◌, ◌<◌, List, [], length, All, AllPairs, IsSome, IsTrue, slice_index_or, sum_by, Option, None, Some}
use Rattle.lnet_gates.specs.declared.signal.Node.{Node}
use Rattle.lnet_model.specs.Networks.{NetworkValue, entry_at}
use Rattle.lnet_model.specs.Along.{In, fanin_nodes}
use Rattle.lnet_model.specs.Dags.{numbers_of}
use Rattle.lnet_model.specs.Levels.{level}
use Rattle.lnet_export.specs.declared.levels.Step.{Step}
use Rattle.lnet_export.specs.declared.levels.Step.TheVariants.{Level, Wait}

-- what is known of the level of number n
abbrev pub known_at : List (Option ℕ) → ℕ → Option ℕ
known_at ls n = slice_index_or ls n None

-- there is a place for each number, and each level that is known is the number's
pub record AreLevels (N : NetworkValue) (ls : List (Option ℕ)) : Type 0 where
  pub sized : length ls ≡ numbers_of N
  pub right : (n l : ℕ) → known_at ls n ≡ Some l → l ≡ level N n

-- what is known stays known
abbrev pub KeepsKnown : List (Option ℕ) → List (Option ℕ) → Type 0
KeepsKnown old new = (n : ℕ) → IsSome (known_at old n) → IsSome (known_at new n)

-- the level of n is found, or a fanin is named whose level isn't known
abbrev pub IsStepAt : NetworkValue → List (Option ℕ) → ℕ → Step → Type 0
IsStepAt N ls n (Level l) = l ≡ level N n
IsStepAt N ls n (Wait m) = In m.0 (fanin_nodes (entry_at N n)) × (known_at ls m.0 ≡ None)

-- a number whose level is still to be found
abbrev pub IsUnknown : NetworkValue → List (Option ℕ) → Node → Type 0
IsUnknown N ls n = (n.0 < numbers_of N) × (known_at ls n.0 ≡ None)

-- the path has numbers whose levels are to be found, each of a lower level than those before
pub record IsPath (N : NetworkValue) (ls : List (Option ℕ)) (path : List Node) : Type 0 where
  pub unknown : All (IsUnknown N ls) path
  pub falls : AllPairs (λ m n. level N n.0 < level N m.0) path

-- the first number of the path is n; where the path is at its end, the level of n is known
pub record StartsAt (ls : List (Option ℕ)) (path : List Node) (n : Node) : Type 0 where
  pub first : 0 < length path → slice_index_or path 0 n ≡ n
  pub settled : length path ≡ 0 → IsSome (known_at ls n.0)
