-- How answers are kept: a list of values, a list of levels where a number is live, and marks of those that wait.
use Rattle.std.specs.Prelude.{◌≡◌, max, ◌⊎◌, ℕ, ◌<◌, ◌≤◌, Bool, true, false, not, List, [], ◌∷◌, map, length, slice_index_or, slice_get, is_some, IsSome, Option, None, Some}
use Rattle.lnet_gates.specs.declared.signal.Signal.{Signal}
use Rattle.lnet_gates.specs.Gates.{GateValue}
use Rattle.lnet_model.specs.Networks.{NetworkValue, entry_at, gate_in, IsLive}
use Rattle.lnet_model.specs.Along.{over, In}
use Rattle.lnet_model.specs.Levels.{level}
use Rattle.lnet_model.specs.Fanouts.{IsParent}
use Rattle.lnet_model.specs.Dags.{NUMBERS}
use Rattle.lnet_model.specs.Visits.{fanouts_in}
use Rattle.lnet_views.specs.Repair.{IsRepairing, IsFromScratch, pair_eq, pair_step}
use Rattle.lnet_views.specs.Rules.{rule_step}

abbrev pub at_level : {V : Type 0} → V → V → Option ℕ → V × ℕ
at_level none v None = (none, 0)
at_level none v (Some l) = (v, l)

-- the value and the level kept for a number
abbrev pub answer : {V : Type 0} → V → List V → List (Option ℕ) → ℕ → V × ℕ
answer none values levels n = at_level none (slice_index_or values n none) (slice_index_or levels n None)

-- whether a number waits
abbrev pub mark : List (Option ℕ) → ℕ → Bool
mark waits n = is_some (slice_index_or waits n None)

abbrev pub level_or : Option ℕ → ℕ
level_or None = 0
level_or (Some l) = l

-- the level kept for a number, 0 where there is none
abbrev pub height : List (Option ℕ) → ℕ → ℕ
height levels n = level_or (slice_index_or levels n None)

-- while n's parents are marked: `before` are the marks before, and `rest` are the parents still to come
pub record IsMarking (N : NetworkValue) (n : ℕ) (before waits : List (Option ℕ)) (rest : List (ℕ × ℕ)) : Type 0 where
  pub len : length waits ≡ length before
  pub kept : (m : ℕ) → mark before m ≡ true → mark waits m ≡ true
  pub todo : (p : ℕ) → In p (map (λ r. r.0) rest) → IsParent N n p
  pub done : (p : ℕ) → IsParent N n p → (mark waits p ≡ true) ⊎ In p (map (λ r. r.0) rest)
  pub only : (m : ℕ) → mark waits m ≡ true → mark before m ≡ false → IsParent N n m

-- what waits does so at its level
abbrev pub IsTied : List (Option ℕ) → List (Option ℕ) → Type 0
IsTied levels waits = (m l : ℕ) → slice_index_or waits m None ≡ Some l → height levels m ≡ l

-- the numbers below the length have 32 bits, and each has a place in the queue
pub record HavePlaces (levels marks : List (Option ℕ)) : Type 0 where
  pub few : length levels ≤ 4294967295
  pub waits : length levels ≤ length marks

-- the greatest of the levels kept for the signals' nodes
abbrev pub tallest : List (Option ℕ) → List Signal → ℕ
tallest levels [] = 0
tallest levels (s ∷ ss) = max (height levels s.node.0) (tallest levels ss)

-- room for each live number, and levels at the live numbers alone
pub record IsSound {V : Type 0} (N : NetworkValue) (values : List V) (levels : List (Option ℕ)) (waits : List (Option ℕ)) : Type 0 where
  pub levels_len : length levels ≡ length values
  pub waits_len : length values ≤ length waits
  pub room : (m : ℕ) → IsLive N m → m < length values
  pub known : (m : ℕ) → IsLive N m → IsSome (slice_index_or levels m None)
  pub dead : (m : ℕ) → entry_at N m ≡ None → slice_index_or levels m None ≡ None

-- the answers under repair after an event at k made N of M, where `values0` and `levels0` stood before
pub record IsRunning {V : Type 0} (eq : V → V → Bool) (first : ℕ → V) (gives : ℕ → GateValue → List (Signal × V) → V) (M N : NetworkValue) (k : ℕ) (values0 : List V) (levels0 : List (Option ℕ)) (values : List V) (levels : List (Option ℕ)) (waits : List (Option ℕ)) : Type 0 where
  pub sound : IsSound N values levels waits
  pub repairing : IsRepairing (pair_eq eq) N k (pair_step (rule_step first gives)) (first 0, 0) (level M) (answer (first 0) values0 levels0) (answer (first 0) values levels) (mark waits)
  pub gates : (m : ℕ) → mark waits m ≡ true → IsSome (gate_in (entry_at N m))
  pub small : (m : ℕ) → height levels m ≤ NUMBERS

-- the fanout lengths of the numbers whose answers differ now from those before
abbrev pub spread : {V : Type 0} → (V → V → Bool) → V → NetworkValue → List V → List (Option ℕ) → List V → List (Option ℕ) → ℕ
spread eq none N values0 levels0 values levels = fanouts_in N (λ x. not (pair_eq eq (answer none values levels x) (answer none values0 levels0 x)))

abbrev pub all_fanouts : NetworkValue → ℕ
all_fanouts N = fanouts_in N (λ x. true)

-- the levels kept are those of N, and the values are as from scratch up to the test
abbrev pub IsKept : {V : Type 0} → (V → V → Bool) → (ℕ → V) → (ℕ → GateValue → List (Signal × V) → V) → NetworkValue → List V → List (Option ℕ) → Type 0
IsKept eq first gives N values levels = IsFromScratch (pair_eq eq) N (pair_step (rule_step first gives)) (first 0, 0) (answer (first 0) values levels)

-- what the rule gives a number from scratch, and its level
abbrev pub scratch : {V : Type 0} → (ℕ → V) → (ℕ → GateValue → List (Signal × V) → V) → NetworkValue → ℕ → V × ℕ
scratch first gives N n = over N (pair_step (rule_step first gives)) (first 0, 0) n

abbrev pub paired : {V : Type 0} → Option V → Option ℕ → Option (V × ℕ)
paired None l = None
paired (Some v) None = None
paired (Some v) (Some l) = Some (v, l)

-- the value and the level of a number, where both are kept
unfoldable pub kept_at : {V : Type 0} → List V → List (Option ℕ) → ℕ → Option (V × ℕ)
kept_at values levels n = paired (slice_get values n) (slice_index_or levels n None)
