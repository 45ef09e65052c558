-- What a follower keeps, as its callers see it, and when it is in step.
use Rattle.std.specs.Prelude.{◌≡◌, ℕ, Bool, List, length, Option, None, Some}
use Rattle.lnet_gates.specs.declared.signal.Signal.{Signal}
use Rattle.lnet_gates.specs.Gates.{GateValue}
use Rattle.lnet_model.specs.Networks.{NetworkValue}
use Rattle.lnet_model.specs.declared.event.Event.{Event}
use Rattle.lnet_views.specs.declared.kept.Kept.{Kept}
use Rattle.lnet_views.specs.Keeping.{kept_at}
use Rattle.lnet_views.specs.Rules.{IsInStep, rule_bound}

-- the value and the level that are kept for each number; none where none are
abbrev pub answers_in : {V : Type 0} → Kept V → ℕ → Option (V × ℕ)
answers_in k = kept_at k.values.items k.levels.items

-- for how many numbers, from 0, there is memory
abbrev pub room_in : {V : Type 0} → Kept V → ℕ
room_in k = length k.levels.items

-- there is a rule, and the answers are in step by it
pub record IsFollowing {R V : Type 0} (eq : V → V → Bool) (first_of : R → ℕ → V) (gives : R → ℕ → GateValue → List (Signal × V) → V) (rule : Option R) (kept : ℕ → Option (V × ℕ)) (N : NetworkValue) : Type 0 where
  pub asked : R
  pub attached : rule ≡ Some asked
  pub answers : IsInStep eq (first_of asked) (gives asked) kept N

-- the bound on the reads at the event that made N: none where there is no rule
abbrev pub follow_bound : {R V : Type 0} → (V → V → Bool) → (R → ℕ → V) → (R → ℕ → GateValue → List (Signal × V) → V) → Event → NetworkValue → Option R → ℕ
follow_bound eq first_of gives e N None = 0
follow_bound eq first_of gives e N (Some r) = rule_bound eq (first_of r) (gives r) e N
