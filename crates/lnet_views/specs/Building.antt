-- Answers while they are made from scratch.
use Rattle.std.specs.Prelude.{◌≡◌, ℕ, ◌<◌, ◌≤◌, ⊤, Bool, true, false, cond, List, [], ◌∷◌, length, sum_by, slice_index_or, is_some, IsSome, Option, None}
use Rattle.lnet_gates.specs.declared.signal.Node.{Node}
use Rattle.lnet_gates.specs.declared.signal.Signal.{Signal}
use Rattle.lnet_gates.specs.Gates.{GateValue}
use Rattle.lnet_model.specs.Networks.{NetworkValue, IsLive}
use Rattle.lnet_model.specs.Levels.{level}
use Rattle.lnet_views.specs.Repair.{pair_eq}
use Rattle.lnet_views.specs.Keeping.{answer, mark, scratch}

-- how many of the levels are missing
abbrev pub undone : List (Option ℕ) → ℕ
undone levels = sum_by (λ o. cond (is_some o) 0 1) levels

-- each answer that is there is right
pub record IsBuilding {V : Type 0} (eq : V → V → Bool) (first : ℕ → V) (gives : ℕ → GateValue → List (Signal × V) → V) (N : NetworkValue) (values : List V) (levels : List (Option ℕ)) (waits : List (Option ℕ)) : Type 0 where
  pub levels_len : length levels ≡ length values
  pub waits_len : length values ≤ length waits
  pub room : (m : ℕ) → IsLive N m → m < length values
  pub idle : (m : ℕ) → mark waits m ≡ false
  pub done : (m : ℕ) → IsSome (slice_index_or levels m None) → IsLive N m × (pair_eq eq (answer (first 0) values levels m) (scratch first gives N m) ≡ true)

-- the lowest of the stack, on which `at` lies
abbrev pub bottom : Node → List Node → ℕ
bottom at [] = at.0
bottom at (x ∷ xs) = x.0

-- levels fall along the stack, and on to `at`
abbrev pub Falls : NetworkValue → Node → List Node → Type 0
Falls N at [] = ⊤
Falls N at (x ∷ xs) = (level N (bottom at xs) < level N x.0) × Falls N at xs

-- each is live and has no level yet
abbrev pub AreTodo : NetworkValue → List (Option ℕ) → List Node → Type 0
AreTodo N levels [] = ⊤
AreTodo N levels (x ∷ xs) = IsLive N x.0 × (slice_index_or levels x.0 None ≡ None) × AreTodo N levels xs
