-- A depth-first search along operands: its steps, and what it keeps.
use Rattle.std.specs.Prelude.{◌≡◌, ◌≢◌, ℕ, ◌+◌, ◌<◌, ◌≤◌, List, [], length, map, slice_index, slice_index_or, sum_by, Contains}
use Rattle.lnet_edge.specs.declared.cycles.Progress.{Progress}
use Rattle.lnet_edge.specs.declared.cycles.Progress.TheVariants.{New, Open, Done}
use Rattle.lnet_edge.specs.declared.cycles.Step.{Step}
use Rattle.lnet_edge.specs.declared.cycles.Step.TheVariants as step
use Rattle.lnet_edge.specs.Circuits.{EquationValue}
use Rattle.lnet_edge.specs.Wires.{operand_wires, ComesBack}
use Rattle.lnet_edge.specs.Drivers.{target_at}

-- the operands of the equation at this place
abbrev pub operands_at : List EquationValue → ℕ → List ℕ
operands_at es k = slice_index_or (map operand_wires es) k []

abbrev pub progress_at : List Progress → ℕ → Progress
progress_at ps k = slice_index_or ps k New

-- each equation that drives the wire is done
abbrev pub IsSettled : List EquationValue → List Progress → ℕ → Type 0
IsSettled es ps v = (k : ℕ) → k < length es → target_at es k ≡ v → progress_at ps k ≡ Done

-- the equation at place i has the wire of that at place k as an operand
abbrev pub ReadsPlace : List EquationValue → ℕ → ℕ → Type 0
ReadsPlace es i k = Contains (operands_at es i) (target_at es k)

-- what a step says of the last equation of the path
abbrev pub IsStep : List EquationValue → List Progress → ℕ → Step → Type 0
IsStep es ps top step.Leave = progress_at ps top ≡ Open 0
IsStep es ps top (step.Pass left) = (progress_at ps top ≡ Open (left + 1)) × IsSettled es ps (slice_index (operands_at es top) left)
IsStep es ps top (step.Enter k) = (k < length es) × (progress_at ps k ≡ New) × ReadsPlace es top k
IsStep es ps top step.Cycle = (k : ℕ) × (k < length es) × ((left : ℕ) × (progress_at ps k ≡ Open left)) × ReadsPlace es top k

-- what the search keeps
pub record IsSearch (es : List EquationValue) (ps : List Progress) (path : List ℕ) : Type 0 where
  pub sized : length ps ≡ length es
  -- of an equation on the path, so many operands are left, and those behind them are settled
  pub within : (k left : ℕ) → k < length es → progress_at ps k ≡ Open left → left ≤ length (operands_at es k)
  pub followed : (k left j : ℕ) → k < length es → progress_at ps k ≡ Open left → left ≤ j → j < length (operands_at es k) → IsSettled es ps (slice_index (operands_at es k) j)
  -- all operands of an equation that is done are settled, and its wire does not depend on itself
  pub closed : (k j : ℕ) → k < length es → progress_at ps k ≡ Done → j < length (operands_at es k) → IsSettled es ps (slice_index (operands_at es k) j)
  pub free : (k : ℕ) → k < length es → progress_at ps k ≡ Done → ¬ (ComesBack es (target_at es k))
  -- the path has the equations that are open, each once, and each after the first drives an operand of the one before
  pub placed : (k left : ℕ) → k < length es → progress_at ps k ≡ Open left → (t : ℕ) × (t < length path) × (slice_index path t ≡ k)
  pub below : (t : ℕ) → t < length path → slice_index path t < length es
  pub opened : (t : ℕ) → t < length path → (left : ℕ) × (progress_at ps (slice_index path t) ≡ Open left)
  pub apart : (s t : ℕ) → s < t → t < length path → slice_index path s ≢ slice_index path t
  pub chain : (t : ℕ) → t + 1 < length path → ReadsPlace es (slice_index path t) (slice_index path (t + 1))

-- what is done stays done, and what was met stays met
abbrev pub KeepsDone : List Progress → List Progress → Type 0
KeepsDone old new = (k : ℕ) → progress_at old k ≡ Done → progress_at new k ≡ Done

abbrev pub KeepsMet : List Progress → List Progress → Type 0
KeepsMet old new = (k : ℕ) → progress_at old k ≢ New → progress_at new k ≢ New

-- what comes next by how far the equation is that drives the next operand
abbrev pub step_at : Progress → ℕ → ℕ → Step
step_at New k left = step.Enter k
step_at (Open others) k left = step.Cycle
step_at Done k left = step.Pass left

-- how many steps are left at most, for equations of at most so many operands
abbrev pub steps_left : ℕ → Progress → ℕ
steps_left most New = most + 2
steps_left most (Open left) = left + 1
steps_left most Done = 0

abbrev pub work : ℕ → List Progress → ℕ
work most ps = sum_by (steps_left most) ps

-- no equation has more operands than all have together
abbrev pub operand_count : List EquationValue → ℕ
operand_count es = sum_by length (map operand_wires es)

-- the search is a step further
pub record Advances (es : List EquationValue) (old new : List Progress) (path : List ℕ) : Type 0 where
  pub search : IsSearch es new path
  pub done : KeepsDone old new
  pub met : KeepsMet old new
  pub less : work (operand_count es) new < work (operand_count es) old
