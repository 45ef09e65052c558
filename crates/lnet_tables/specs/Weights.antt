-- How much the steps of a recipe cost together, where each operation has a cost of its own. Source: the size of a Boolean
-- chain in D. E. Knuth, "The Art of Computer Programming" 4A, section 7.1.2, with a weight for each operation.
use Rattle.std.specs.Prelude.{ℕ, ◌+◌, List, [], ◌∷◌}
use Rattle.lnet_tables.specs.declared.step.StepOp.{StepOp}
use Rattle.lnet_tables.specs.declared.step.Step.{Step}

-- the sum of what the steps' operations cost
abbrev pub weight : (StepOp → ℕ) → List Step → ℕ
weight cost [] = 0
weight cost (s ∷ ss) = cost s.op + weight cost ss
