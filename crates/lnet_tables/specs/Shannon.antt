-- The Shannon expansion of a table as the steps of a recipe. Source: C. E. Shannon, "The Synthesis of Two-Terminal
-- Switching Circuits", Bell System Technical Journal 28 (1949), 59-98.
use Rattle.std.specs.Prelude.{Result, IsOk, OnOk, IfOk, ◌↔◌, ◌≡◌, ◌≤◌, ◌<◌, ℕ, zero, suc, ◌+◌, ◌-◌, ◌*◌, ◌/◌, ◌%◌, length, Bool, true, false, cond, List, [], ◌∷◌, ◌++◌}
use Rattle.lnet_tables.specs.Bits.{Rows, row, bit_of, equal_rows, constant_rows, not_rows, cofactor_rows}
use Rattle.lnet_tables.specs.declared.step.Lit.{Lit}
use Rattle.lnet_tables.specs.declared.step.StepOp.{StepOp}
use Rattle.lnet_tables.specs.declared.step.StepOp.TheVariants.{And, Xor}
use Rattle.lnet_tables.specs.declared.step.Step.{Step}
use Rattle.lnet_tables.specs.declared.expansion.Case.{Case}
use Rattle.lnet_tables.specs.declared.expansion.Case.TheVariants.{Unused, Plain, Complement, HighTrue, HighFalse, LowTrue, LowFalse, Opposite, Neither}
use Rattle.lnet_tables.specs.declared.recipe.RecipeFull.{RecipeFull}
use Rattle.lnet_tables.specs.Recipes.{RecipeValue, place, next_place}

-- ---- steps
-- steps of a function, and the literal that reads it
pub record Laid : Type 0 where
  pub steps : List Step
  pub root : Lit

-- the plain literal of a place
abbrev pub plain : ℕ → Lit
plain p = record { 0 = 2 * p }

-- the complemented literal of a place
abbrev pub complemented : ℕ → Lit
complemented p = record { 0 = 2 * p + 1 }

-- the complement of a literal
unfoldable pub other : Lit → Lit
other l = record { 0 = 2 * (l.0 / 2) + 1 - l.0 % 2 }

-- a step of two operands
abbrev pub step_of : StepOp → Lit → Lit → Step
step_of op a b = record { op = op; a = a; b = b; c = record { 0 = 0 } }

-- no step: a literal that is there already
abbrev pub given : Lit → Laid
given l = record { steps = []; root = l }

-- the and, the or and the xor of two literals, as a step at place p
abbrev pub and_at : ℕ → Lit → Lit → Laid
and_at p a b = record { steps = step_of And a b ∷ []; root = plain p }

abbrev pub or_at : ℕ → Lit → Lit → Laid
or_at p a b = record { steps = step_of And (other a) (other b) ∷ []; root = complemented p }

abbrev pub xor_at : ℕ → Lit → Lit → Laid
xor_at p a b = record { steps = step_of Xor a b ∷ []; root = plain p }

-- a where x holds and b where it doesn't, as three steps from place p: or(and(x, a), and(!x, b))
abbrev pub choice_at : ℕ → Lit → Lit → Lit → Laid
choice_at p x a b = record {
  steps = step_of And x a ∷ step_of And (other x) b ∷ step_of And (other (plain p)) (other (plain (p + 1))) ∷ [];
  root = complemented (p + 2);
}

-- x's steps, then those that read its root
abbrev pub after : Laid → Laid → Laid
after x y = record { steps = x.steps ++ y.steps; root = y.root }

-- what pushing the steps of x onto a recipe does: they are refused exactly where 128 are passed; otherwise they are
-- added, and the answer is the literal that reads them
pub record Lays (old new : RecipeValue) (answer : Result Lit RecipeFull) (x : Laid) : Type 0 where
  pub fits : IsOk answer ↔ (length old.steps + length x.steps ≤ 128)
  pub steps : OnOk answer (new ≡ record old { steps = old.steps ++ x.steps })
  pub root : IfOk answer (λ l. l ≡ x.root)
  pub inside : IfOk answer (λ l. place l < next_place new)

-- ---- the cases, by the two cofactors of a variable
-- a table is constant
abbrev pub is_constant : Rows → Bool → Bool
is_constant t value = equal_rows t (constant_rows t.vars value)

-- which case decides, given the cofactors where the variable is true and where it is false: the first that holds,
-- the two literals of the variable before those that have a step
unfoldable pub case_of : Rows → Rows → Case
case_of high low =
    cond (equal_rows high low) Unused
    (cond (is_constant high true) (cond (is_constant low false) Plain HighTrue)
    (cond (is_constant high false) (cond (is_constant low true) Complement HighFalse)
    (cond (is_constant low true) LowTrue
    (cond (is_constant low false) LowFalse
    (cond (equal_rows high (not_rows low)) Opposite Neither)))))

-- the one step at place p of a case in which one cofactor, at literal s, is enough; x is the variable
abbrev pub one_step_at : Case → ℕ → Lit → Lit → Laid
one_step_at HighTrue p x s = or_at p x s
one_step_at HighFalse p x s = and_at p (other x) s
one_step_at LowTrue p x s = or_at p (other x) s
one_step_at LowFalse p x s = and_at p x s
one_step_at _ p x s = xor_at p x s

-- the cofactor that is enough
abbrev pub rest_of : Case → Rows → Rows → Rows
rest_of LowTrue high low = high
rest_of LowFalse high low = high
rest_of _ high low = low

-- ---- the procedure
-- the steps from place p of a table whose variable n has these cofactors, in this case; f p t gives the steps from
-- place p of the cofactor t
abbrev pub combine : (ℕ → Rows → Laid) → Case → ℕ → ℕ → Rows → Rows → Laid
combine f Unused n p high low = f p low
combine f Plain n p high low = given (plain (n + 1))
combine f Complement n p high low = given (complemented (n + 1))
combine f Neither n p high low =
    let a : Laid = f p high in
    let b : Laid = f (p + length a.steps) low in
    after a (after b (choice_at (p + length a.steps + length b.steps) (plain (n + 1)) a.root b.root))
combine f case n p high low =
    let rest : Laid = f p (rest_of case high low) in
    after rest (one_step_at case (p + length rest.steps) (plain (n + 1)) rest.root)

-- the steps from place p of a table that depends on no variable but the first n
unfoldable pub expansion : ℕ → ℕ → Rows → Laid
expansion zero p t = given (record { 0 = bit_of (row t 0) })
expansion (suc n) p t =
    combine (λ q u. expansion n q u) (case_of (cofactor_rows t n true) (cofactor_rows t n false)) n p
    (cofactor_rows t n true) (cofactor_rows t n false)

-- the recipe of a table
abbrev pub shannon_of : Rows → RecipeValue
shannon_of t = record {
  leaves = t.vars;
  steps = (expansion t.vars (t.vars + 1) t).steps;
  root = (expansion t.vars (t.vars + 1) t).root;
}
