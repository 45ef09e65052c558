-- A recipe of majorities for a function, found step by step: each step is the majority of three columns that agrees with the
-- function in most rows. In outline after S. B. Akers, "Synthesis of Combinational Logic Using Three-Input Majority Gates",
-- Annual Symposium on Switching Circuit Theory and Logical Design 3 (1962); the order, the turns and the fall-back are this
-- project's own.
use Rattle.std.specs.Prelude.{◌≡◌, ◌<◌, ℕ, zero, suc, ◌+◌, ◌-◌, ◌*◌, ◌^◌, ◌/◌, ◌%◌, Bool, false, cond, List, [], ◌∷◌, ◌++◌, map, length, max, leb, ltb, Option, None, Some, not, MatchOption, ◌==◌}
use Rattle.std.specs.List.{range_with_len, flat_map}
use lib.ListN.{get_or}
use Rattle.lnet_tables.specs.Bits.{Rows, row, by_rows, is_set, bit_of, bit_xor2, constant_rows, variable_rows, not_rows, equal_rows}
use Rattle.lnet_tables.specs.Recipes.{RecipeValue, apply, place, next_place}
use Rattle.lnet_tables.specs.declared.step.Lit.{Lit}
use Rattle.lnet_tables.specs.declared.step.Step.{Step}
use Rattle.lnet_tables.specs.declared.step.StepOp.TheVariants.{Maj}
use Rattle.lnet_tables.specs.Shannon.{Laid, plain, shannon_of}
use Rattle.lnet_resyn.specs.declared.majority.Candidate.{Candidate}
use Rattle.lnet_resyn.specs.declared.majority.Scored.{Scored}

-- at how many of the numbers below n the test holds
unfoldable pub count_rows : ℕ → (ℕ → Bool) → ℕ
count_rows zero p = 0
count_rows (suc n) p = bit_of (p 0) + count_rows n (λ r. p (r + 1))

-- in how many rows two functions have one value
abbrev pub agreements : Rows → Rows → ℕ
agreements f t = count_rows (2 ^ f.vars) (λ r. not (bit_xor2 (row f r) (row t r)))

-- the function of n variables whose row r is bit r of a number
abbrev pub word_rows : ℕ → ℕ → Rows
word_rows n w = by_rows n (is_set w)

-- the functions of n variables that are given as numbers
abbrev pub words_rows : ℕ → List ℕ → List Rows
words_rows n ws = map (word_rows n) ws

-- the columns at the beginning: false, and the variables in order
unfoldable pub first_pool : ℕ → List Rows
first_pool n = constant_rows n false ∷ map (variable_rows n) (range_with_len 0 n)

-- the column at a place
abbrev pub column : ℕ → List Rows → ℕ → Rows
column n pool i = get_or pool i (constant_rows n false)

-- a column, complemented where the bit of the complements is set
abbrev pub operand : ℕ → List Rows → ℕ → Bool → ℕ → Bool
operand n pool i complement r = bit_xor2 complement (row (column n pool i) r)

-- the majority of three columns with their complements
unfoldable pub candidate_rows : ℕ → List Rows → Candidate → Rows
candidate_rows n pool x = by_rows n (λ r. apply Maj (operand n pool x.first (is_set x.complements 0) r) (operand n pool x.second (is_set x.complements 1) r) (operand n pool x.third (is_set x.complements 2) r))

-- in how many rows a candidate agrees with f
abbrev pub score : Rows → List Rows → Candidate → ℕ
score f pool x = agreements f (candidate_rows f.vars pool x)

-- a candidate of three of so many columns
pub record IsInside (size : ℕ) (x : Candidate) : Type 0 where
  pub first : x.first < size
  pub second : x.second < size
  pub third : x.third < size

-- a candidate with its score
abbrev pub IsScored : Rows → List Rows → Scored → Type 0
IsScored f pool x = x.agreements ≡ score f pool x.candidate

-- ---- all candidates of `size` columns, in order of their places, then of the complements
abbrev pub by_complements : ℕ → ℕ → ℕ → List Candidate
by_complements i j k = map (λ c. record { first = i; second = j; third = k; complements = c }) (range_with_len 0 8)

abbrev pub by_third : ℕ → ℕ → ℕ → List Candidate
by_third size i j = flat_map (λ k. by_complements i j k) (range_with_len (j + 1) (size - (j + 1)))

abbrev pub by_second : ℕ → ℕ → List Candidate
by_second size i = flat_map (λ j. by_third size i j) (range_with_len (i + 1) (size - (i + 1)))

abbrev pub candidates : ℕ → List Candidate
candidates size = flat_map (λ i. by_second size i) (range_with_len 0 size)

abbrev pub first_candidate : Candidate
first_candidate = record { first = 0; second = 1; third = 2; complements = 0 }

-- of the first and the others the first of those with the greatest score
unfoldable pub best_of : {A : Type 0} → (A → ℕ) → A → List A → A
best_of score b [] = b
best_of score b (x ∷ xs) = best_of score (cond (ltb (score b) (score x)) x b) xs

-- the candidate that agrees with f in most rows, the first of those that do
abbrev pub best_candidate : Rows → List Rows → Candidate
best_candidate f pool = best_of (score f pool) first_candidate (candidates (length pool))

-- in how many rows a column agrees with f, plain or complemented, whichever is more
abbrev pub reach : Rows → Rows → ℕ
reach f t = max (agreements f t) (agreements f (not_rows t))

-- the greatest reach of the columns
unfoldable pub pool_reach : Rows → List Rows → ℕ
pool_reach f [] = 0
pool_reach f (t ∷ ts) = max (reach f t) (pool_reach f ts)

-- ---- the procedure
-- the literal of the column at a place
abbrev pub lit_at : ℕ → Bool → Lit
lit_at i complement = record { 0 = 2 * i + bit_of complement }

-- the step of a candidate: columns stand at the places of the recipe
abbrev pub step_of : Candidate → Step
step_of x = record { op = Maj; a = lit_at x.first (is_set x.complements 0); b = lit_at x.second (is_set x.complements 1); c = lit_at x.third (is_set x.complements 2) }

-- a step, and then those of the turns that follow
abbrev pub with_step : Step → Option Laid → Option Laid
with_step s None = None
with_step s (Some l) = Some (record { steps = s ∷ l.steps; root = l.root })

-- the turn of a candidate with so many agreements of so many rows: none where it agrees in no more rows than a column does;
-- its step, and the end where it agrees in all; and else its step and what follows
abbrev pub turn_of : ℕ → ℕ → ℕ → Candidate → ℕ → Option Laid → Option Laid
turn_of agreements reached rows x place later = cond (leb agreements reached) None (cond (agreements == rows) (Some (record { steps = step_of x ∷ []; root = plain place })) (with_step (step_of x) later))

-- the steps of up to so many turns: none where they don't end
unfoldable pub turns : ℕ → Rows → List Rows → Option Laid
turns zero f pool = None
turns (suc k) f pool =
    let x : Candidate = best_candidate f pool in
    turn_of (score f pool x) (pool_reach f pool) (2 ^ f.vars) x (length pool) (turns k f (pool ++ candidate_rows f.vars pool x ∷ []))

-- what the turns do to a recipe: their steps are added, and the answer is their root; none where they don't end
abbrev pub HasTurned : RecipeValue → RecipeValue → Option Lit → Option Laid → Type 0
HasTurned old new answer o = MatchOption o (answer ≡ None) (λ l. (answer ≡ Some l.root) × (new ≡ record old { steps = old.steps ++ l.steps }) × (place l.root < next_place new))

-- the function of a literal over a pool
abbrev pub literal_rows : ℕ → List Rows → ℕ → Rows
literal_rows n pool l = cond (l % 2 == 1) (not_rows (column n pool (l / 2))) (column n pool (l / 2))

-- the first of the literals of a list whose function is f
unfoldable pub literal_among : Rows → List Rows → List ℕ → Option Lit
literal_among f pool [] = None
literal_among f pool (l ∷ ls) = cond (equal_rows (literal_rows f.vars pool l) f) (Some (record { 0 = l })) (literal_among f pool ls)

-- the constant or the literal that f is
abbrev pub literal_of : Rows → Option Lit
literal_of f = literal_among f (first_pool f.vars) (range_with_len 0 (2 * (f.vars + 1)))

abbrev pub by_turns : Rows → Option Laid → RecipeValue
by_turns f None = shannon_of f
by_turns f (Some l) = record { leaves = f.vars; steps = l.steps; root = l.root }

abbrev pub by_literal : Rows → Option Lit → RecipeValue
by_literal f None = by_turns f (turns 8 f (first_pool f.vars))
by_literal f (Some l) = record { leaves = f.vars; steps = []; root = l }

-- the recipe of f: a constant or a literal at once; else up to eight turns; where they don't end, the Shannon expansion
abbrev pub majority_of : Rows → RecipeValue
majority_of f = by_literal f (literal_of f)
