-- Factored forms of covers: algebraic division by the literal that stands in most cubes. Source: R. K. Brayton, "Factoring
-- Logic Functions", IBM Journal of Research and Development 31 (1987); here literals are the only divisors.
use Rattle.std.specs.Prelude.{Result, Err, IsOk, OnOk, IfOk, ◌≡◌, ◌≤◌, ◌<◌, ℕ, zero, suc, ◌+◌, ◌-◌, ◌*◌, ◌%◌, length, Bool, true, false, not, cond, List, [], ◌∷◌, ◌++◌, ◌==◌, ◌&&◌, nat_lt, nat_le, map}
use Rattle.std.specs.List.{list_any, count_by, filter, sum_by}
use mathlib.Core.Bool.{beq}
use lib.ListN.{get_or}
use Rattle.lnet_tables.specs.Bits.{bit_of, is_set}
use Rattle.lnet_tables.specs.declared.step.Lit.{Lit}
use Rattle.lnet_tables.specs.Recipes.{RecipeValue, place, next_place}
use Rattle.lnet_tables.specs.Shannon.{Laid, given, after, and_at, or_at}
use Rattle.lnet_sop.specs.declared.cover.Cube.{Cube}
use Rattle.lnet_sop.specs.declared.factoring.FactorError.{FactorError}
use Rattle.lnet_sop.specs.declared.factoring.FactorError.TheVariants.{Full}
use Rattle.lnet_sop.specs.Covers.{CoverValue}
use Rattle.lnet_sop.specs.Isop.{universe}
use Rattle.lnet_sop.specs.Irredundant.{without}

-- ---- literals
-- the literals of the leaves in order, as a recipe names them: by variable, the plain one before the complemented one
abbrev pub literal : ℕ → Lit
literal k = record { 0 = k + 2 }

-- the variable of a leaf's literal
abbrev pub variable_of : Lit → ℕ
variable_of l = place l - 1

-- whether a literal stands in a cube
abbrev pub stands_in : Lit → Cube → Bool
stands_in l c = is_set c.care (variable_of l) && beq (is_set c.value (variable_of l)) (l.0 % 2 == 0)

-- the cube's literal of a variable that it cares about
abbrev pub literal_of : Cube → ℕ → Lit
literal_of c i = record { 0 = 2 * (i + 1) + bit_of (not (is_set c.value i)) }

-- in how many cubes a literal stands
abbrev pub uses : List Cube → Lit → ℕ
uses cs l = count_by (stands_in l) cs

-- of the first k literals the first of those that stand in most cubes
unfoldable pub most_common : ℕ → List Cube → Lit
most_common zero cs = literal 0
most_common (suc k) cs = cond (nat_lt (uses cs (most_common k cs)) (uses cs (literal k))) (literal k) (most_common k cs)

-- the cubes in which a literal stands, without it
abbrev pub quotient : Lit → List Cube → List Cube
quotient l cs = map (without (variable_of l)) (filter (stands_in l) cs)

-- the other cubes
abbrev pub remainder : Lit → List Cube → List Cube
remainder l cs = filter (λ c. not (stands_in l c)) cs

-- whether a cube has no literal
abbrev pub is_universe : Cube → Bool
is_universe c = c.care == 0

-- ---- steps from place p
-- the and of a, which may be true, and b
abbrev pub product_at : ℕ → Lit → Lit → Laid
product_at p a b = cond (a.0 == 1) (given b) (and_at p a b)

-- the or of a, which may be false, and b
abbrev pub sum_at : ℕ → Lit → Lit → Laid
sum_at p a b = cond (a.0 == 0) (given b) (or_at p a b)

-- the and of a literal and a quotient, which may be true
abbrev pub multiple_at : ℕ → Lit → Lit → Laid
multiple_at p l q = cond (q.0 == 1) (given l) (and_at p l q)

-- the and of a, which may be true, and the cube's literal of a variable, where it has one
abbrev pub literal_at : ℕ → Lit → Cube → ℕ → Laid
literal_at p a c i = cond (is_set c.care i) (product_at p a (literal_of c i)) (given a)

-- the and of a cube's literals of the first n variables, from the first to the last: true where there is none
unfoldable pub conjunction : ℕ → ℕ → Cube → Laid
conjunction zero p c = given (record { 0 = 1 })
conjunction (suc n) p c =
    let front : Laid = conjunction n p c in
    after front (literal_at (p + length front.steps) front.root c n)

-- the or of a, which may be false, and a cube of n variables, whose steps come first
abbrev pub cube_at : ℕ → ℕ → Lit → Cube → Laid
cube_at n p a c =
    let cube : Laid = conjunction n p c in
    after cube (sum_at (p + length cube.steps) a cube.root)

-- the or of the first k cubes, from the first to the last: false where there is none
unfoldable pub disjunction : ℕ → ℕ → ℕ → List Cube → Laid
disjunction zero n p cs = given (record { 0 = 0 })
disjunction (suc k) n p cs =
    let front : Laid = disjunction k n p cs in
    after front (cube_at n (p + length front.steps) front.root (get_or cs k universe))

-- ---- the procedure
-- the or of t and the form of the cubes that are left, if there are any
abbrev pub with_rest : (ℕ → List Cube → Laid) → ℕ → Lit → List Cube → Laid
with_rest f p t [] = given t
with_rest f p t (c ∷ cs) =
    let r : Laid = f p (c ∷ cs) in
    after r (or_at (p + length r.steps) t r.root)

-- the cubes divided by a literal: the form of the quotient, its and with the literal, and the or with the rest
abbrev pub divided : (ℕ → List Cube → Laid) → ℕ → Lit → List Cube → Laid
divided f p l cs =
    let q : Laid = f p (quotient l cs) in
    let t : Laid = multiple_at (p + length q.steps) l q.root in
    after q (after t (with_rest f (p + length q.steps + length t.steps) t.root (remainder l cs)))

-- by the literal that stands in most cubes; the flag says that it stands in one at most
abbrev pub by_literal : Bool → (ℕ → List Cube → Laid) → ℕ → ℕ → Lit → List Cube → Laid
by_literal true f n p l cs = disjunction (length cs) n p cs
by_literal false f n p l cs = divided f p l cs

-- true where a cube has no literal, as the flag says
abbrev pub by_universe : Bool → (ℕ → List Cube → Laid) → ℕ → ℕ → List Cube → Laid
by_universe true f n p cs = given (record { 0 = 1 })
by_universe false f n p cs =
    let l : Lit = most_common (2 * n) cs in
    by_literal (nat_le (uses cs l) 1) f n p l cs

-- one turn: f p cs gives the form of fewer literals
abbrev pub form_by : (ℕ → List Cube → Laid) → ℕ → ℕ → List Cube → Laid
form_by f n p cs = by_universe (list_any is_universe cs) f n p cs

-- more than there are turns one in another: each takes a literal from a cube or a cube from the list
abbrev pub turns : List Cube → ℕ
turns cs = sum_by (λ c. c.care) cs + 1

unfoldable pub form_in : ℕ → ℕ → ℕ → List Cube → Laid
form_in zero n p cs = given (record { 0 = 0 })
form_in (suc k) n p cs = form_by (λ q ds. form_in k n q ds) n p cs

-- the factored form of cubes of n variables, as steps from place p: no cube gives false, a cube without literals gives
-- true, one cube gives its conjunction
unfoldable pub form_of : ℕ → ℕ → List Cube → Laid
form_of n p cs = form_in (turns cs) n p cs

-- the factored form of a cover, as a recipe without a limit on its steps
abbrev pub factored_of : CoverValue → RecipeValue
factored_of c = record {
  leaves = c.vars;
  steps = (form_of c.vars (c.vars + 1) c.cubes).steps;
  root = (form_of c.vars (c.vars + 1) c.cubes).root;
}

-- ---- what the call does to a recipe
-- what pushing the steps of x onto a recipe does, where memory may run out: where it is done they are added, and the answer
-- is the literal that reads them; it is refused as full only where 128 are passed
pub record Forms (old new : RecipeValue) (answer : Result Lit FactorError) (x : Laid) : Type 0 where
  pub fits : IsOk answer → length old.steps + length x.steps ≤ 128
  pub full : answer ≡ Err Full → 128 < length old.steps + length x.steps
  pub steps : OnOk answer (new ≡ record old { steps = old.steps ++ x.steps })
  pub root : IfOk answer (λ l. l ≡ x.root)
  pub inside : IfOk answer (λ l. place l < next_place new)
