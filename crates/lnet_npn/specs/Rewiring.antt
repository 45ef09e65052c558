-- A recipe of a transformed function: its leaves and its root are changed, and its steps stay in their places.
use Rattle.std.specs.Prelude.{ℕ, ◌+◌, ◌-◌, ◌*◌, ◌%◌, Bool, cond, map, leb}
use mathlib.Core.Bool.{◌&&◌}
use lib.ListN.{get_or}
use Rattle.lnet_tables.specs.Bits.{is_set}
use Rattle.lnet_tables.specs.declared.step.Lit.{Lit}
use Rattle.lnet_tables.specs.declared.step.Step.{Step}
use Rattle.lnet_tables.specs.Recipes.{RecipeValue, place}
use Rattle.lnet_tables.specs.Shannon.{other}
use Rattle.lnet_npn.specs.declared.transforms.Transform.{Transform}

-- a literal, or its complement
abbrev pub complemented_if : Bool → Lit → Lit
complemented_if c l = cond c (other l) l

-- whether a place is one of the four leaves
abbrev pub is_leaf : ℕ → Bool
is_leaf p = leb 1 p && leb p 4

-- the literal of the place of variable i's new name, with the same complement
abbrev pub renamed : Transform → Lit → Lit
renamed t l = record { 0 = 2 * (get_or t.order (place l - 1) 0 + 1) + l.0 % 2 }

-- the literal in place of a literal: of leaf i, leaf order[i], complemented where bit i of the flips is set
unfoldable pub rewired_lit : Transform → Lit → Lit
rewired_lit t l = cond (is_leaf (place l)) (complemented_if (is_set t.flips (place l - 1)) (renamed t l)) l

-- a step with its operands rewired
abbrev pub rewired_step : Transform → Step → Step
rewired_step t s = record { op = s.op; a = rewired_lit t s.a; b = rewired_lit t s.b; c = rewired_lit t s.c }

-- a recipe with its leaves and its root rewired
abbrev pub rewired : Transform → RecipeValue → RecipeValue
rewired t r = record { leaves = r.leaves; steps = map (rewired_step t) r.steps; root = complemented_if t.out (rewired_lit t r.root) }
