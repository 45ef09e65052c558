-- A recipe that is made of the plans of another's steps, on the way.
use Rattle.std.proofs.Common.{◌≡◌, ℕ, suc, ◌+◌, ◌%◌, ◌^◌, ◌<◌, ◌≤◌, ◌==◌, Bool, true, false, cond, List, [], ◌∷◌, ◌++◌, length, drop, get_or, refl, sym, ◌∙◌, ap, arith, lit<, add-one, drop-cons, length-append, length-drop, inl, inr, Some}
use Rattle.std.specs.Prelude.{slice_get}
use Rattle.std.proofs.lemmas.Bool.{cases_lt}
use Rattle.std.proofs.lemmas.List.{get_or_append_left, get_or_push, length_push, nil_from_length}
use Rattle.std.proofs.Math.Nat.{pow-le-pow_right}
use Rattle.std.proofs.lemmas.List.FromFn.{length-map-range_with_len}
use Rattle.std.proofs.lemmas.Option.{get_or_from_slice_get}
use Rattle.lnet_tables.specs.Bits.{by_rows, is_set}
use Rattle.lnet_tables.specs.Words.{word_bit}
use Rattle.lnet_tables.specs.declared.step.Lit.{Lit}
use Rattle.lnet_tables.specs.declared.step.Step.{Step}
use Rattle.lnet_tables.specs.Recipes.{RecipeValue, place, next_place}
use Rattle.lnet_tables.specs.Weights.{weight}
use Rattle.lnet_tables.specs.Shannon.{Laid, plain, other}
use Rattle.lnet_tables.proofs.Ops.{same_rows}
use Rattle.lnet_tables.proofs.WordRows.{first_row}
use Rattle.lnet_tables.proofs.ShannonSteps.{place_other, place_plain}
use Rattle.lnet_gates.specs.declared.gate.Kind.{Kind}
use Rattle.lnet_gates.specs.StepPlans.{step_plan, cost}
use Rattle.lnet_gates.specs.Remade.{Remaking, renamed, remade, leaf_lits, rooted, native_recipe}
use Rattle.lnet_gates.specs.Plans.{lut_rows}
use Rattle.lnet_gates.specs.Laying.{HasLaid, AllInside}
use Rattle.lnet_gates.proofs.StepPlanMeans.{step_plan_cost}
use Rattle.lnet_gates.proofs.RemadeMeans.{no_lit, begun, leaf_lit}

-- ---- literals
flipped_place : (b : Bool) (l : Lit) → place (cond b (other l) l) ≡ place l
flipped_place true l = place_other l
flipped_place false l = refl

pub renamed_inside : (n : ℕ) (lits : List Lit) (l : Lit) → AllInside n lits → place l < length lits → place (renamed lits l) < n
renamed_inside n lits l h lt = rw (flipped_place (l.0 % 2 == 1) (get_or lits (place l) no_lit)) (h.at (place l) lt)

inside_more : (m n : ℕ) (lits : List Lit) (l : Lit) → AllInside m lits → m ≤ n → place l < n → AllInside n (lits ++ l ∷ [])
inside_more m n lits l h le lt = record {
  at = λ p below. elim (cases_lt p (length lits)) [
    | inl in_lits ↦ rw (get_or_append_left lits (l ∷ []) no_lit p in_lits) (omega (arith, h.at p in_lits))
    | inr ge ↦ rw (get_or_push lits l no_lit p (omega (arith, length_push lits l))) lt
  ];
}

leaves_inside : (n : ℕ) → AllInside (next_place (begun n)) (leaf_lits n)
leaves_inside n = record {
  at = λ p below.
      let lt : p < n + 1 = omega (arith, length-map-range_with_len plain 0 (n + 1)) in
      rw (leaf_lit n p lt, place_plain p) (omega arith);
}

-- ---- the steps
-- the first i steps of the whole are laid on t, and lits has the new literals of the places so far
pub record Underway (kind : Kind) (whole : RecipeValue) (i : ℕ) (t : RecipeValue) (lits : List Lit) : Type 0 where
  pub rest : remade kind (drop i whole.steps) t lits ≡ remade kind whole.steps (begun whole.leaves) (leaf_lits whole.leaves)
  pub long : length lits ≡ whole.leaves + 1 + i
  pub inside : AllInside (next_place t) lits
  pub room : length t.steps + weight (cost kind) (drop i whole.steps) ≤ 124

pub underway_begun : (kind : Kind) (whole t : RecipeValue) (lits : List Lit) → t ≡ begun whole.leaves → lits ≡ leaf_lits whole.leaves
    → weight (cost kind) whole.steps ≤ 124 → Underway kind whole 0 t lits
underway_begun kind whole t lits e f few =
    rw (e, f) (record {
      rest = refl;
      long = length-map-range_with_len plain 0 (whole.leaves + 1) ∙ omega arith;
      inside = leaves_inside whole.leaves;
      room = omega arith;
    })

pub underway_more : (kind : Kind) (whole : RecipeValue) (i : ℕ) (s : Step) (t u : RecipeValue) (lits : List Lit) (l : Lit)
    → slice_get whole.steps i ≡ Some s → i < length whole.steps → Underway kind whole i t lits
    → HasLaid t u l (step_plan kind s.op (next_place t) (renamed lits s.a) (renamed lits s.b) (renamed lits s.c))
    → Underway kind whole (i + 1) u (lits ++ l ∷ [])
underway_more kind whole i s t u lits l at lt h laid =
    let x : Laid = step_plan kind s.op (next_place t) (renamed lits s.a) (renamed lits s.b) (renamed lits s.c) in
    let next : drop i whole.steps ≡ s ∷ drop (i + 1) whole.steps =
    drop-cons whole.steps i s lt ∙ ap (λ (d : Step). d ∷ drop (suc i) whole.steps) (get_or_from_slice_get whole.steps i s s at)
    ∙ ap (λ (k : ℕ). s ∷ drop k whole.steps) (sym (add-one i)) in
    let grew : length u.steps ≡ length t.steps + cost kind s.op =
    ap (λ (v : RecipeValue). length v.steps) laid.steps ∙ length-append t.steps x.steps
    ∙ ap (λ (n : ℕ). length t.steps + n) (step_plan_cost kind s.op (next_place t) (renamed lits s.a) (renamed lits s.b) (renamed lits s.c)) in
    let left : weight (cost kind) (drop i whole.steps) ≡ cost kind s.op + weight (cost kind) (drop (i + 1) whole.steps) = ap (weight (cost kind)) next in
    record {
      rest =
          ap (λ (v : RecipeValue). remade kind (drop (i + 1) whole.steps) v (lits ++ l ∷ [])) laid.steps
          ∙ ap (λ (k : Lit). remade kind (drop (i + 1) whole.steps) (record { leaves = t.leaves; steps = t.steps ++ x.steps; root = t.root }) (lits ++ k ∷ [])) laid.root
          ∙ ap (λ (ss : List Step). remade kind ss t lits) (sym next)
          ∙ h.rest;
      long = length_push lits l ∙ omega (arith, h.long);
      inside = inside_more (next_place t) (next_place u) lits l h.inside (omega (arith, laid.few, grew)) laid.inside;
      room = omega (arith, h.room, grew, left);
    }

drop_all : (ss : List Step) (i : ℕ) → length ss ≤ i → drop i ss ≡ []
drop_all ss i le = nil_from_length (drop i ss) (omega (arith, length-drop i ss))

-- the root renamed, once every step is laid
pub underway_done : (kind : Kind) (whole : RecipeValue) (i : ℕ) (t u : RecipeValue) (lits : List Lit) (l : Lit) → length whole.steps ≤ i
    → Underway kind whole i t lits → l ≡ renamed lits whole.root → u ≡ record { leaves = t.leaves; steps = t.steps; root = l } → u ≡ native_recipe kind whole
underway_done kind whole i t u lits l le h is_root e =
    e ∙ ap (λ (k : Lit). let v : RecipeValue = record { leaves = t.leaves; steps = t.steps; root = k } in v) is_root
    ∙ ap (λ (ss : List Step). rooted (remade kind ss t lits) whole.root) (sym (drop_all whole.steps i le))
    ∙ ap (λ (x : Remaking). rooted x whole.root) h.rest

-- ---- the table of a Lut
rows_few : (n r : ℕ) → n ≤ 6 → r < 2 ^ n → r < 64
rows_few n r few lt = let le : 2 ^ n ≤ 2 ^ 6 = pow-le-pow_right {n = 2} (lit< tt) few in omega arith

pub lut_words : (ws : List ℕ) (n t : ℕ) → get_or ws 0 0 ≡ t → n ≤ 6 → by_rows n (word_bit ws) ≡ lut_rows n t
lut_words ws n t e few =
    same_rows n (word_bit ws) (is_set t) (λ r lt. first_row ws r (rows_few n r few lt) ∙ ap (λ (w : ℕ). is_set w r) e)
