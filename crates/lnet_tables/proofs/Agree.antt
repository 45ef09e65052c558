-- Whole tables go as the rows do.
use Rattle.std.proofs.Common.{◌≡◌, ℕ, ◌+◌, ◌%◌, ◌<◌, Bool, true, false, cond, List, [], ◌∷◌, ◌++◌, map, length, take, refl, sym, ◌∙◌, ap, arith, ◌==◌, suc, zero, get_or, inl, inr, not, add-zero}
use Rattle.std.specs.Prelude.{◌&&◌}
use Rattle.std.specs.List.{range_with_len}
use Rattle.std.proofs.lemmas.Bool.{cases_lt}
use Rattle.std.proofs.lemmas.List.{take_more, get_or_append_left, get_or_push, length_push}
use Rattle.std.proofs.lemmas.List.FromFn.{get_or-map-range_with_len, length-map-range_with_len}
use Rattle.lnet_tables.specs.Bits.{Rows, by_rows, is_set, bit_xor2, and_rows, xor_rows, not_rows, variable_rows}
use Rattle.lnet_tables.specs.Inverse.{row_inside}
use Rattle.lnet_tables.proofs.Ops.{same_rows}
use Rattle.lnet_tables.specs.declared.step.Lit.{Lit}
use Rattle.lnet_tables.specs.declared.step.StepOp.{StepOp}
use Rattle.lnet_tables.specs.declared.step.StepOp.TheVariants.{And, Xor, Maj}
use Rattle.lnet_tables.specs.declared.step.Step.{Step}
use Rattle.lnet_tables.specs.Recipes.{RecipeValue, place, apply, lit_value, step_value, run, leaf_values, sim, StepFits, IsRecipe}
use Rattle.lnet_tables.specs.WholeTables.{nothing, lit_rows, op_rows, step_rows, run_rows, leaf_rows, AllOf}

-- ---- operations on tables that are given by their rows
pub not_by : (n : ℕ) (f : ℕ → Bool) → not_rows (by_rows n f) ≡ by_rows n (λ r. not (f r))
not_by n f = same_rows n _ _ (λ r lt. rw (row_inside n f r lt) refl)

pub and_by : (n : ℕ) (f g : ℕ → Bool) → and_rows (by_rows n f) (by_rows n g) ≡ by_rows n (λ r. f r && g r)
and_by n f g = same_rows n _ _ (λ r lt. rw (row_inside n f r lt, row_inside n g r lt) refl)

pub xor_by : (n : ℕ) (f g : ℕ → Bool) → xor_rows (by_rows n f) (by_rows n g) ≡ by_rows n (λ r. bit_xor2 (f r) (g r))
xor_by n f g = same_rows n _ _ (λ r lt. rw (row_inside n f r lt, row_inside n g r lt) refl)

maj_is : (a b c : Bool) → bit_xor2 (a && b) (c && bit_xor2 a b) ≡ apply Maj a b c
maj_is true true true = refl
maj_is true true false = refl
maj_is true false true = refl
maj_is true false false = refl
maj_is false true true = refl
maj_is false true false = refl
maj_is false false true = refl
maj_is false false false = refl

op_by : (op : StepOp) (n : ℕ) (f g h : ℕ → Bool) → op_rows op (by_rows n f) (by_rows n g) (by_rows n h) ≡ by_rows n (λ r. apply op (f r) (g r) (h r))
op_by And n f g h = and_by n f g
op_by Xor n f g h = xor_by n f g
op_by Maj n f g h =
    ap (λ (x : Rows). xor_rows x (and_rows (by_rows n h) (xor_rows (by_rows n f) (by_rows n g)))) (and_by n f g)
    ∙ ap (λ (x : Rows). xor_rows (by_rows n (λ r. f r && g r)) (and_rows (by_rows n h) x)) (xor_by n f g)
    ∙ ap (λ (x : Rows). xor_rows (by_rows n (λ r. f r && g r)) x) (and_by n h (λ r. bit_xor2 (f r) (g r)))
    ∙ xor_by n (λ r. f r && g r) (λ r. h r && bit_xor2 (f r) (g r))
    ∙ same_rows n _ _ (λ r lt. maj_is (f r) (g r) (h r))

-- the places' tables have the places' values as rows
pub record Holds (n : ℕ) (ts : List Rows) (vs : ℕ → List Bool) : Type 0 where
  pub long : (r : ℕ) → length (vs r) ≡ length ts
  pub at : (p : ℕ) → p < length ts → get_or ts p nothing ≡ by_rows n (λ r. get_or (vs r) p false)

pub lit_holds : (n : ℕ) (ts : List Rows) (vs : ℕ → List Bool) → Holds n ts vs → (l : Lit) → place l < length ts
    → lit_rows ts l ≡ by_rows n (λ r. lit_value (vs r) l)
unfolding lit_rows
lit_holds n ts vs h l lt = go (l.0 % 2 == 1) (place l) lt where
  go : (b : Bool) (p : ℕ) → p < length ts → cond b (not_rows (get_or ts p nothing)) (get_or ts p nothing) ≡ by_rows n (λ r. bit_xor2 b (get_or (vs r) p false))
  go true p lt = rw (h.at p lt) (not_by n (λ r. get_or (vs r) p false))
  go false p lt = h.at p lt

step_holds : (n : ℕ) (ts : List Rows) (vs : ℕ → List Bool) → Holds n ts vs → (s : Step) → StepFits (length ts) s
    → step_rows ts s ≡ by_rows n (λ r. step_value (vs r) s)
unfolding step_rows
step_holds n ts vs h s fits =
    rw (lit_holds n ts vs h s.a fits.a, lit_holds n ts vs h s.b fits.b, lit_holds n ts vs h s.c fits.c) (op_by s.op n _ _ _)

holds_more : (n : ℕ) (ts : List Rows) (vs : ℕ → List Bool) → Holds n ts vs → (s : Step) → StepFits (length ts) s
    → Holds n (ts ++ step_rows ts s ∷ []) (λ r. vs r ++ step_value (vs r) s ∷ [])
holds_more n ts vs h s fits = record {
  long = λ r. length_push (vs r) (step_value (vs r) s) ∙ ap (λ k. k + 1) (h.long r) ∙ sym (length_push ts (step_rows ts s));
  at = λ p lt. elim (cases_lt p (length ts)) [
    | inl l ↦ get_or_append_left ts (step_rows ts s ∷ []) nothing p l ∙ h.at p l
        ∙ same_rows n _ _ (λ r b. sym (get_or_append_left (vs r) (step_value (vs r) s ∷ []) false p (omega (arith, h.long r))))
    | inr g ↦
        let e : length ts ≡ p = omega (arith, length_push ts (step_rows ts s)) in
        get_or_push ts (step_rows ts s) nothing p e ∙ step_holds n ts vs h s fits
        ∙ same_rows n _ _ (λ r b. sym (get_or_push (vs r) (step_value (vs r) s) false p (h.long r ∙ e)))
  ];
}

pub run_holds : (n : ℕ) (ss : List Step) (ts : List Rows) (vs : ℕ → List Bool) → Holds n ts vs
    → ((i : ℕ) (d : Step) → i < length ss → StepFits (length ts + i) (get_or ss i d))
    → Holds n (run_rows ss ts) (λ r. run ss (vs r))
run_holds n [] ts vs h fits = h
run_holds n (s ∷ ss) ts vs h fits =
    let here : StepFits (length ts) s = rw (sym (add-zero (length ts))) (fits 0 s (omega arith)) in
    run_holds n ss (ts ++ step_rows ts s ∷ []) (λ r. vs r ++ step_value (vs r) s ∷ []) (holds_more n ts vs h s here)
    (λ i d lt. let e : length (ts ++ step_rows ts s ∷ []) + i ≡ length ts + suc i = omega (arith, length_push ts (step_rows ts s)) in rw e (fits (suc i) d (omega arith)))

-- ---- the leaves
pub leaves_long : (n : ℕ) → length (leaf_rows n) ≡ n + 1
unfolding leaf_rows
leaves_long n = omega (arith, length-map-range_with_len (variable_rows n) 0 n)

pub leaves_hold : (n : ℕ) → Holds n (leaf_rows n) (leaf_values n)
unfolding leaf_rows leaf_values
leaves_hold n = record {
  long = λ r. ap suc (length-map-range_with_len (is_set r) 0 n ∙ sym (length-map-range_with_len (variable_rows n) 0 n));
  at = go;
} where
  go : (p : ℕ) → p < suc (length (map (variable_rows n) (range_with_len 0 n))) → get_or (leaf_rows n) p nothing ≡ by_rows n (λ r. get_or (leaf_values n r) p false)
  go zero lt = refl
  go (suc p) lt =
      let b : p < n = omega (arith, length-map-range_with_len (variable_rows n) 0 n) in
      get_or-map-range_with_len (variable_rows n) 0 n p p nothing b (omega arith)
      ∙ same_rows n _ _ (λ r l. sym (get_or-map-range_with_len (is_set r) 0 n p p false b (omega arith)))

-- ---- the code's loop
pub run_push : (ss : List Step) (s : Step) (ts : List Rows) → run_rows (ss ++ s ∷ []) ts ≡ run_rows ss ts ++ step_rows (run_rows ss ts) s ∷ []
run_push [] s ts = refl
run_push (x ∷ ss) s ts = run_push ss s (ts ++ step_rows ts x ∷ [])

pub run_more : (ss : List Step) (i : ℕ) (d : Step) (ts : List Rows) → i < length ss
    → run_rows (take (i + 1) ss) ts ≡ run_rows (take i ss) ts ++ step_rows (run_rows (take i ss) ts) (get_or ss i d) ∷ []
run_more ss i d ts lt = ap (λ (x : List Step). run_rows x ts) (take_more ss i d lt) ∙ run_push (take i ss) (get_or ss i d) ts

pub all_from_holds : (n : ℕ) (ts : List Rows) (vs : ℕ → List Bool) → Holds n ts vs → AllOf n ts
all_from_holds n ts vs h = record { at = λ p lt. ap (λ (t : Rows). t.vars) (h.at p lt) }

pub all_more : (n : ℕ) (ts : List Rows) (t : Rows) → AllOf n ts → t.vars ≡ n → AllOf n (ts ++ t ∷ [])
all_more n ts t h e = record {
  at = λ p lt. elim (cases_lt p (length ts)) [
    | inl l ↦ rw (get_or_append_left ts (t ∷ []) nothing p l) (h.at p l)
    | inr g ↦ rw (get_or_push ts t nothing p (omega (arith, length_push ts t))) e
  ];
}

pub run_long : (ss : List Step) (ts : List Rows) → length (run_rows ss ts) ≡ length ts + length ss
run_long [] ts = sym (add-zero (length ts))
run_long (s ∷ ss) ts = run_long ss (ts ++ step_rows ts s ∷ []) ∙ omega (arith, length_push ts (step_rows ts s))

pub root_sim : (n : ℕ) (ss : List Step) (root : Lit) → IsRecipe n ss root
    → lit_rows (run_rows ss (leaf_rows n)) root ≡ sim (let r : RecipeValue = record { leaves = n; steps = ss; root = root } in r)
root_sim n ss root fine =
    let h : Holds n (run_rows ss (leaf_rows n)) (λ r. run ss (leaf_values n r)) =
    run_holds n ss (leaf_rows n) (leaf_values n) (leaves_hold n) (λ i d lt. rw (leaves_long n) (fine.each i d lt)) in
    lit_holds n _ _ h root (rw (run_long ss (leaf_rows n), leaves_long n) fine.top_fits)
