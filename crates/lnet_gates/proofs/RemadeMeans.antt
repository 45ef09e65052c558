-- A recipe made of the steps of a kind has the function of the recipe that it is made of, steps that the gates of the kind
-- have, and as many steps as the weights tell.
use Rattle.std.proofs.Common.{◌≡◌, ℕ, zero, suc, ◌+◌, ◌<◌, ◌≤◌, ◌%◌, ◌==◌, Bool, true, false, cond, List, [], ◌∷◌, ◌++◌, length, get_or, refl, sym, ◌∙◌, ap, subst, arith, rules, length-append, inl, inr}
use Rattle.std.specs.Prelude.{IsTrue}
use Rattle.std.proofs.lemmas.Bool.{cases_lt, cases_eq}
use Rattle.std.proofs.lemmas.List.{get_or_append_left, get_or_push, get_or_past, length_push}
use Rattle.std.proofs.lemmas.List.Elements.{All-append}
use Rattle.std.proofs.lemmas.List.FromFn.{length-map-range_with_len, get_or-map-range_with_len}
use Rattle.lnet_tables.specs.Bits.{by_rows, bit_xor2, is_set}
use Rattle.lnet_tables.specs.declared.step.Lit.{Lit}
use Rattle.lnet_tables.specs.declared.step.Step.{Step}
use Rattle.lnet_tables.specs.declared.step.StepOp.{StepOp}
use Rattle.lnet_tables.specs.declared.step.StepOp.TheVariants.{And, Xor, Maj}
use Rattle.lnet_tables.specs.Recipes.{RecipeValue, place, next_place, run, lit_value, step_value, leaf_values, root_value, sim}
use Rattle.lnet_tables.specs.Means.{Means}
use Rattle.lnet_tables.specs.Weights.{weight}
use Rattle.lnet_tables.specs.Shannon.{Laid, plain, other}
use Rattle.lnet_tables.proofs.Ops.{same_rows}
use Rattle.lnet_tables.proofs.ShannonMeans.{grown, grown_means}
use Rattle.lnet_tables.proofs.Growing.{leaf_length, means_constant, means_leaf, means_other, means_as, means_rooted}
use Rattle.lnet_gates.specs.declared.gate.Kind.{Kind}
use Rattle.lnet_gates.specs.declared.gate.Kind.TheVariants.{Aig, Xag, Mig, Klut}
use Rattle.lnet_gates.specs.StepPlans.{step_plan, cost}
use Rattle.lnet_gates.specs.Remade.{Remaking, renamed, remade, leaf_lits, rooted, native_recipe}
use Rattle.lnet_gates.specs.Plans.{is_native, op_of, AllNative}
use Rattle.lnet_gates.proofs.StepPlanMeans.{step_plan_means, step_plan_cost}

-- the literal that is false
abbrev pub no_lit : Lit
no_lit = record { 0 = 0 }

-- each literal of the list means its place, whose values at the rows are vs; past the end both are false
pub record Holds (t : RecipeValue) (lits : List Lit) (vs : ℕ → List Bool) : Type 0 where
  pub at : (p : ℕ) → Means t (get_or lits p no_lit) (λ r. get_or (vs r) p false)
  pub long : (r : ℕ) → length (vs r) ≡ length lits

-- ---- literals
renamed_by : (t : RecipeValue) (l m : Lit) (b : Bool) (f : ℕ → Bool) → Means t m f → Means t (cond b (other m) m) (λ r. bit_xor2 b (f r))
renamed_by t l m true f h = means_other t m f h
renamed_by t l m false f h = h

-- a renamed literal has the literal's value
renamed_means : (t : RecipeValue) (lits : List Lit) (vs : ℕ → List Bool) (l : Lit) → Holds t lits vs → Means t (renamed lits l) (λ r. lit_value (vs r) l)
renamed_means t lits vs l h = renamed_by t l (get_or lits (place l) no_lit) (l.0 % 2 == 1) (λ r. get_or (vs r) (place l) false) (h.at (place l))

-- ---- one more place
three_ways : (p n : ℕ) (P : Type 0) → (p < n → P) → (p ≡ n → P) → (n < p → P) → P
three_ways p n P f g h = elim (cases_lt p n) [ inl lt ↦ f lt | inr ge ↦ elim (cases_eq p n) [ inl e ↦ g e | inr ne ↦ h (omega arith) ] ]

get_past : {A : Type 0} (xs : List A) (x d : A) (p : ℕ) → length xs < p → get_or (xs ++ x ∷ []) p d ≡ d
get_past xs x d p lt = get_or_past (xs ++ x ∷ []) p d (omega (arith, length_push xs x))

as_at : (t : RecipeValue) (l m : Lit) (f g : ℕ → Bool) → l ≡ m → ((r : ℕ) → f r ≡ g r) → Means t l f → Means t m g
as_at t l m f g e same h = subst (λ (k : Lit). Means t k g) e (means_as t l f g (λ r lt. same r) h)

holds_more : (t u : RecipeValue) (lits : List Lit) (l : Lit) (vs : ℕ → List Bool) (v : ℕ → Bool) → Holds t lits vs
    → ((k : Lit) (f : ℕ → Bool) → Means t k f → Means u k f) → Means u l v → Holds u (lits ++ l ∷ []) (λ r. vs r ++ v r ∷ [])
holds_more t u lits l vs v h kept new = record {
  at = λ p. three_ways p (length lits) (Means u (get_or (lits ++ l ∷ []) p no_lit) (λ r. get_or (vs r ++ v r ∷ []) p false))
      (λ lt. as_at u (get_or lits p no_lit) _ (λ r. get_or (vs r) p false) _ (sym (get_or_append_left lits (l ∷ []) no_lit p lt))
      (λ r. sym (get_or_append_left (vs r) (v r ∷ []) false p (omega (arith, h.long r)))) (kept _ _ (h.at p)))
      (λ e. as_at u l _ v _ (sym (get_or_push lits l no_lit p (sym e))) (λ r. sym (get_or_push (vs r) (v r) false p (h.long r ∙ sym e))) new)
      (λ gt. as_at u no_lit _ (λ r. false) _ (sym (get_past lits l no_lit p gt)) (λ r. sym (get_past (vs r) (v r) false p (omega (arith, h.long r))))
      (means_constant u false no_lit refl));
  long = λ r. omega (arith, h.long r, length_push lits l, length_push (vs r) (v r));
}

-- ---- all steps
remade_holds : (kind : Kind) (ss : List Step) (t : RecipeValue) (lits : List Lit) (vs : ℕ → List Bool) → Holds t lits vs
    → Holds (remade kind ss t lits).recipe (remade kind ss t lits).lits (λ r. run ss (vs r))
remade_holds kind [] t lits vs h = h
remade_holds kind (s ∷ ss) t lits vs h =
    let x : Laid = step_plan kind s.op (next_place t) (renamed lits s.a) (renamed lits s.b) (renamed lits s.c) in
    remade_holds kind ss (grown t x) (lits ++ x.root ∷ []) (λ r. vs r ++ step_value (vs r) s ∷ [])
    (holds_more t (grown t x) lits x.root vs (λ r. step_value (vs r) s) h (λ k f m. grown_means t x k f m)
    (step_plan_means kind s.op t (next_place t) (renamed lits s.a) (renamed lits s.b) (renamed lits s.c)
    (λ r. lit_value (vs r) s.a) (λ r. lit_value (vs r) s.b) (λ r. lit_value (vs r) s.c) refl
    (renamed_means t lits vs s.a h) (renamed_means t lits vs s.b h) (renamed_means t lits vs s.c h)))

-- ---- the leaves
-- the recipe without steps
abbrev pub begun : ℕ → RecipeValue
begun n = record { leaves = n; steps = []; root = no_lit }

pub leaf_lit : (n p : ℕ) → p < n + 1 → get_or (leaf_lits n) p no_lit ≡ plain p
leaf_lit n p lt = get_or-map-range_with_len plain 0 (n + 1) p p no_lit lt (omega arith)

leaf_value : (n r i : ℕ) → i < n → get_or (leaf_values n r) (suc i) false ≡ is_set r i
unfolding leaf_values
leaf_value n r i lt = get_or-map-range_with_len (is_set r) 0 n i i false lt (omega arith)

first_value : (n r : ℕ) → get_or (leaf_values n r) 0 false ≡ false
unfolding leaf_values
first_value n r = refl

leaves_hold : (n : ℕ) → Holds (begun n) (leaf_lits n) (leaf_values n)
leaves_hold n = record { at = at; long = λ r. leaf_length n r ∙ sym (length-map-range_with_len plain 0 (n + 1)) } where
  past : (p : ℕ) → n + 1 ≤ p → Means (begun n) (get_or (leaf_lits n) p no_lit) (λ r. get_or (leaf_values n r) p false)
  past p ge = as_at (begun n) no_lit _ (λ r. false) _
      (sym (get_or_past (leaf_lits n) p no_lit (omega (arith, length-map-range_with_len plain 0 (n + 1)))))
      (λ r. sym (get_or_past (leaf_values n r) p false (omega (arith, leaf_length n r))))
      (means_constant (begun n) false no_lit refl)

  at : (p : ℕ) → Means (begun n) (get_or (leaf_lits n) p no_lit) (λ r. get_or (leaf_values n r) p false)
  at zero = as_at (begun n) (plain 0) _ (λ r. false) _ (sym (leaf_lit n 0 (omega arith))) (λ r. sym (first_value n r)) (means_constant (begun n) false (plain 0) refl)
  at (suc i) = elim (cases_lt i n) [
    | inl lt ↦ as_at (begun n) (plain (suc i)) _ (λ r. is_set r i) _ (sym (leaf_lit n (suc i) (omega arith))) (λ r. sym (leaf_value n r i lt))
        (means_leaf (begun n) i (plain (suc i)) lt (omega arith))
    | inr ge ↦ past (suc i) (omega arith)
  ]

-- ---- the recipe
remade_leaves : (kind : Kind) (ss : List Step) (t : RecipeValue) (lits : List Lit) → (remade kind ss t lits).recipe.leaves ≡ t.leaves
remade_leaves kind [] t lits = refl
remade_leaves kind (s ∷ ss) t lits = remade_leaves kind ss _ _

pub native_leaves : (kind : Kind) (r : RecipeValue) → (native_recipe kind r).leaves ≡ r.leaves
native_leaves kind r = remade_leaves kind r.steps (begun r.leaves) (leaf_lits r.leaves)

-- replacing steps by their plans keeps the function
pub native_sim : (kind : Kind) (r : RecipeValue) → sim (native_recipe kind r) ≡ sim r
native_sim kind r =
    let x : Remaking = remade kind r.steps (begun r.leaves) (leaf_lits r.leaves) in
    let e : x.recipe.leaves ≡ r.leaves = remade_leaves kind r.steps (begun r.leaves) (leaf_lits r.leaves) in
    let h : Means x.recipe (renamed x.lits r.root) (root_value r) =
    renamed_means x.recipe x.lits (λ k. run r.steps (leaf_values r.leaves k)) r.root (remade_holds kind r.steps (begun r.leaves) (leaf_lits r.leaves) (leaf_values r.leaves) (leaves_hold r.leaves)) in
    let m : Means (rooted x r.root) (renamed x.lits r.root) (root_value r) = means_rooted x.recipe (renamed x.lits r.root) (root_value r) h in
    same_rows x.recipe.leaves (root_value (rooted x r.root)) (root_value r) m.value ∙ ap (λ (n : ℕ). by_rows n (root_value r)) e

-- ---- how many steps
pub remade_long : (kind : Kind) (ss : List Step) (t : RecipeValue) (lits : List Lit) → length (remade kind ss t lits).recipe.steps ≡ length t.steps + weight (cost kind) ss
remade_long kind [] t lits = omega arith
remade_long kind (s ∷ ss) t lits =
    let x : Laid = step_plan kind s.op (next_place t) (renamed lits s.a) (renamed lits s.b) (renamed lits s.c) in
    remade_long kind ss (grown t x) (lits ++ x.root ∷ [])
    ∙ omega (arith, length-append t.steps x.steps, step_plan_cost kind s.op (next_place t) (renamed lits s.a) (renamed lits s.b) (renamed lits s.c))

-- ---- native steps
step_plan_native : (kind : Kind) (op : StepOp) (p : ℕ) (a b c : Lit) → AllNative kind (step_plan kind op p a b c).steps
step_plan_native Aig And p a b c = search rules
step_plan_native Xag And p a b c = search rules
step_plan_native Mig And p a b c = search rules
step_plan_native Klut And p a b c = search rules
step_plan_native Aig Xor p a b c = search rules
step_plan_native Xag Xor p a b c = search rules
step_plan_native Mig Xor p a b c = search rules
step_plan_native Klut Xor p a b c = search rules
step_plan_native Aig Maj p a b c = search rules
step_plan_native Xag Maj p a b c = search rules
step_plan_native Mig Maj p a b c = search rules
step_plan_native Klut Maj p a b c = search rules

remade_native : (kind : Kind) (ss : List Step) (t : RecipeValue) (lits : List Lit) → AllNative kind t.steps → AllNative kind (remade kind ss t lits).recipe.steps
remade_native kind [] t lits h = h
remade_native kind (s ∷ ss) t lits h =
    let x : Laid = step_plan kind s.op (next_place t) (renamed lits s.a) (renamed lits s.b) (renamed lits s.c) in
    remade_native kind ss (grown t x) (lits ++ x.root ∷ [])
    (All-append (λ (d : Step). IsTrue (is_native kind (op_of d.op))) t.steps x.steps h (step_plan_native kind s.op (next_place t) (renamed lits s.a) (renamed lits s.b) (renamed lits s.c)))

-- every step of a recipe made of the steps of a kind is native
pub native_steps : (kind : Kind) (r : RecipeValue) → AllNative kind (native_recipe kind r).steps
native_steps kind r = remade_native kind r.steps (begun r.leaves) (leaf_lits r.leaves) (search rules)
