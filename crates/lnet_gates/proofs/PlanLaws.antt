-- The laws of plans: what an operation's recipe computes, and that its native steps fit.
use Rattle.std.proofs.Common.{◌≡◌, ℕ, zero, suc, ◌+◌, ◌*◌, ◌^◌, ◌<◌, ◌≤◌, Bool, true, false, [], ◌∷◌, map, length, refl, sym, ◌∙◌, ap, arith, lit≤, add-zero, inl, inr}
use Rattle.std.proofs.lemmas.Bool.{cases_lt}
use Rattle.std.proofs.lemmas.Nat.Bits.{same_from_bits, bit_at_above}
use Rattle.std.specs.Prelude.{eqb}
use Rattle.std.specs.List.{range_with_len}
use Rattle.std.specs.Int.{bit_at}
use Rattle.lnet_tables.specs.Bits.{is_set, bit_of, number_by}
use Rattle.lnet_tables.specs.Inverse.{bit_inside, bit_outside, bit_of_set}
use Rattle.lnet_tables.specs.declared.step.StepOp.{StepOp}
use Rattle.lnet_tables.specs.declared.step.StepOp.TheVariants.{And as AndStep, Xor as XorStep, Maj as MajStep}
use Rattle.lnet_tables.specs.Recipes.{RecipeValue, sim, leaf_values, apply}
use Rattle.lnet_tables.specs.Weights.{weight}
use Rattle.lnet_tables.proofs.Ops.{same_rows}
use Rattle.lnet_tables.proofs.Rowwise.{rows_long}
use Rattle.lnet_tables.proofs.Below.{below_all}
use Rattle.lnet_tables.proofs.ShannonLaws.{shannon_function}
use Rattle.lnet_tables.proofs.ShannonLength.{Costs, expansion_cheap, most_native}
use Rattle.lnet_gates.specs.declared.gate.Kind.{Kind}
use Rattle.lnet_gates.specs.declared.gate.Kind.TheVariants.{Aig, Xag, Mig, Klut}
use Rattle.lnet_gates.specs.declared.gate.Op.{Op}
use Rattle.lnet_gates.specs.declared.gate.Op.TheVariants.{And, Xor, Maj, Lut}
use Rattle.lnet_gates.specs.Gates.{row_of, maj_of}
use Rattle.lnet_gates.specs.StepPlans.{cost}
use Rattle.lnet_gates.specs.Remade.{leaf_lits, native_recipe}
use Rattle.lnet_gates.specs.Plans.{Takes, lut_rows, recipe_of, operands_at, op_rows}
use Rattle.lnet_gates.proofs.RemadeMeans.{begun, native_sim, native_leaves, remade_long}

-- ---- one step
maj_is : (a b c : Bool) → apply MajStep a b c ≡ maj_of (a ∷ b ∷ c ∷ [])
maj_is true true true = refl
maj_is true true false = refl
maj_is true false true = refl
maj_is true false false = refl
maj_is false true true = refl
maj_is false true false = refl
maj_is false false true = refl
maj_is false false false = refl

and_recipe : sim (recipe_of And 2) ≡ op_rows And 2
unfolding leaf_values
and_recipe = same_rows 2 _ _ (λ r lt. refl)

xor_recipe : sim (recipe_of Xor 2) ≡ op_rows Xor 2
unfolding leaf_values
xor_recipe = same_rows 2 _ _ (λ r lt. refl)

maj_recipe : sim (recipe_of Maj 3) ≡ op_rows Maj 3
unfolding leaf_values
maj_recipe = same_rows 3 _ _ (λ r lt. maj_is (is_set r 0) (is_set r 1) (is_set r 2))

-- ---- tables
row_of_map : (f g : ℕ → Bool) (a n : ℕ) → ((i : ℕ) → f (a + i) ≡ g i) → row_of (map f (range_with_len a n)) ≡ number_by g n
unfolding number_by
row_of_map f g a zero h = refl
row_of_map f g a (suc n) h =
    let first : f a ≡ g 0 = ap f (sym (add-zero a)) ∙ h 0 in
    let rest : row_of (map f (range_with_len (a + 1) n)) ≡ number_by (λ i. g (i + 1)) n =
    row_of_map f (λ i. g (i + 1)) (a + 1) n (λ i. (let e : a + 1 + i ≡ a + (i + 1) = omega arith in ap f e) ∙ h (i + 1)) in
    ap (λ (b : Bool). bit_of b + 2 * row_of (map f (range_with_len (a + 1) n))) first ∙ ap (λ (m : ℕ). bit_of (g 0) + 2 * m) rest

number_of_bits : (n r : ℕ) → r < 2 ^ n → number_by (is_set r) n ≡ r
number_of_bits n r lt = same_from_bits _ _ (λ i. elim (cases_lt i n) [
  | inl lo ↦ bit_inside (is_set r) n i lo ∙ bit_of_set r i
  | inr ge ↦ bit_outside (is_set r) n i ge ∙ sym (bit_at_above r n i lt ge)
])

-- the row of the operands at row r is r
row_of_operands : (n r : ℕ) → r < 2 ^ n → row_of (operands_at n r) ≡ r
row_of_operands n r lt = row_of_map (is_set r) (is_set r) 0 n (λ i. let e : 0 + i ≡ i = omega arith in ap (is_set r) e) ∙ number_of_bits n r lt

lut_recipe : (t n : ℕ) → sim (recipe_of (Lut t) n) ≡ op_rows (Lut t) n
unfolding is_set
lut_recipe t n =
    shannon_function (lut_rows n t) (rows_long n (is_set t))
    ∙ same_rows n (is_set t) _ (λ r lt. ap (λ (k : ℕ). eqb (bit_at t k) 1) (sym (row_of_operands n r lt)))

-- an operation's recipe computes the operation
pub recipe_computes : (op : Op) (n : ℕ) → Takes op n → sim (recipe_of op n) ≡ op_rows op n
recipe_computes And n h = and_recipe ∙ ap (op_rows And) (sym h)
recipe_computes Xor n h = xor_recipe ∙ ap (op_rows Xor) (sym h)
recipe_computes Maj n h = maj_recipe ∙ ap (op_rows Maj) (sym h)
recipe_computes (Lut t) n h = lut_recipe t n

pub plan_computes : (kind : Kind) (op : Op) (n : ℕ) → Takes op n → sim (native_recipe kind (recipe_of op n)) ≡ op_rows op n
plan_computes kind op n h = native_sim kind (recipe_of op n) ∙ recipe_computes op n h

recipe_leaves : (op : Op) (n : ℕ) → Takes op n → (recipe_of op n).leaves ≡ n
recipe_leaves And n h = sym h
recipe_leaves Xor n h = sym h
recipe_leaves Maj n h = sym h
recipe_leaves (Lut t) n h = refl

pub plan_leaves : (kind : Kind) (op : Op) (n : ℕ) → Takes op n → (native_recipe kind (recipe_of op n)).leaves ≡ n
plan_leaves kind op n h = native_leaves kind (recipe_of op n) ∙ recipe_leaves op n h

-- ---- how many steps
costs : (kind : Kind) → Costs (cost kind) 3
costs Aig = record { ands = lit≤ tt; xors = lit≤ tt; some = lit≤ tt; few = lit≤ tt }
costs Xag = record { ands = lit≤ tt; xors = lit≤ tt; some = lit≤ tt; few = lit≤ tt }
costs Mig = record { ands = lit≤ tt; xors = lit≤ tt; some = lit≤ tt; few = lit≤ tt }
costs Klut = record { ands = lit≤ tt; xors = lit≤ tt; some = lit≤ tt; few = lit≤ tt }

few_steps : (kind : Kind) (op : StepOp) → cost kind op + 0 ≤ 93
few_steps Aig AndStep = lit≤ tt
few_steps Aig XorStep = lit≤ tt
few_steps Aig MajStep = lit≤ tt
few_steps Xag AndStep = lit≤ tt
few_steps Xag XorStep = lit≤ tt
few_steps Xag MajStep = lit≤ tt
few_steps Mig AndStep = lit≤ tt
few_steps Mig XorStep = lit≤ tt
few_steps Mig MajStep = lit≤ tt
few_steps Klut AndStep = lit≤ tt
few_steps Klut XorStep = lit≤ tt
few_steps Klut MajStep = lit≤ tt

-- how many native steps an operation's recipe has at most
pub plan_fits : (kind : Kind) (op : Op) (n : ℕ) → Takes op n → weight (cost kind) (recipe_of op n).steps ≤ 93
plan_fits kind And n h = few_steps kind AndStep
plan_fits kind Xor n h = few_steps kind XorStep
plan_fits kind Maj n h = few_steps kind MajStep
plan_fits kind (Lut t) n h =
    omega (arith, expansion_cheap (cost kind) 3 (costs kind) n (n + 1) (lut_rows n t) (omega arith) (below_all (lut_rows n t)), most_native n h)

pub plan_short : (kind : Kind) (op : Op) (n : ℕ) → Takes op n → length (native_recipe kind (recipe_of op n)).steps ≤ 93
plan_short kind op n h =
    let r : RecipeValue = recipe_of op n in
    rw (remade_long kind r.steps (begun r.leaves) (leaf_lits r.leaves)) (omega (arith, plan_fits kind op n h))
