-- What the plans of steps compute, how many steps they have, and that the gates have them.
use Rattle.std.proofs.Common.{◌≡◌, ℕ, ◌+◌, Bool, true, false, not, List, [], ◌∷◌, length, refl, sym, subst, arith, append_assoc, length-append}
use Rattle.std.specs.Prelude.{◌&&◌}
use Rattle.lnet_tables.specs.Bits.{bit_xor2}
use Rattle.lnet_tables.specs.declared.step.Lit.{Lit}
use Rattle.lnet_tables.specs.declared.step.Step.{Step}
use Rattle.lnet_tables.specs.declared.step.StepOp.{StepOp}
use Rattle.lnet_tables.specs.declared.step.StepOp.TheVariants.{And, Xor, Maj}
use Rattle.lnet_tables.specs.Recipes.{RecipeValue, next_place, apply}
use Rattle.lnet_tables.specs.Means.{Means}
use Rattle.lnet_tables.specs.Shannon.{Laid, after, plain, complemented, other}
use Rattle.lnet_tables.proofs.ShannonSteps.{other_plain}
use Rattle.lnet_tables.proofs.ShannonMeans.{grown, and_means, grown_means}
use Rattle.lnet_tables.proofs.Growing.{means_push, means_other, means_constant, means_as}
use Rattle.lnet_gates.specs.declared.gate.Kind.{Kind}
use Rattle.lnet_gates.specs.declared.gate.Kind.TheVariants.{Aig, Xag, Mig, Klut}
use Rattle.lnet_gates.specs.StepPlans.{and_plan, or_plan, either_plan, not_both_plan, most_plan, step_plan, cost}

-- ---- steps in turn
pub one_and : (kind : Kind) (p : ℕ) (a b : Lit) → length (and_plan kind p a b).steps ≡ 1
one_and Aig p a b = refl
one_and Xag p a b = refl
one_and Mig p a b = refl
one_and Klut p a b = refl

one_more : (s : RecipeValue) (x : Laid) (p : ℕ) → p ≡ next_place s → length x.steps ≡ 1 → p + 1 ≡ next_place (grown s x)
one_more s x p e one = omega (arith, length-append s.steps x.steps)

then_means : (s : RecipeValue) (x y : Laid) (l : Lit) (f : ℕ → Bool) → Means (grown (grown s x) y) l f → Means (grown s (after x y)) l f
then_means s x y l f m =
    subst (λ (ss : List Step). Means (record { leaves = s.leaves; steps = ss; root = s.root }) l f) (append_assoc s.steps x.steps y.steps) m

-- ---- and, or
majority_with_false : (a b : Bool) → apply Maj false a b ≡ (a && b)
majority_with_false true b = refl
majority_with_false false b = refl

and_here : (kind : Kind) (s : RecipeValue) (a b : Lit) (f g : ℕ → Bool) → Means s a f → Means s b g
    → Means (grown s (and_plan kind (next_place s) a b)) (plain (next_place s)) (λ r. f r && g r)
and_here Aig s a b f g mf mg = and_means s a b f g mf mg
and_here Xag s a b f g mf mg = and_means s a b f g mf mg
and_here Klut s a b f g mf mg = and_means s a b f g mf mg
and_here Mig s a b f g mf mg =
    means_as _ _ (λ r. apply Maj false (f r) (g r)) (λ r. f r && g r) (λ r lt. majority_with_false (f r) (g r))
    (means_push s (grown s (and_plan Mig (next_place s) a b)) (record { op = Maj; a = record { 0 = 0 }; b = a; c = b }) (plain (next_place s)) refl refl refl
    (λ r. false) f g (means_constant s false (record { 0 = 0 }) refl) mf mg)

and_plan_means : (kind : Kind) (s : RecipeValue) (p : ℕ) (a b : Lit) (f g : ℕ → Bool) → p ≡ next_place s → Means s a f → Means s b g
    → Means (grown s (and_plan kind p a b)) (plain p) (λ r. f r && g r)
and_plan_means kind s p a b f g e mf mg =
    subst (λ (q : ℕ). Means (grown s (and_plan kind q a b)) (plain q) (λ r. f r && g r)) (sym e) (and_here kind s a b f g mf mg)

-- the or of two values, by an and
abbrev either : Bool → Bool → Bool
either a b = not (not a && not b)

or_plan_means : (kind : Kind) (s : RecipeValue) (p : ℕ) (a b : Lit) (f g : ℕ → Bool) → p ≡ next_place s → Means s a f → Means s b g
    → Means (grown s (or_plan kind p a b)) (complemented p) (λ r. either (f r) (g r))
or_plan_means kind s p a b f g e mf mg =
    subst (λ (l : Lit). Means (grown s (or_plan kind p a b)) l (λ r. either (f r) (g r))) (other_plain p)
    (means_other (grown s (or_plan kind p a b)) (plain p) (λ r. not (f r) && not (g r))
    (and_plan_means kind s p (other a) (other b) (λ r. not (f r)) (λ r. not (g r)) e (means_other s a f mf) (means_other s b g mg)))

-- ---- xor
xor_by_either : (a b : Bool) → either (a && not b) (not a && b) ≡ bit_xor2 a b
xor_by_either true true = refl
xor_by_either true false = refl
xor_by_either false true = refl
xor_by_either false false = refl

either_plan_means : (kind : Kind) (s : RecipeValue) (p : ℕ) (a b : Lit) (f g : ℕ → Bool) → p ≡ next_place s → Means s a f → Means s b g
    → Means (grown s (either_plan kind p a b)) (complemented (p + 1 + 1)) (λ r. bit_xor2 (f r) (g r))
either_plan_means kind s p a b f g e mf mg =
    let x : Laid = and_plan kind p a (other b) in
    let t : RecipeValue = grown s x in
    let y : Laid = and_plan kind (p + 1) (other a) b in
    let u : RecipeValue = grown t y in
    let z : Laid = or_plan kind (p + 1 + 1) (plain p) (plain (p + 1)) in
    let at_t : p + 1 ≡ next_place t = one_more s x p e (one_and kind p a (other b)) in
    let at_u : p + 1 + 1 ≡ next_place u = one_more t y (p + 1) at_t (one_and kind (p + 1) (other a) b) in
    let left : Means t (plain p) (λ r. f r && not (g r)) = and_plan_means kind s p a (other b) f (λ r. not (g r)) e mf (means_other s b g mg) in
    let right : Means u (plain (p + 1)) (λ r. not (f r) && g r) =
    and_plan_means kind t (p + 1) (other a) b (λ r. not (f r)) g at_t (means_other t a f (grown_means s x a f mf)) (grown_means s x b g mg) in
    then_means s x (after y z) _ _ (then_means t y z _ _
    (means_as _ _ (λ r. either (f r && not (g r)) (not (f r) && g r)) (λ r. bit_xor2 (f r) (g r)) (λ r lt. xor_by_either (f r) (g r))
    (or_plan_means kind u (p + 1 + 1) (plain p) (plain (p + 1)) (λ r. f r && not (g r)) (λ r. not (f r) && g r) at_u
    (grown_means t y (plain p) _ left) right)))

xor_by_not_both : (a b : Bool) → (not (a && b) && either a b) ≡ bit_xor2 a b
xor_by_not_both true true = refl
xor_by_not_both true false = refl
xor_by_not_both false true = refl
xor_by_not_both false false = refl

not_both_plan_means : (kind : Kind) (s : RecipeValue) (p : ℕ) (a b : Lit) (f g : ℕ → Bool) → p ≡ next_place s → Means s a f → Means s b g
    → Means (grown s (not_both_plan kind p a b)) (plain (p + 1 + 1)) (λ r. bit_xor2 (f r) (g r))
not_both_plan_means kind s p a b f g e mf mg =
    let x : Laid = and_plan kind p a b in
    let t : RecipeValue = grown s x in
    let y : Laid = or_plan kind (p + 1) a b in
    let u : RecipeValue = grown t y in
    let z : Laid = and_plan kind (p + 1 + 1) (other (plain p)) (complemented (p + 1)) in
    let at_t : p + 1 ≡ next_place t = one_more s x p e (one_and kind p a b) in
    let at_u : p + 1 + 1 ≡ next_place u = one_more t y (p + 1) at_t (one_and kind (p + 1) (other a) (other b)) in
    let both : Means t (plain p) (λ r. f r && g r) = and_plan_means kind s p a b f g e mf mg in
    let some : Means u (complemented (p + 1)) (λ r. either (f r) (g r)) =
    or_plan_means kind t (p + 1) a b f g at_t (grown_means s x a f mf) (grown_means s x b g mg) in
    then_means s x (after y z) _ _ (then_means t y z _ _
    (means_as _ _ (λ r. not (f r && g r) && either (f r) (g r)) (λ r. bit_xor2 (f r) (g r)) (λ r lt. xor_by_not_both (f r) (g r))
    (and_plan_means kind u (p + 1 + 1) (other (plain p)) (complemented (p + 1)) (λ r. not (f r && g r)) (λ r. either (f r) (g r)) at_u
    (means_other u (plain p) _ (grown_means t y (plain p) _ both)) some)))

-- ---- majority
maj_by_most : (a b c : Bool) → either (a && b) (c && either a b) ≡ apply Maj a b c
maj_by_most true true true = refl
maj_by_most true true false = refl
maj_by_most true false true = refl
maj_by_most true false false = refl
maj_by_most false true true = refl
maj_by_most false true false = refl
maj_by_most false false true = refl
maj_by_most false false false = refl

most_plan_means : (kind : Kind) (s : RecipeValue) (p : ℕ) (a b c : Lit) (f g h : ℕ → Bool) → p ≡ next_place s → Means s a f → Means s b g → Means s c h
    → Means (grown s (most_plan kind p a b c)) (complemented (p + 1 + 1 + 1)) (λ r. apply Maj (f r) (g r) (h r))
most_plan_means kind s p a b c f g h e mf mg mh =
    let x : Laid = and_plan kind p a b in
    let t : RecipeValue = grown s x in
    let y : Laid = or_plan kind (p + 1) a b in
    let u : RecipeValue = grown t y in
    let z : Laid = and_plan kind (p + 1 + 1) c (complemented (p + 1)) in
    let v : RecipeValue = grown u z in
    let w : Laid = or_plan kind (p + 1 + 1 + 1) (plain p) (plain (p + 1 + 1)) in
    let at_t : p + 1 ≡ next_place t = one_more s x p e (one_and kind p a b) in
    let at_u : p + 1 + 1 ≡ next_place u = one_more t y (p + 1) at_t (one_and kind (p + 1) (other a) (other b)) in
    let at_v : p + 1 + 1 + 1 ≡ next_place v = one_more u z (p + 1 + 1) at_u (one_and kind (p + 1 + 1) c (complemented (p + 1))) in
    let both : Means t (plain p) (λ r. f r && g r) = and_plan_means kind s p a b f g e mf mg in
    let some : Means u (complemented (p + 1)) (λ r. either (f r) (g r)) =
    or_plan_means kind t (p + 1) a b f g at_t (grown_means s x a f mf) (grown_means s x b g mg) in
    let more : Means v (plain (p + 1 + 1)) (λ r. h r && either (f r) (g r)) =
    and_plan_means kind u (p + 1 + 1) c (complemented (p + 1)) h (λ r. either (f r) (g r)) at_u (grown_means t y c h (grown_means s x c h mh)) some in
    then_means s x (after y (after z w)) _ _ (then_means t y (after z w) _ _ (then_means u z w _ _
    (means_as _ _ (λ r. either (f r && g r) (h r && either (f r) (g r))) (λ r. apply Maj (f r) (g r) (h r)) (λ r lt. maj_by_most (f r) (g r) (h r))
    (or_plan_means kind v (p + 1 + 1 + 1) (plain p) (plain (p + 1 + 1)) (λ r. f r && g r) (λ r. h r && either (f r) (g r)) at_v
    (grown_means u z (plain p) _ (grown_means t y (plain p) _ both)) more))))

-- ---- any step
same_step : (s : RecipeValue) (p : ℕ) (x : Step) (f g h : ℕ → Bool) → p ≡ next_place s → Means s x.a f → Means s x.b g → Means s x.c h
    → Means (grown s (record { steps = x ∷ []; root = plain p })) (plain p) (λ r. apply x.op (f r) (g r) (h r))
same_step s p x f g h e mf mg mh =
    subst (λ (q : ℕ). Means (grown s (record { steps = x ∷ []; root = plain q })) (plain q) (λ r. apply x.op (f r) (g r) (h r))) (sym e)
    (means_push s (grown s (record { steps = x ∷ []; root = plain (next_place s) })) x (plain (next_place s)) refl refl refl f g h mf mg mh)

xor_here : (s : RecipeValue) (p : ℕ) (a b : Lit) (f g : ℕ → Bool) → p ≡ next_place s → Means s a f → Means s b g
    → Means (grown s (record { steps = record { op = Xor; a = a; b = b; c = record { 0 = 0 } } ∷ []; root = plain p })) (plain p) (λ r. bit_xor2 (f r) (g r))
xor_here s p a b f g e mf mg =
    same_step s p (record { op = Xor; a = a; b = b; c = record { 0 = 0 } }) f g (λ r. false) e mf mg (means_constant s false (record { 0 = 0 }) refl)

-- a step's plan computes what the step does
pub step_plan_means : (kind : Kind) (op : StepOp) (s : RecipeValue) (p : ℕ) (a b c : Lit) (f g h : ℕ → Bool) → p ≡ next_place s
    → Means s a f → Means s b g → Means s c h
    → Means (grown s (step_plan kind op p a b c)) (step_plan kind op p a b c).root (λ r. apply op (f r) (g r) (h r))
step_plan_means Aig And s p a b c f g h e mf mg mh = and_plan_means Aig s p a b f g e mf mg
step_plan_means Xag And s p a b c f g h e mf mg mh = and_plan_means Xag s p a b f g e mf mg
step_plan_means Mig And s p a b c f g h e mf mg mh = and_plan_means Mig s p a b f g e mf mg
step_plan_means Klut And s p a b c f g h e mf mg mh = and_plan_means Klut s p a b f g e mf mg
step_plan_means Aig Xor s p a b c f g h e mf mg mh = either_plan_means Aig s p a b f g e mf mg
step_plan_means Xag Xor s p a b c f g h e mf mg mh = xor_here s p a b f g e mf mg
step_plan_means Mig Xor s p a b c f g h e mf mg mh = not_both_plan_means Mig s p a b f g e mf mg
step_plan_means Klut Xor s p a b c f g h e mf mg mh = xor_here s p a b f g e mf mg
step_plan_means Aig Maj s p a b c f g h e mf mg mh = most_plan_means Aig s p a b c f g h e mf mg mh
step_plan_means Xag Maj s p a b c f g h e mf mg mh = most_plan_means Xag s p a b c f g h e mf mg mh
step_plan_means Mig Maj s p a b c f g h e mf mg mh = same_step s p (record { op = Maj; a = a; b = b; c = c }) f g h e mf mg mh
step_plan_means Klut Maj s p a b c f g h e mf mg mh = same_step s p (record { op = Maj; a = a; b = b; c = c }) f g h e mf mg mh

-- a step's plan has the same number of steps at every place
pub step_plan_cost : (kind : Kind) (op : StepOp) (p : ℕ) (a b c : Lit) → length (step_plan kind op p a b c).steps ≡ cost kind op
step_plan_cost Aig And p a b c = refl
step_plan_cost Xag And p a b c = refl
step_plan_cost Mig And p a b c = refl
step_plan_cost Klut And p a b c = refl
step_plan_cost Aig Xor p a b c = refl
step_plan_cost Xag Xor p a b c = refl
step_plan_cost Mig Xor p a b c = refl
step_plan_cost Klut Xor p a b c = refl
step_plan_cost Aig Maj p a b c = refl
step_plan_cost Xag Maj p a b c = refl
step_plan_cost Mig Maj p a b c = refl
step_plan_cost Klut Maj p a b c = refl
