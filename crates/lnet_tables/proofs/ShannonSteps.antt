-- Literals of the expansion, and what pushing steps in turn does.
use Rattle.std.proofs.Common.{◌≡◌, ◌≢◌, ℕ, suc, ◌+◌, ◌-◌, ◌*◌, ◌/◌, ◌%◌, ◌<◌, ◌≤◌, true, false, List, ◌++◌, length, refl, sym, ◌∙◌, ap, subst, arith, append_assoc, length-append, Result, Ok, Err, IsErr, ◌↔◌, IsOk, OnOk, IfOk, append-nil}
use Rattle.std.proofs.lemmas.Bool.{false≢true}
use Rattle.lnet_tables.specs.Bits.{Rows, row, bit_of, cofactor_rows}
use Rattle.lnet_tables.specs.declared.step.Lit.{Lit}
use Rattle.lnet_tables.specs.declared.step.Step.{Step}
use Rattle.lnet_tables.specs.declared.recipe.RecipeFull.{RecipeFull}
use Rattle.lnet_tables.specs.declared.expansion.Case.{Case}
use Rattle.lnet_tables.specs.declared.expansion.Case.TheVariants.{Unused, Plain, Complement, HighTrue, HighFalse, LowTrue, LowFalse, Opposite, Neither}
use Rattle.lnet_tables.specs.Recipes.{RecipeValue, place, next_place}
use Rattle.lnet_tables.specs.Shannon.{Laid, Lays, given, after, plain, complemented, other, case_of, combine, expansion, one_step_at, rest_of}

pub other_plain : (p : ℕ) → other (plain p) ≡ complemented p
unfolding other
other_plain p = let e : 2 * (2 * p / 2) + 1 - 2 * p % 2 ≡ 2 * p + 1 = omega arith in ap (λ (n : ℕ). let l : Lit = record { 0 = n } in l) e

pub place_other : (l : Lit) → place (other l) ≡ place l
unfolding other
place_other l = omega arith

pub sign_other : (l : Lit) → (other l).0 % 2 ≡ 1 - l.0 % 2
unfolding other
sign_other l = omega arith

-- no step
pub lays_given : (s : RecipeValue) (l m : Lit) → m ≡ l → length s.steps ≤ 128 → place m < next_place s → Lays s s (Ok m) (given l)
lays_given s l m e few inside = record {
  fits = ((λ _. omega arith), (λ _. refl));
  steps = ap (λ (ss : List Step). let r : RecipeValue = record { leaves = s.leaves; steps = ss; root = s.root } in r) (sym (append-nil s.steps));
  root = e;
  inside = inside;
}

-- some steps, then those that read their root
pub lays_after : (s t u : RecipeValue) (a : Lit) (r : Result Lit RecipeFull) (x : Laid) (y : ℕ → Lit → Laid)
    → Lays s t (Ok a) x → Lays t u r (y (next_place t) a) → Lays s u r (after x (y (next_place s + length x.steps) x.root))
lays_after s t u a r x y first then =
    let leaves : t.leaves ≡ s.leaves = ap (λ (v : RecipeValue). v.leaves) first.steps in
    let steps : t.steps ≡ s.steps ++ x.steps = ap (λ (v : RecipeValue). v.steps) first.steps in
    let long : length t.steps ≡ length s.steps + length x.steps = ap length steps ∙ length-append s.steps x.steps in
    let place_is : next_place t ≡ next_place s + length x.steps = omega (arith, leaves, long) in
    let z : Laid = y (next_place s + length x.steps) x.root in
    let next : Lays t u r z = subst (λ l. Lays t u r (y (next_place s + length x.steps) l)) first.root (subst (λ p. Lays t u r (y p a)) place_is then) in
    whole s t u r x z first.steps long next where
      whole : (s t u : RecipeValue) (r : Result Lit RecipeFull) (x z : Laid) → t ≡ record s { steps = s.steps ++ x.steps }
          → length t.steps ≡ length s.steps + length x.steps → Lays t u r z → Lays s u r (after x z)
      whole s t u (Ok b) x z e long next = record {
        fits = ((λ h. omega (arith, length-append x.steps z.steps, long, next.fits.0 h)), (λ h. refl));
        steps = next.steps ∙ ap (λ (v : RecipeValue). let w : RecipeValue = record { leaves = v.leaves; steps = v.steps ++ z.steps; root = v.root } in w) e
            ∙ ap (λ (ss : List Step). let w : RecipeValue = record { leaves = s.leaves; steps = ss; root = s.root } in w) (append_assoc s.steps x.steps z.steps);
        root = next.root;
        inside = next.inside;
      }
      whole s t u (Err f) x z e long next = record {
        fits = ((λ h. absurd (false≢true h)), (λ h. next.fits.1 (omega (arith, length-append x.steps z.steps, long))));
        steps = tt;
        root = tt;
        inside = tt;
      }

-- a refusal, handed on
pub refused_as : (s t : RecipeValue) (e : RecipeFull) (r : Result Lit RecipeFull) (x : Laid) → IsErr r → Lays s t (Err e) x → Lays s t r x
refused_as s t e (Ok l) x h refused = absurd (false≢true h)
refused_as s t e (Err f) x h refused = record { fits = refused.fits; steps = tt; root = tt; inside = tt }

-- steps of which the first part is refused
pub lays_refused : (s t : RecipeValue) (e : RecipeFull) (r : Result Lit RecipeFull) (x y : Laid) → IsErr r → Lays s t (Err e) x → Lays s t r (after x y)
lays_refused s t e r x y h first = refused_as s t e r (after x y) h (record {
  fits = ((λ h. absurd (false≢true h)), (λ h. first.fits.1 (omega (arith, length-append x.steps y.steps))));
  steps = tt;
  root = tt;
  inside = tt;
})

-- a case has one step of its own
pub one_step_long : (k : Case) (p : ℕ) (x s : Lit) → length (one_step_at k p x s).steps ≡ 1
one_step_long Unused p x s = refl
one_step_long Plain p x s = refl
one_step_long Complement p x s = refl
one_step_long HighTrue p x s = refl
one_step_long HighFalse p x s = refl
one_step_long LowTrue p x s = refl
one_step_long LowFalse p x s = refl
one_step_long Opposite p x s = refl
one_step_long Neither p x s = refl

pub one_step_lays : (s t : RecipeValue) (r : Result Lit RecipeFull) (k : Case) (x l : Lit)
    → (IsOk r ↔ (length s.steps < 128))
    → OnOk r (t ≡ record s { steps = s.steps ++ (one_step_at k (next_place s) x l).steps })
    → IfOk r (λ m. m ≡ (one_step_at k (next_place s) x l).root)
    → IfOk r (λ m. place m < next_place t)
    → Lays s t r (one_step_at k (next_place s) x l)
one_step_lays s t r k x l fits steps root inside = record {
  fits = ((λ h. let a = fits.0 h in omega (arith, one_step_long k (next_place s) x l)), (λ h. fits.1 (omega (arith, one_step_long k (next_place s) x l))));
  steps = steps;
  root = root;
  inside = inside;
}

pub place_plain : (p : ℕ) → place (plain p) ≡ p
place_plain p = omega arith

pub expansion_none : (count p : ℕ) (t : Rows) → count ≡ 0 → expansion count p t ≡ given (record { 0 = bit_of (row t 0) })
unfolding expansion
expansion_none count p t e = ap (λ (n : ℕ). expansion n p t) e

-- the expansion by the case that was found
pub expansion_by_case : (count n p : ℕ) (t high low : Rows) (k : Case) → count ≡ suc n
    → high ≡ cofactor_rows t n true → low ≡ cofactor_rows t n false → k ≡ case_of high low
    → expansion count p t ≡ combine (λ q u. expansion n q u) k n p high low
unfolding expansion
expansion_by_case count n p t high low k some h l e =
    ap (λ (m : ℕ). expansion m p t) some
    ∙ ap (λ (x : Rows). combine (λ q u. expansion n q u) (case_of x (cofactor_rows t n false)) n p x (cofactor_rows t n false)) (sym h)
    ∙ ap (λ (x : Rows). combine (λ q u. expansion n q u) (case_of high x) n p high x) (sym l)
    ∙ ap (λ (c : Case). combine (λ q u. expansion n q u) c n p high low) (sym e)

pub one_step_case : (f : ℕ → Rows → Laid) (k : Case) (n p : ℕ) (high low : Rows) → k ≢ Unused → k ≢ Plain → k ≢ Complement → k ≢ Neither
    → combine f k n p high low ≡ (let rest : Laid = f p (rest_of k high low) in after rest (one_step_at k (p + length rest.steps) (plain (n + 1)) rest.root))
one_step_case f Unused n p high low a b c d = absurd (a refl)
one_step_case f Plain n p high low a b c d = absurd (b refl)
one_step_case f Complement n p high low a b c d = absurd (c refl)
one_step_case f Neither n p high low a b c d = absurd (d refl)
one_step_case f HighTrue n p high low a b c d = refl
one_step_case f HighFalse n p high low a b c d = refl
one_step_case f LowTrue n p high low a b c d = refl
one_step_case f LowFalse n p high low a b c d = refl
one_step_case f Opposite n p high low a b c d = refl
