-- What pushing the steps of forms does: one part after the other, and where a part is refused.
use Rattle.std.proofs.Common.{◌≡◌, ℕ, zero, suc, ◌+◌, ◌-◌, ◌<◌, ◌≤◌, true, false, List, [], ◌∷◌, ◌++◌, length, refl, sym, ◌∙◌, ap, subst, arith, append_assoc, length-append, Result, Ok, Err, IsErr, inl, inr, get_or, ◌==◌}
use Rattle.std.specs.Prelude.{IsErrAnd}
use Rattle.std.proofs.lemmas.Bool.{false≢true, cases_lt, eqb-true, eqb-false}
use Rattle.lnet_tables.specs.declared.step.Lit.{Lit}
use Rattle.lnet_tables.specs.declared.step.Step.{Step}
use Rattle.lnet_tables.specs.declared.recipe.RecipeFull.{RecipeFull}
use Rattle.lnet_tables.specs.Recipes.{RecipeValue, place, next_place}
use Rattle.lnet_tables.specs.Shannon.{Laid, Lays, given, after, other, and_at, or_at}
use Rattle.lnet_tables.proofs.ShannonSteps.{lays_given, lays_after, refused_as, other_plain}
use Rattle.lnet_sop.specs.declared.cover.Cube.{Cube}
use Rattle.lnet_sop.specs.declared.factoring.FactorError.{FactorError}
use Rattle.lnet_sop.specs.declared.factoring.FactorError.TheVariants.{Full}
use Rattle.lnet_sop.specs.Isop.{universe}
use Rattle.lnet_sop.specs.Factored.{Forms, conjunction, literal_at, disjunction, cube_at, quotient, remainder, multiple_at, with_rest, divided, form_of}

-- ---- an or is an and
pub and_of_others : (s t : RecipeValue) (r : Result Lit RecipeFull) (a b x y : Lit) → x ≡ other a → y ≡ other b → Lays s t r (and_at (next_place s) x y) → Lays s t r (and_at (next_place s) (other a) (other b))
and_of_others s t r a b x y ex ey h =
    subst (λ (l : Lit). Lays s t r (and_at (next_place s) (other a) l)) ey (subst (λ (l : Lit). Lays s t r (and_at (next_place s) l y)) ex h)

pub or_lays : (s t : RecipeValue) (a b l m : Lit) → Lays s t (Ok l) (and_at (next_place s) (other a) (other b)) → m ≡ other l → place m ≡ place l
    → Lays s t (Ok m) (or_at (next_place s) a b)
or_lays s t a b l m h e p = record {
  fits = ((λ k. h.fits.0 refl), (λ k. refl));
  steps = h.steps;
  root = e ∙ ap other h.root ∙ other_plain (next_place s);
  inside = omega (arith, h.inside);
}

-- ---- what is known of the recipe between two parts
pub lays_leaves : (s t : RecipeValue) (a : Lit) (x : Laid) → Lays s t (Ok a) x → t.leaves ≡ s.leaves
lays_leaves s t a x h = ap (λ (v : RecipeValue). v.leaves) h.steps

pub lays_short : (s t : RecipeValue) (a : Lit) (x : Laid) → Lays s t (Ok a) x → length t.steps ≤ 128
lays_short s t a x h = omega (arith, h.fits.0 refl, ap length (ap (λ (v : RecipeValue). v.steps) h.steps) ∙ length-append s.steps x.steps)

-- a refusal of the first of more steps
pub refused_longer : (s t : RecipeValue) (e : RecipeFull) (r : Result Lit RecipeFull) (x y : Laid) → IsErr r → length x.steps ≤ length y.steps → Lays s t (Err e) x → Lays s t r y
refused_longer s t e r x y h le first = refused_as s t e r y h (record {
  fits = ((λ k. absurd (false≢true k)), (λ k. first.fits.1 (omega arith)));
  steps = tt;
  root = tt;
  inside = tt;
})

pub after_longer : (x y : Laid) → length x.steps ≤ length (after x y).steps
after_longer x y = omega (arith, length-append x.steps y.steps)

-- ---- a conjunction, a variable at a time
pub conjunction_none : (p : ℕ) (c : Cube) → conjunction 0 p c ≡ given (record { 0 = 1 })
unfolding conjunction
conjunction_none p c = refl

pub conjunction_more : (i p : ℕ) (c : Cube) → conjunction (i + 1) p c ≡ after (conjunction i p c) (literal_at (p + length (conjunction i p c).steps) (conjunction i p c).root c i)
unfolding conjunction
conjunction_more i p c = let e : i + 1 ≡ suc i = omega arith in ap (λ k. conjunction k p c) e

conjunction_longer : (d i p : ℕ) (c : Cube) → length (conjunction i p c).steps ≤ length (conjunction (d + i) p c).steps
conjunction_longer zero i p c = let e : i ≡ 0 + i = omega arith in subst (λ (k : ℕ). length (conjunction i p c).steps ≤ length (conjunction k p c).steps) e (omega arith)
conjunction_longer (suc d) i p c =
    let e : (d + i) + 1 ≡ suc d + i = omega arith in
    let m : length (conjunction (d + i) p c).steps ≤ length (conjunction ((d + i) + 1) p c).steps =
    subst (λ (x : Laid). length (conjunction (d + i) p c).steps ≤ length x.steps) (sym (conjunction_more (d + i) p c))
    (after_longer (conjunction (d + i) p c) (literal_at (p + length (conjunction (d + i) p c).steps) (conjunction (d + i) p c).root c (d + i))) in
    subst (λ (k : ℕ). length (conjunction i p c).steps ≤ length (conjunction k p c).steps) e (omega (arith, conjunction_longer d i p c, m))

pub conjunction_begins : (s : RecipeValue) (l : Lit) (c : Cube) → l ≡ record { 0 = 1 } → length s.steps ≤ 128 → Lays s s (Ok l) (conjunction 0 (next_place s) c)
conjunction_begins s l c e few =
    let p : place l ≡ 0 = ap place e in
    subst (λ (x : Laid). Lays s s (Ok l) x) (sym (conjunction_none (next_place s) c)) (lays_given s (record { 0 = 1 }) l e few (omega arith))

pub conjunction_step : (s t u : RecipeValue) (a : Lit) (r : Result Lit RecipeFull) (c : Cube) (i : ℕ)
    → Lays s t (Ok a) (conjunction i (next_place s) c) → Lays t u r (literal_at (next_place t) a c i) → Lays s u r (conjunction (i + 1) (next_place s) c)
conjunction_step s t u a r c i first then =
    subst (λ (x : Laid). Lays s u r x) (sym (conjunction_more i (next_place s) c))
    (lays_after s t u a r (conjunction i (next_place s) c) (λ p l. literal_at p l c i) first then)

pub conjunction_refused : (s t u : RecipeValue) (a : Lit) (e : RecipeFull) (r : Result Lit RecipeFull) (c : Cube) (i n : ℕ) → i < n → IsErr r
    → Lays s t (Ok a) (conjunction i (next_place s) c) → Lays t u (Err e) (literal_at (next_place t) a c i) → Lays s u r (conjunction n (next_place s) c)
conjunction_refused s t u a e r c i n lt h first then =
    let k : (n - (i + 1)) + (i + 1) ≡ n = omega arith in
    refused_longer s u e r (conjunction (i + 1) (next_place s) c) (conjunction n (next_place s) c) h
    (subst (λ (j : ℕ). length (conjunction (i + 1) (next_place s) c).steps ≤ length (conjunction j (next_place s) c).steps) k (conjunction_longer (n - (i + 1)) (i + 1) (next_place s) c))
    (conjunction_step s t u a (Err e) c i first then)

-- ---- a disjunction, a cube at a time
pub disjunction_none : (n p : ℕ) (cs : List Cube) → disjunction 0 n p cs ≡ given (record { 0 = 0 })
unfolding disjunction
disjunction_none n p cs = refl

pub disjunction_more : (k n p : ℕ) (cs : List Cube)
    → disjunction (k + 1) n p cs ≡ after (disjunction k n p cs) (cube_at n (p + length (disjunction k n p cs).steps) (disjunction k n p cs).root (get_or cs k universe))
unfolding disjunction
disjunction_more k n p cs = let e : k + 1 ≡ suc k = omega arith in ap (λ j. disjunction j n p cs) e

disjunction_longer : (d i n p : ℕ) (cs : List Cube) → length (disjunction i n p cs).steps ≤ length (disjunction (d + i) n p cs).steps
disjunction_longer zero i n p cs = let e : i ≡ 0 + i = omega arith in subst (λ (k : ℕ). length (disjunction i n p cs).steps ≤ length (disjunction k n p cs).steps) e (omega arith)
disjunction_longer (suc d) i n p cs =
    let e : (d + i) + 1 ≡ suc d + i = omega arith in
    let m : length (disjunction (d + i) n p cs).steps ≤ length (disjunction ((d + i) + 1) n p cs).steps =
    subst (λ (x : Laid). length (disjunction (d + i) n p cs).steps ≤ length x.steps) (sym (disjunction_more (d + i) n p cs))
    (after_longer (disjunction (d + i) n p cs) (cube_at n (p + length (disjunction (d + i) n p cs).steps) (disjunction (d + i) n p cs).root (get_or cs (d + i) universe))) in
    subst (λ (k : ℕ). length (disjunction i n p cs).steps ≤ length (disjunction k n p cs).steps) e (omega (arith, disjunction_longer d i n p cs, m))

pub disjunction_begins : (s : RecipeValue) (l : Lit) (n : ℕ) (cs : List Cube) → l ≡ record { 0 = 0 } → length s.steps ≤ 128 → Lays s s (Ok l) (disjunction 0 n (next_place s) cs)
disjunction_begins s l n cs e few =
    let p : place l ≡ 0 = ap place e in
    subst (λ (x : Laid). Lays s s (Ok l) x) (sym (disjunction_none n (next_place s) cs)) (lays_given s (record { 0 = 0 }) l e few (omega arith))

pub disjunction_step : (s t u : RecipeValue) (a : Lit) (r : Result Lit RecipeFull) (cs : List Cube) (c : Cube) (i n : ℕ)
    → Lays s t (Ok a) (disjunction i n (next_place s) cs) → get_or cs i universe ≡ c → n ≡ t.leaves → Lays t u r (cube_at t.leaves (next_place t) a c) → Lays s u r (disjunction (i + 1) n (next_place s) cs)
disjunction_step s t u a r cs c i n first ec en then =
    subst (λ (x : Laid). Lays s u r x) (sym (disjunction_more i n (next_place s) cs))
    (lays_after s t u a r (disjunction i n (next_place s) cs) (λ p l. cube_at n p l (get_or cs i universe)) first
    (subst (λ (k : ℕ). Lays t u r (cube_at k (next_place t) a (get_or cs i universe))) (sym en) (subst (λ (d : Cube). Lays t u r (cube_at t.leaves (next_place t) a d)) (sym ec) then)))

pub disjunction_refused : (s t u : RecipeValue) (a : Lit) (e : RecipeFull) (r : Result Lit RecipeFull) (cs : List Cube) (c : Cube) (i n m : ℕ) → i < m → IsErr r
    → Lays s t (Ok a) (disjunction i n (next_place s) cs) → get_or cs i universe ≡ c → n ≡ t.leaves → Lays t u (Err e) (cube_at t.leaves (next_place t) a c) → Lays s u r (disjunction m n (next_place s) cs)
disjunction_refused s t u a e r cs c i n m lt h first ec en then =
    let k : (m - (i + 1)) + (i + 1) ≡ m = omega arith in
    refused_longer s u e r (disjunction (i + 1) n (next_place s) cs) (disjunction m n (next_place s) cs) h
    (subst (λ (j : ℕ). length (disjunction (i + 1) n (next_place s) cs).steps ≤ length (disjunction j n (next_place s) cs).steps) k (disjunction_longer (m - (i + 1)) (i + 1) n (next_place s) cs))
    (disjunction_step s t u a (Err e) cs c i n first ec en then)

-- ---- where memory may run out

pub forms_lays : (s t : RecipeValue) (a : Lit) (x : Laid) → Lays s t (Ok a) x → Forms s t (Ok a) x
forms_lays s t a x h = record { fits = λ k. h.fits.0 refl; full = λ e. cc; steps = h.steps; root = h.root; inside = h.inside }

pub forms_full : (s t : RecipeValue) (e : RecipeFull) (r : Result Lit FactorError) (x : Laid) → r ≡ Err Full → Lays s t (Err e) x → Forms s t r x
forms_full s t e r x h lays = subst (λ (q : Result Lit FactorError). Forms s t q x) (sym h) (record {
  fits = λ k. absurd (false≢true k);
  full = λ k. elim (cases_lt 128 (length s.steps + length x.steps)) [ inl more ↦ more | inr few ↦ absurd (false≢true (lays.fits.1 few)) ];
  steps = tt;
  root = tt;
  inside = tt;
})

-- some steps, then those that read their root
pub forms_after : (s t u : RecipeValue) (a : Lit) (r : Result Lit FactorError) (x : Laid) (y : ℕ → Lit → Laid)
    → Forms s t (Ok a) x → Forms t u r (y (next_place t) a) → Forms s u r (after x (y (next_place s + length x.steps) x.root))
forms_after s t u a r x y first then =
    let leaves : t.leaves ≡ s.leaves = ap (λ (v : RecipeValue). v.leaves) first.steps in
    let steps : t.steps ≡ s.steps ++ x.steps = ap (λ (v : RecipeValue). v.steps) first.steps in
    let long : length t.steps ≡ length s.steps + length x.steps = ap length steps ∙ length-append s.steps x.steps in
    let place_is : next_place t ≡ next_place s + length x.steps = omega (arith, leaves, long) in
    let z : Laid = y (next_place s + length x.steps) x.root in
    let next : Forms t u r z = subst (λ l. Forms t u r (y (next_place s + length x.steps) l)) first.root (subst (λ p. Forms t u r (y p a)) place_is then) in
    whole s t u r x z first.steps long next where
      whole : (s t u : RecipeValue) (r : Result Lit FactorError) (x z : Laid) → t ≡ record s { steps = s.steps ++ x.steps }
          → length t.steps ≡ length s.steps + length x.steps → Forms t u r z → Forms s u r (after x z)
      whole s t u (Ok b) x z e long next = record {
        fits = λ h. omega (arith, length-append x.steps z.steps, long, next.fits h);
        full = λ k. cc;
        steps = next.steps ∙ ap (λ (v : RecipeValue). let w : RecipeValue = record { leaves = v.leaves; steps = v.steps ++ z.steps; root = v.root } in w) e
            ∙ ap (λ (ss : List Step). let w : RecipeValue = record { leaves = s.leaves; steps = ss; root = s.root } in w) (append_assoc s.steps x.steps z.steps);
        root = next.root;
        inside = next.inside;
      }
      whole s t u (Err f) x z e long next = record {
        fits = λ h. absurd (false≢true h);
        full = λ k. omega (arith, length-append x.steps z.steps, long, next.full k);
        steps = tt;
        root = tt;
        inside = tt;
      }

-- steps of which the first part is refused
pub forms_refused : (s t : RecipeValue) (e : FactorError) (r : Result Lit FactorError) (x y : Laid) → r ≡ Err e → Forms s t (Err e) x → Forms s t r (after x y)
forms_refused s t e r x y h first = subst (λ (q : Result Lit FactorError). Forms s t q (after x y)) (sym h) (record {
  fits = λ k. absurd (false≢true k);
  full = λ k. omega (arith, length-append x.steps y.steps, first.full k);
  steps = tt;
  root = tt;
  inside = tt;
})

-- an error that a `?` handed on
pub error_is : (r : Result Lit FactorError) (e : FactorError) → IsErr r → IsErrAnd r (λ f. f ≡ e) → r ≡ Err e
error_is (Ok a) e h k = absurd (false≢true h)
error_is (Err f) e h k = ap Err k

pub forms_leaves : (s t : RecipeValue) (a : Lit) (x : Laid) → Forms s t (Ok a) x → t.leaves ≡ s.leaves
forms_leaves s t a x h = ap (λ (v : RecipeValue). v.leaves) h.steps

pub form_short : (s t : RecipeValue) (a : Lit) (x : Laid) → Forms s t (Ok a) x → length t.steps ≤ 128
form_short s t a x h = omega (arith, h.fits refl, ap length (ap (λ (v : RecipeValue). v.steps) h.steps) ∙ length-append s.steps x.steps)

-- ---- a division
-- f forms the quotient and the rest
module _ (f : ℕ → List Cube → Laid) where
  multiple_and_rest : (t u v : RecipeValue) (a b : Lit) (r : Result Lit FactorError) (l : Lit) (rest : List Cube)
      → Forms t u (Ok b) (multiple_at (next_place t) l a) → Forms u v r (with_rest f (next_place u) b rest)
      → Forms t v r (let m : Laid = multiple_at (next_place t) l a in after m (with_rest f (next_place t + length m.steps) m.root rest))
  multiple_and_rest t u v a b r l rest first then = forms_after t u v b r (multiple_at (next_place t) l a) (λ p m. with_rest f p m rest) first then

  pub division : (s t u v : RecipeValue) (a b : Lit) (r : Result Lit FactorError) (l : Lit) (cs : List Cube)
      → Forms s t (Ok a) (f (next_place s) (quotient l cs)) → Forms t u (Ok b) (multiple_at (next_place t) l a) → Forms u v r (with_rest f (next_place u) b (remainder l cs))
      → Forms s v r (divided f (next_place s) l cs)
  division s t u v a b r l cs first second third =
      forms_after s t v a r (f (next_place s) (quotient l cs)) (λ p q. let m : Laid = multiple_at p l q in after m (with_rest f (p + length m.steps) m.root (remainder l cs)))
      first (multiple_and_rest t u v a b r l (remainder l cs) second third)

  -- refused at the product
  pub product_refused : (s t u : RecipeValue) (a : Lit) (e : RecipeFull) (r : Result Lit FactorError) (l : Lit) (cs : List Cube)
      → Forms s t (Ok a) (f (next_place s) (quotient l cs)) → Lays t u (Err e) (multiple_at (next_place t) l a) → r ≡ Err Full → Forms s u r (divided f (next_place s) l cs)
  product_refused s t u a e r l cs first second h =
      forms_after s t u a r (f (next_place s) (quotient l cs)) (λ p q. let m : Laid = multiple_at p l q in after m (with_rest f (p + length m.steps) m.root (remainder l cs))) first
      (let m : Laid = multiple_at (next_place t) l a in
      forms_refused t u Full r m (with_rest f (next_place t + length m.steps) m.root (remainder l cs)) h (forms_full t u e (Err Full) m refl second))

  -- refused at the quotient
  pub quotient_refused : (s t : RecipeValue) (e : FactorError) (r : Result Lit FactorError) (l : Lit) (cs : List Cube)
      → Forms s t (Err e) (f (next_place s) (quotient l cs)) → r ≡ Err e → Forms s t r (divided f (next_place s) l cs)
  quotient_refused s t e r l cs first h =
      let q : Laid = f (next_place s) (quotient l cs) in
      let m : Laid = multiple_at (next_place s + length q.steps) l q.root in
      forms_refused s t e r q (after m (with_rest f (next_place s + length q.steps + length m.steps) m.root (remainder l cs))) h first

  -- no cube is left
  pub rest_none : (u : RecipeValue) (b : Lit) (rest : List Cube) → rest ≡ [] → length u.steps ≤ 128 → place b < next_place u → Forms u u (Ok b) (with_rest f (next_place u) b rest)
  rest_none u b rest e few inside = subst (λ (cs : List Cube). Forms u u (Ok b) (with_rest f (next_place u) b cs)) (sym e) (forms_lays u u b (given b) (lays_given u b b refl few inside))

  with_some : (p : ℕ) (b : Lit) (rest : List Cube) → (rest ≡ [] → ⊥) → with_rest f p b rest ≡ (let r : Laid = f p rest in after r (or_at (p + length r.steps) b r.root))
  with_some p b [] ne = absurd (ne refl)
  with_some p b (c ∷ cs) ne = refl

  pub rest_some : (u v w : RecipeValue) (b a : Lit) (r : Result Lit FactorError) (rest : List Cube) → (rest ≡ [] → ⊥) → Forms u v (Ok a) (f (next_place u) rest)
      → Forms v w r (or_at (next_place v) b a) → Forms u w r (with_rest f (next_place u) b rest)
  rest_some u v w b a r rest ne first then =
      subst (λ (x : Laid). Forms u w r x) (sym (with_some (next_place u) b rest ne)) (forms_after u v w a r (f (next_place u) rest) (λ p q. or_at p b q) first then)

  pub rest_refused : (u v : RecipeValue) (b : Lit) (e : FactorError) (r : Result Lit FactorError) (rest : List Cube) → (rest ≡ [] → ⊥) → Forms u v (Err e) (f (next_place u) rest)
      → r ≡ Err e → Forms u v r (with_rest f (next_place u) b rest)
  rest_refused u v b e r rest ne first h =
      let x : Laid = f (next_place u) rest in
      subst (λ (y : Laid). Forms u v r y) (sym (with_some (next_place u) b rest ne)) (forms_refused u v e r x (or_at (next_place u + length x.steps) b x.root) h first)

-- whether cubes are left, by how many there are
pub none_left : (cs : List Cube) (n : ℕ) → n ≡ length cs → (n == 0) ≡ true → cs ≡ []
none_left [] n e h = refl
none_left (c ∷ cs) n e h = absurd (let k : n ≡ 0 = eqb-true n 0 h in let m : length (c ∷ cs) ≡ 0 = sym e ∙ k in omega (arith, m))

pub some_left : (cs : List Cube) (n : ℕ) → n ≡ length cs → (n == 0) ≡ false → cs ≡ [] → ⊥
some_left cs n e h k = eqb-false n 0 h (e ∙ ap length k)

-- the form of a list, in other words
pub rest_as : (u v : RecipeValue) (r : Result Lit FactorError) (k n : ℕ) (ds es : List Cube) → k ≡ n → ds ≡ es → Forms u v r (form_of k (next_place u) ds) → Forms u v r (form_of n (next_place u) es)
rest_as u v r k n ds es ek ed h = subst (λ (j : ℕ). Forms u v r (form_of j (next_place u) es)) ek (subst (λ (xs : List Cube). Forms u v r (form_of k (next_place u) xs)) ed h)
