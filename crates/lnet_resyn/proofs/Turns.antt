-- The turns of the majority procedure, one by one.
use Rattle.std.proofs.Common.{◌≡◌, ℕ, zero, suc, ◌+◌, ◌-◌, ◌*◌, ◌/◌, ◌^◌, ◌<◌, ◌≤◌, true, false, cond, List, [], ◌∷◌, ◌++◌, map, length, Option, None, Some, refl, sym, ap, subst, ◌∙◌, arith, length-append, ◌==◌}
use Rattle.std.proofs.Common.{inl, inr}
use Rattle.std.proofs.lemmas.Bool.Decides.{leb_tells, eqb_tells}
use Rattle.std.specs.Prelude.{leb}
use Rattle.lnet_tables.specs.Bits.{Rows}
use Rattle.lnet_tables.specs.Recipes.{RecipeValue, next_place}
use Rattle.lnet_tables.specs.Shannon.{Laid, plain}
use Rattle.lnet_tables.specs.declared.step.Lit.{Lit}
use Rattle.lnet_tables.specs.declared.step.Step.{Step}
use Rattle.lnet_resyn.specs.declared.majority.Candidate.{Candidate}
use Rattle.lnet_resyn.specs.Majority.{word_rows, words_rows, score, best_candidate, candidate_rows, pool_reach, step_of, with_step, turn_of, turns, HasTurned}

-- where no turn is left
pub turned-none : (old : RecipeValue) (left : ℕ) (f : Rows) (pool : List Rows) → left ≡ 0 → HasTurned old old None (turns left f pool)
unfolding turns
turned-none old left f pool e = subst (λ k. HasTurned old old None (turns k f pool)) (sym e) refl

turns-more : (left : ℕ) (f : Rows) (pool : List Rows) (x : Candidate) (agreements : ℕ) → 0 < left → x ≡ best_candidate f pool → agreements ≡ score f pool x → turns left f pool ≡ turn_of agreements (pool_reach f pool) (2 ^ f.vars) x (length pool) (turns (left - 1) f (pool ++ candidate_rows f.vars pool x ∷ []))
unfolding turns
turns-more zero f pool x agreements h is scored = absurd (omega arith)
turns-more (suc k) f pool x agreements h is scored =
    let e : suc k - 1 ≡ k = omega arith in
    (λ i. turn_of ((ap (score f pool) (sym is) ∙ sym scored) i) (pool_reach f pool) (2 ^ f.vars) (sym is i) (length pool) (turns (sym e i) f (pool ++ candidate_rows f.vars pool (sym is i) ∷ [])))

-- what follows a candidate that gains a row
abbrev going : ℕ → Rows → List Rows → Candidate → ℕ → Option Laid
going left f pool x agreements = cond (agreements == 2 ^ f.vars) (Some (record { steps = step_of x ∷ []; root = plain (length pool) })) (with_step (step_of x) (turns (left - 1) f (pool ++ candidate_rows f.vars pool x ∷ [])))

-- where the best candidate gains no row
pub turned-stuck : (old : RecipeValue) (left : ℕ) (f : Rows) (pool : List Rows) (x : Candidate) (agreements reached : ℕ) → 0 < left → x ≡ best_candidate f pool → agreements ≡ score f pool x → reached ≡ pool_reach f pool → leb agreements reached ≡ true → HasTurned old old None (turns left f pool)
turned-stuck old left f pool x agreements reached h is scored at low =
    let e = ap (λ z. leb agreements z) (sym at) ∙ low in
    subst (HasTurned old old None) (sym (turns-more left f pool x agreements h is scored ∙ ap (λ b. cond b None (going left f pool x agreements)) e)) refl

turns-on : (left : ℕ) (f : Rows) (pool : List Rows) (x : Candidate) (agreements reached : ℕ) → 0 < left → x ≡ best_candidate f pool → agreements ≡ score f pool x → reached ≡ pool_reach f pool → leb agreements reached ≡ false → turns left f pool ≡ going left f pool x agreements
turns-on left f pool x agreements reached h is scored at low = turns-more left f pool x agreements h is scored ∙ ap (λ b. cond b None (going left f pool x agreements)) (ap (λ z. leb agreements z) (sym at) ∙ low)

halved : (p : ℕ) → (2 * p) / 2 ≡ p
halved p = omega arith

-- where it agrees in every row
pub turned-ended : (old new : RecipeValue) (left : ℕ) (f : Rows) (pool : List Rows) (x : Candidate) (agreements reached : ℕ) (lit : Lit) → 0 < left → x ≡ best_candidate f pool → agreements ≡ score f pool x → reached ≡ pool_reach f pool → leb agreements reached ≡ false → (agreements == 2 ^ f.vars) ≡ true → new ≡ record old { steps = old.steps ++ step_of x ∷ [] } → lit ≡ record { 0 = 2 * next_place old } → next_place old ≡ length pool → HasTurned old new (Some lit) (turns left f pool)
turned-ended old new left f pool x agreements reached lit h is scored at low full made is_lit places =
    subst (HasTurned old new (Some lit)) (sym (turns-on left f pool x agreements reached h is scored at low ∙ ap (λ b. cond b (Some (record { steps = step_of x ∷ []; root = plain (length pool) })) (with_step (step_of x) (turns (left - 1) f (pool ++ candidate_rows f.vars pool x ∷ [])))) full))
    (ap Some (is_lit ∙ ap (λ p. record { 0 = 2 * p }) places), made, inside)
  where
    grown : next_place new ≡ next_place old + 1
    grown = ap next_place made ∙ omega (arith, length-append old.steps (step_of x ∷ []))

    inside : (2 * length pool) / 2 < next_place new
    inside = let e = halved (length pool) in omega (arith, grown)

one_more : (xs : List Step) (y : Step) (zs : List Step) → (xs ++ y ∷ []) ++ zs ≡ xs ++ (y ∷ zs)
one_more [] y zs = refl
one_more (x ∷ xs) y zs = ap (λ r. x ∷ r) (one_more xs y zs)

-- where it goes on
pub turned-on : (old mid new : RecipeValue) (answer : Option Lit) (left : ℕ) (f : Rows) (pool longer : List Rows) (x : Candidate) (agreements reached : ℕ) → 0 < left → x ≡ best_candidate f pool → agreements ≡ score f pool x → reached ≡ pool_reach f pool → leb agreements reached ≡ false → (agreements == 2 ^ f.vars) ≡ false → mid ≡ record old { steps = old.steps ++ step_of x ∷ [] } → longer ≡ pool ++ candidate_rows f.vars pool x ∷ [] → HasTurned mid new answer (turns (left - 1) f longer) → HasTurned old new answer (turns left f pool)
turned-on old mid new answer left f pool longer x agreements reached h is scored at low full made longer_is later =
    subst (HasTurned old new answer) (sym (turns-on left f pool x agreements reached h is scored at low ∙ ap (λ b. cond b (Some (record { steps = step_of x ∷ []; root = plain (length pool) })) (with_step (step_of x) (turns (left - 1) f (pool ++ candidate_rows f.vars pool x ∷ [])))) full))
    (stepped (turns (left - 1) f (pool ++ candidate_rows f.vars pool x ∷ [])) (subst (λ ps. HasTurned mid new answer (turns (left - 1) f ps)) longer_is later))
  where
    stepped : (o : Option Laid) → HasTurned mid new answer o → HasTurned old new answer (with_step (step_of x) o)
    stepped None t = t
    stepped (Some l) t = (t.0, t.1 ∙ ap (λ (r : RecipeValue). record { leaves = r.leaves; steps = r.steps ++ l.steps; root = r.root }) made ∙ ap (λ ss. record { leaves = old.leaves; steps = ss; root = old.root }) (one_more old.steps (step_of x) l.steps), t.2)

-- ---- tests
pub leb_yes : (a b : ℕ) → a ≤ b → leb a b ≡ true
leb_yes a b h = elim (leb_tells a b) [ inl p ↦ p.0 | inr p ↦ let k = p.1 in absurd (omega arith) ]

pub leb_no : (a b : ℕ) → b < a → leb a b ≡ false
leb_no a b h = elim (leb_tells a b) [ inl p ↦ let k = p.1 in absurd (omega arith) | inr p ↦ p.0 ]

pub eqb_yes : (a b : ℕ) → a ≡ b → (a == b) ≡ true
eqb_yes a b h = elim (eqb_tells a b) [ inl p ↦ p.0 | inr p ↦ absurd (p.1 h) ]

pub eqb_no : (a b : ℕ) → (a ≡ b → ⊥) → (a == b) ≡ false
eqb_no a b h = elim (eqb_tells a b) [ inl p ↦ absurd (h p.1) | inr p ↦ p.0 ]

-- the pool with the word of the best candidate
pub longer-pool : (n : ℕ) (ws longer : List ℕ) (w : ℕ) (t : Rows) → longer ≡ ws ++ w ∷ [] → word_rows n w ≡ t → words_rows n longer ≡ words_rows n ws ++ t ∷ []
longer-pool n ws longer w t e is = ap (words_rows n) e ∙ map-one (word_rows n) ws w ∙ ap (λ z. words_rows n ws ++ z ∷ []) is
  where
    map-one : (g : ℕ → Rows) (xs : List ℕ) (y : ℕ) → map g (xs ++ y ∷ []) ≡ map g xs ++ g y ∷ []
    map-one g [] y = refl
    map-one g (x ∷ xs) y = ap (λ r. g x ∷ r) (map-one g xs y)
