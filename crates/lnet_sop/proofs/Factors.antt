-- Factoring: the literal that stands in most cubes, the quotient and the rest, and that the recursion ends.
use Rattle.std.proofs.Common.{◌≡◌, ℕ, zero, suc, ◌+◌, ◌*◌, ◌%◌, ◌<◌, ◌≤◌, Bool, true, false, cond, List, [], ◌∷◌, map, length, refl, sym, ◌∙◌, ap, subst, arith, inl, inr, ◌==◌, nat_lt, nat_le, not}
use Rattle.std.specs.Prelude.{All}
use Rattle.std.specs.List.{list_any, filter, sum_by}
use mathlib.Core.Bool.{beq}
use Rattle.std.proofs.lemmas.Bool.{false≢true, cases_lt, lt-ltb, le-ltb, le-leb, lt-leb, leb-false, and_parts}
use Rattle.std.proofs.lemmas.List.Elements.{All-head, All-tail, All-map, All-weaker, All-filter, filter_passes}
use Rattle.std.proofs.lemmas.List.Filters.{sum_by-filter_both}
use Rattle.std.proofs.lemmas.List.Sums.{sum_by-cons, length-filter}
use Rattle.lnet_tables.specs.Bits.{is_set}
use Rattle.lnet_tables.specs.declared.step.Lit.{Lit}
use Rattle.lnet_tables.specs.Recipes.{place}
use Rattle.lnet_tables.specs.Shannon.{Laid, given, after, or_at}
use Rattle.lnet_sop.specs.declared.cover.Cube.{Cube}
use Rattle.lnet_sop.specs.Covers.{IsCube}
use Rattle.lnet_sop.specs.Irredundant.{without}
use Rattle.lnet_sop.specs.Factored.{literal, variable_of, stands_in, uses, most_common, quotient, remainder, turns, form_by, form_in, form_of, by_universe, by_literal, divided, with_rest, multiple_at, is_universe, disjunction}
use Rattle.lnet_sop.proofs.CubeRows.{set_above}
use Rattle.lnet_sop.proofs.Cleared.{without_cube, cleared_less}

-- ---- the literal that stands in most cubes
most_common_more : (k : ℕ) (cs : List Cube) → most_common (k + 1) cs ≡ cond (nat_lt (uses cs (most_common k cs)) (uses cs (literal k))) (literal k) (most_common k cs)
unfolding most_common
most_common_more k cs = let e : k + 1 ≡ suc k = omega arith in ap (λ j. most_common j cs) e

pub most_common_later : (k m n : ℕ) (cs : List Cube) (best l : Lit) → best ≡ most_common k cs → l ≡ literal k → m ≡ uses cs best → n ≡ uses cs l → m < n → l ≡ most_common (k + 1) cs
most_common_later k m n cs best l eb el em en lt =
    let u : uses cs (most_common k cs) < uses cs (literal k) = subst (λ (x : Lit). uses cs x < uses cs (literal k)) eb (subst (λ (x : Lit). uses cs best < uses cs x) el (omega arith)) in
    el ∙ sym (most_common_more k cs ∙ ap (λ t. cond t (literal k) (most_common k cs)) (lt-ltb (uses cs (most_common k cs)) (uses cs (literal k)) u))

pub most_common_stays : (k m n : ℕ) (cs : List Cube) (best l : Lit) → best ≡ most_common k cs → l ≡ literal k → m ≡ uses cs best → n ≡ uses cs l → n ≤ m → best ≡ most_common (k + 1) cs
most_common_stays k m n cs best l eb el em en le =
    let u : uses cs (literal k) ≤ uses cs (most_common k cs) = subst (λ (x : Lit). uses cs (literal k) ≤ uses cs x) eb (subst (λ (x : Lit). uses cs x ≤ uses cs best) el (omega arith)) in
    eb ∙ sym (most_common_more k cs ∙ ap (λ t. cond t (literal k) (most_common k cs)) (le-ltb (uses cs (most_common k cs)) (uses cs (literal k)) u))

-- ---- the cubes of the quotient and of the rest
stands_set : (l : Lit) (c : Cube) → stands_in l c ≡ true → is_set c.care (variable_of l) ≡ true
stands_set l c h = (and_parts (is_set c.care (variable_of l)) (beq (is_set c.value (variable_of l)) (l.0 % 2 == 0)) h).0

pub quotient_each : (n : ℕ) (l : Lit) (cs : List Cube) → All (IsCube n) cs → All (IsCube n) (quotient l cs)
quotient_each n l cs h =
    All-map (IsCube n) (without (variable_of l)) (filter (stands_in l) cs)
    (All-weaker (IsCube n) (λ c. IsCube n (without (variable_of l) c)) (λ c d. without_cube n (variable_of l) c d) (filter (stands_in l) cs) (All-filter (stands_in l) (IsCube n) cs h))

pub remainder_each : (n : ℕ) (l : Lit) (cs : List Cube) → All (IsCube n) cs → All (IsCube n) (remainder l cs)
remainder_each n l cs h = All-filter (λ c. not (stands_in l c)) (IsCube n) cs h

-- ---- the recursion ends
quotient_lighter : (l : Lit) (cs : List Cube) → All (λ c. stands_in l c ≡ true) cs → sum_by (λ c. c.care) (map (without (variable_of l)) cs) + length cs ≤ sum_by (λ c. c.care) cs
quotient_lighter l [] h = omega arith
quotient_lighter l (c ∷ cs) h =
    omega (
      arith,
      sum_by-cons (λ (x : Cube). x.care) (without (variable_of l) c) (map (without (variable_of l)) cs),
      sum_by-cons (λ (x : Cube). x.care) c cs,
      cleared_less c.care (variable_of l) (stands_set l c (All-head (λ c. stands_in l c ≡ true) c cs h)),
      quotient_lighter l cs (All-tail (λ c. stands_in l c ≡ true) c cs h),
    )

-- what the quotient and the rest weigh where the literal stands somewhere
pub quotient_less : (l : Lit) (cs : List Cube) → 0 < uses cs l → sum_by (λ c. c.care) (quotient l cs) < sum_by (λ c. c.care) cs
quotient_less l cs some =
    let k : sum_by (λ c. c.care) (quotient l cs) + length (filter (stands_in l) cs) ≤ sum_by (λ c. c.care) (filter (stands_in l) cs) =
    quotient_lighter l (filter (stands_in l) cs) (filter_passes (stands_in l) cs) in
    omega (arith, k, length-filter (stands_in l) cs, sum_by-filter_both (stands_in l) (λ c. not (stands_in l c)) (λ c. refl) (λ (c : Cube). c.care) cs)

pub remainder_less : (l : Lit) (cs : List Cube) → 0 < uses cs l → sum_by (λ c. c.care) (remainder l cs) < sum_by (λ c. c.care) cs
remainder_less l cs some =
    let k : sum_by (λ c. c.care) (quotient l cs) + length (filter (stands_in l) cs) ≤ sum_by (λ c. c.care) (filter (stands_in l) cs) =
    quotient_lighter l (filter (stands_in l) cs) (filter_passes (stands_in l) cs) in
    omega (arith, k, length-filter (stands_in l) cs, sum_by-filter_both (stands_in l) (λ c. not (stands_in l c)) (λ c. refl) (λ (c : Cube). c.care) cs)

-- two ways to form lighter lists that agree form alike
rest_agree : (f g : ℕ → List Cube → Laid) (p : ℕ) (l : Lit) (cs : List Cube) → ((q : ℕ) → f q cs ≡ g q cs) → with_rest f p l cs ≡ with_rest g p l cs
rest_agree f g p l [] h = refl
rest_agree f g p l (c ∷ cs) h = ap (λ (r : Laid). after r (or_at (p + length r.steps) l r.root)) (h p)

divided_agree : (f g : ℕ → List Cube → Laid) (p : ℕ) (l : Lit) (cs : List Cube) → ((q : ℕ) → f q (quotient l cs) ≡ g q (quotient l cs)) → ((q : ℕ) → f q (remainder l cs) ≡ g q (remainder l cs))
    → divided f p l cs ≡ divided g p l cs
divided_agree f g p l cs hq hr =
    ap (λ (q : Laid). let t : Laid = multiple_at (p + length q.steps) l q.root in after q (after t (with_rest f (p + length q.steps + length t.steps) t.root (remainder l cs)))) (hq p)
    ∙ (let q : Laid = g p (quotient l cs) in
    let t : Laid = multiple_at (p + length q.steps) l q.root in
    ap (λ (r : Laid). after q (after t r)) (rest_agree f g (p + length q.steps + length t.steps) t.root (remainder l cs) hr))

literal_agree : (b : Bool) (f g : ℕ → List Cube → Laid) (n p : ℕ) (l : Lit) (cs : List Cube) → (b ≡ false → (q : ℕ) → f q (quotient l cs) ≡ g q (quotient l cs)) → (b ≡ false → (q : ℕ) → f q (remainder l cs) ≡ g q (remainder l cs))
    → by_literal b f n p l cs ≡ by_literal b g n p l cs
literal_agree true f g n p l cs hq hr = refl
literal_agree false f g n p l cs hq hr = divided_agree f g p l cs (hq refl) (hr refl)

used : (cs : List Cube) (l : Lit) → nat_le (uses cs l) 1 ≡ false → 0 < uses cs l
used cs l h = omega (arith, leb-false (uses cs l) 1 h)

lighter_agree : (f g : ℕ → List Cube → Laid) (n p : ℕ) (cs : List Cube) → ((q : ℕ) (ds : List Cube) → sum_by (λ c. c.care) ds < sum_by (λ c. c.care) cs → f q ds ≡ g q ds) → form_by f n p cs ≡ form_by g n p cs
lighter_agree f g n p cs h = go (list_any is_universe cs) where
  go : (b : Bool) → by_universe b f n p cs ≡ by_universe b g n p cs
  go true = refl
  go false =
      let l : Lit = most_common (2 * n) cs in
      literal_agree (nat_le (uses cs l) 1) f g n p l cs (λ e q. h q (quotient l cs) (quotient_less l cs (used cs l e))) (λ e q. h q (remainder l cs) (remainder_less l cs (used cs l e)))

enough : (j k n p : ℕ) (cs : List Cube) → turns cs ≤ j → turns cs ≤ k → form_in j n p cs ≡ form_in k n p cs
unfolding form_in
enough zero k n p cs hj hk = absurd (omega arith)
enough (suc j) zero n p cs hj hk = absurd (omega arith)
enough (suc j) (suc k) n p cs hj hk =
    lighter_agree (λ q ds. form_in j n q ds) (λ q ds. form_in k n q ds) n p cs (λ q ds lt. enough j k n q ds (omega arith) (omega arith))

-- the form by one turn of the procedure
pub form_turn : (n p : ℕ) (cs : List Cube) → form_of n p cs ≡ form_by (λ q ds. form_of n q ds) n p cs
unfolding form_of form_in
form_turn n p cs =
    let m : ℕ = sum_by (λ c. c.care) cs in
    (let e : turns cs ≡ suc m = omega arith in ap (λ k. form_in k n p cs) e)
    ∙ lighter_agree (λ q ds. form_in m n q ds) (λ q ds. form_in (turns ds) n q ds) n p cs (λ q ds lt. enough m (turns ds) n q ds (omega arith) (omega arith))

-- ---- the cases, by what the code knows
pub form_true : (n p : ℕ) (cs : List Cube) → list_any is_universe cs ≡ true → form_of n p cs ≡ given (record { 0 = 1 })
form_true n p cs h = form_turn n p cs ∙ ap (λ b. by_universe b (λ q ds. form_of n q ds) n p cs) h

pub form_apart : (n p : ℕ) (cs : List Cube) (l : Lit) → list_any is_universe cs ≡ false → l ≡ most_common (2 * n) cs → uses cs l ≤ 1 → form_of n p cs ≡ disjunction (length cs) n p cs
form_apart n p cs l h el le =
    form_turn n p cs ∙ ap (λ b. by_universe b (λ q ds. form_of n q ds) n p cs) h
    ∙ ap (λ (x : Lit). by_literal (nat_le (uses cs x) 1) (λ q ds. form_of n q ds) n p x cs) (sym el)
    ∙ ap (λ b. by_literal b (λ q ds. form_of n q ds) n p l cs) (le-leb (uses cs l) 1 le)

pub form_divided : (n p : ℕ) (cs : List Cube) (l : Lit) → list_any is_universe cs ≡ false → l ≡ most_common (2 * n) cs → 1 < uses cs l → form_of n p cs ≡ divided (λ q ds. form_of n q ds) p l cs
form_divided n p cs l h el lt =
    form_turn n p cs ∙ ap (λ b. by_universe b (λ q ds. form_of n q ds) n p cs) h
    ∙ ap (λ (x : Lit). by_literal (nat_le (uses cs x) 1) (λ q ds. form_of n q ds) n p x cs) (sym el)
    ∙ ap (λ b. by_literal b (λ q ds. form_of n q ds) n p l cs) (lt-leb (uses cs l) 1 lt)

-- ---- a literal that stands in a cube is of one of its variables
some_stands : (l : Lit) (cs : List Cube) → 0 < uses cs l → (n : ℕ) → All (IsCube n) cs → variable_of l < n
some_stands l [] h n each = absurd (omega arith)
some_stands l (c ∷ cs) h n each = go (stands_in l c) refl (λ k. some_stands l cs k n (All-tail (IsCube n) c cs each)) where
  go : (b : Bool) → stands_in l c ≡ b → (0 < uses cs l → variable_of l < n) → variable_of l < n
  go true e later =
      let cube : IsCube n c = All-head (IsCube n) c cs each in
      elim (cases_lt (variable_of l) n) [
        | inl lt ↦ lt
        | inr ge ↦ absurd (false≢true (sym (set_above n c.care (variable_of l) cube.care ge) ∙ stands_set l c e))
      ]
  go false e later =
      let k : uses (c ∷ cs) l ≡ uses cs l = sum_by-cons (λ x. cond (stands_in l x) 1 0) c cs ∙ ap (λ b. cond b 1 0 + uses cs l) e ∙ omega arith in
      later (omega arith)

pub literal_inside : (l : Lit) (cs : List Cube) (n : ℕ) → 1 < uses cs l → All (IsCube n) cs → place l < n + 1
literal_inside l cs n h each = omega (arith, some_stands l cs (omega arith) n each)
