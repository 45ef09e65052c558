-- What the definitions say of plain cases: forms of few cubes, the literal that stands in most cubes, and the variable that
-- is passed over.
use Rattle.std.proofs.Common.{◌≡◌, ℕ, zero, suc, ◌+◌, ◌*◌, ◌^◌, ◌<◌, ◌≤◌, Bool, true, false, not, cond, List, [], ◌∷◌, length, refl, sym, ◌∙◌, ap, subst, arith, add-one, add-zero, append-nil, inl, inr, nat_lt, ◌||◌}
use Rattle.std.proofs.lemmas.Bool.{cases_lt, ltb-true, ltb-false, eqb-true}
use Rattle.std.proofs.lemmas.List.Sums.{count_by-le-length}
use Rattle.lnet_tables.specs.Bits.{Rows, row, by_rows, bit_of, is_set, with_bit, cofactor_rows, equal_rows, depends_on}
use Rattle.lnet_tables.specs.Inverse.{row_inside}
use Rattle.lnet_tables.specs.declared.step.Lit.{Lit}
use Rattle.lnet_tables.specs.declared.step.Step.{Step}
use Rattle.lnet_tables.specs.Shannon.{Laid, given, after}
use Rattle.lnet_tables.proofs.Equal.{equal_rows_decides}
use Rattle.lnet_tables.proofs.Ops.{same_rows}
use Rattle.lnet_sop.specs.declared.cover.Cube.{Cube}
use Rattle.lnet_sop.specs.Isop.{half}
use Rattle.lnet_sop.specs.Factored.{literal, stands_in, literal_of, product_at, uses, most_common, is_universe, literal_at, conjunction, disjunction, form_of}
use Rattle.lnet_sop.proofs.CubeRows.{set_none, by_value}
use Rattle.lnet_sop.proofs.TableRows.{half_is}
use Rattle.lnet_sop.proofs.Without.{put_here}
use Rattle.lnet_sop.proofs.Factors.{form_true, form_apart}

-- ---- forms of few cubes
pub no_cubes : (n p : ℕ) → form_of n p [] ≡ given (record { 0 = 0 })
unfolding disjunction
no_cubes n p = form_apart n p [] (most_common (2 * n) []) refl refl (omega arith)

unset : (n p : ℕ) (c : Cube) → c.care ≡ 0 → literal_at p (record { 0 = 1 }) c n ≡ given (record { 0 = 1 })
unset n p c e =
    let one : Lit = record { 0 = 1 } in
    ap (λ t. cond t (product_at p one (literal_of c n)) (given one)) (ap (λ k. is_set k n) e ∙ set_none n)

conjunction_universe : (n p : ℕ) (c : Cube) → c.care ≡ 0 → conjunction n p c ≡ given (record { 0 = 1 })
unfolding conjunction
conjunction_universe zero p c e = refl
conjunction_universe (suc n) p c e =
    let one : Lit = record { 0 = 1 } in
    ap (λ (x : Laid). after x (literal_at (p + length x.steps) x.root c n)) (conjunction_universe n p c e)
    ∙ ap (λ (x : Laid). after (given one) x) (unset n (p + 0) c e)

after_given : (x : Laid) → after x (given x.root) ≡ x
after_given x = ap (λ (ss : List Step). let y : Laid = record { steps = ss; root = x.root } in y) (append-nil x.steps)

one_disjunction : (n p : ℕ) (c : Cube) → disjunction (length (c ∷ [])) n p (c ∷ []) ≡ conjunction n p c
unfolding disjunction
one_disjunction n p c = after_given (conjunction n (p + 0) c) ∙ ap (λ q. conjunction n q c) (add-zero p)

pub one_cube : (n p : ℕ) (c : Cube) → form_of n p (c ∷ []) ≡ conjunction n p c
one_cube n p c = go (is_universe c) refl where
  go : (b : Bool) → is_universe c ≡ b → form_of n p (c ∷ []) ≡ conjunction n p c
  go true e = form_true n p (c ∷ []) (ap (λ t. t || false) e) ∙ sym (conjunction_universe n p c (eqb-true c.care 0 e))
  go false e =
      let l : Lit = most_common (2 * n) (c ∷ []) in
      let few : uses (c ∷ []) l ≤ length (c ∷ []) = count_by-le-length (stands_in l) (c ∷ []) in
      form_apart n p (c ∷ []) l (ap (λ t. t || false) e) refl few ∙ one_disjunction n p c

-- ---- the literal that stands in most cubes
most_of : (n k : ℕ) (cs : List Cube) (best : Lit) (b : Bool) → k < suc n → nat_lt (uses cs best) (uses cs (literal n)) ≡ b
    → (k < n → uses cs (literal k) ≤ uses cs best) → uses cs (literal k) ≤ uses cs (cond b (literal n) best)
most_of n k cs best true lt e h =
    let less : uses cs best < uses cs (literal n) = ltb-true (uses cs best) (uses cs (literal n)) e in
    elim (cases_lt k n) [
      | inl l ↦ omega (arith, h l, less)
      | inr g ↦ let same : k ≡ n = omega arith in subst (λ (j : ℕ). uses cs (literal j) ≤ uses cs (literal n)) (sym same) (omega arith)
    ]
most_of n k cs best false lt e h =
    let less : uses cs (literal n) ≤ uses cs best = ltb-false (uses cs best) (uses cs (literal n)) e in
    elim (cases_lt k n) [
      | inl l ↦ h l
      | inr g ↦ let same : k ≡ n = omega arith in subst (λ (j : ℕ). uses cs (literal j) ≤ uses cs best) (sym same) less
    ]

-- none stands in more cubes
pub most_common_most : (n k : ℕ) (cs : List Cube) → k < n → uses cs (literal k) ≤ uses cs (most_common n cs)
unfolding most_common
most_common_most zero k cs lt = absurd (omega arith)
most_common_most (suc n) k cs lt =
    most_of n k cs (most_common n cs) (nat_lt (uses cs (most_common n cs)) (uses cs (literal n))) lt refl (λ l. most_common_most n k cs l)

first_of : (n k : ℕ) (cs : List Cube) (best : Lit) (b : Bool) → nat_lt (uses cs best) (uses cs (literal n)) ≡ b → k + 2 < (cond b (literal n) best).0
    → (k < n → uses cs (literal k) ≤ uses cs best) → (k + 2 < best.0 → uses cs (literal k) < uses cs best) → uses cs (literal k) < uses cs (cond b (literal n) best)
first_of n k cs best true e lt h f =
    let less : uses cs best < uses cs (literal n) = ltb-true (uses cs best) (uses cs (literal n)) e in
    omega (arith, h (omega arith), less)
first_of n k cs best false e lt h f = f lt

-- those before it stand in fewer
pub most_common_first : (n k : ℕ) (cs : List Cube) → k + 2 < (most_common n cs).0 → uses cs (literal k) < uses cs (most_common n cs)
unfolding most_common
most_common_first zero k cs lt = absurd (omega arith)
most_common_first (suc n) k cs lt =
    first_of n k cs (most_common n cs) (nat_lt (uses cs (most_common n cs)) (uses cs (literal n))) refl lt (λ l. most_common_most n k cs l) (λ l. most_common_first n k cs l)

-- ---- the variable that is passed over
iff_same : (a b : Bool) → (a ≡ true → b ≡ true) → (b ≡ true → a ≡ true) → a ≡ b
iff_same true b f g = sym (f refl)
iff_same false true f g = g refl
iff_same false false f g = refl

not_twice : (b : Bool) → not (not b) ≡ b
not_twice true = refl
not_twice false = refl

half_cofactor : (n : ℕ) (t : Rows) (v : Bool) → n < t.vars → half t n v ≡ by_rows n (row (cofactor_rows t n v))
half_cofactor n t v lt = sym (half_is t n v (row (cofactor_rows t n v)) lt (λ r. refl))

-- the cofactors at a row of one half
cofactor_half : (n : ℕ) (t : Rows) (v b : Bool) (x : ℕ) → x < 2 ^ n → row t (with_bit (bit_of b * 2 ^ n + x) n v) ≡ row (half t n v) x
cofactor_half n t v b x lt = ap (λ (k : ℕ). row t k) (put_here b v n x lt) ∙ sym (row_inside n (λ r. row t (bit_of v * 2 ^ n + r)) x lt)

-- neither half differs from the other exactly where the table doesn't depend on its last variable
pub halves_depend : (n : ℕ) (t : Rows) → t.vars ≡ n + 1 → equal_rows (half t n false) (half t n true) ≡ not (depends_on t n)
unfolding depends_on
halves_depend n t e =
    let low : Rows = cofactor_rows t n false in
    let high : Rows = cofactor_rows t n true in
    iff_same (equal_rows (half t n false) (half t n true)) (equal_rows low high)
    (λ h. (equal_rows_decides low high).1 (let same : half t n false ≡ half t n true = (equal_rows_decides (half t n false) (half t n true)).0 h in
    same_rows t.vars (λ r. row t (with_bit r n false)) (λ r. row t (with_bit r n true)) (λ r lt.
    by_value n (λ k. row t (with_bit k n false) ≡ row t (with_bit k n true))
    (λ b x l. cofactor_half n t false b x l ∙ ap (λ (s : Rows). row s x) same ∙ sym (cofactor_half n t true b x l))
    r (subst (λ (k : ℕ). r < 2 ^ k) (e ∙ add-one n) lt))))
    (λ h. (equal_rows_decides (half t n false) (half t n true)).1
    (half_cofactor n t false (omega arith) ∙ ap (λ (s : Rows). by_rows n (row s)) ((equal_rows_decides low high).0 h) ∙ sym (half_cofactor n t true (omega arith))))
    ∙ sym (not_twice (equal_rows low high))
