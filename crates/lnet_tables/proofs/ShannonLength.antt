-- What the expansion costs, and how many steps it has, by the number of variables.
use Rattle.std.proofs.Common.{◌≡◌, ◌≢◌, ◌==◌, ℕ, zero, suc, ◌+◌, ◌*◌, ◌^◌, ◌%◌, ◌<◌, ◌≤◌, Bool, true, false, cond, not, List, [], ◌∷◌, ◌++◌, length, refl, sym, ◌∙◌, ap, subst, arith, length-append, add-one, lit≤}
use Rattle.std.proofs.lemmas.Bool.{false≢true}
use Rattle.std.proofs.lemmas.Nat.{pow_pos}
use Rattle.lnet_tables.specs.Inverse.{row_inside}
use Rattle.lnet_tables.specs.declared.step.Lit.{Lit}
use Rattle.lnet_tables.specs.Bits.{equal_rows, Rows, row, constant_rows, not_rows, cofactor_rows, by_rows}
use Rattle.lnet_tables.proofs.Rowwise.{told_by_rows, rows_long}
use Rattle.lnet_tables.specs.declared.expansion.Case.{Case}
use Rattle.lnet_tables.specs.declared.expansion.Case.TheVariants.{Unused, Plain, Complement, HighTrue, HighFalse, LowTrue, LowFalse, Opposite, Neither}
use Rattle.lnet_tables.specs.declared.step.Step.{Step}
use Rattle.lnet_tables.specs.declared.step.StepOp.{StepOp}
use Rattle.lnet_tables.specs.declared.step.StepOp.TheVariants.{And, Xor}
use Rattle.lnet_tables.specs.Weights.{weight}
use Rattle.lnet_tables.specs.Shannon.{Laid, after, plain, choice_at, is_constant, case_of, combine, expansion, one_step_at}
use Rattle.lnet_tables.proofs.Equal.{equal_rows_decides}
use Rattle.lnet_tables.proofs.ShannonSteps.{expansion_none, expansion_by_case}
use Rattle.lnet_tables.proofs.ShannonCases.{NoneHolds, Told, case_told}
use Rattle.lnet_tables.proofs.Below.{Below, below_cofactor, constant_row}

-- a bound on the cost of a table that depends on its first n variables only, where m is the greatest cost of a step
abbrev pub most : ℕ → ℕ → ℕ
most m zero = 0
most m (suc zero) = 0
most m (suc (suc zero)) = m
most m (suc (suc (suc n))) = 2 * most m (suc (suc n)) + 3

-- an and costs one at most, and no step of the expansion costs more than m
pub record Costs (cost : StepOp → ℕ) (m : ℕ) : Type 0 where
  pub ands : cost And ≤ 1
  pub xors : cost Xor ≤ m
  pub some : 1 ≤ m
  pub few : m ≤ 3

-- a table that has a value for each row
abbrev Whole : Rows → Type 0
Whole t = length t.bits ≡ 2 ^ t.vars

-- ---- tables of no variable
test_same : (t u : Rows) → t.vars ≡ u.vars → t ≡ u → equal_rows t u ≡ true
test_same t u e h = (equal_rows_decides t u).1 h

test_differ : (t u : Rows) → t.vars ≡ u.vars → row t 0 ≢ row u 0 → equal_rows t u ≡ false
test_differ t u e h = go (equal_rows t u) refl where
  go : (b : Bool) → equal_rows t u ≡ b → equal_rows t u ≡ false
  go true s = absurd (h (ap (λ (x : Rows). row x 0) ((equal_rows_decides t u).0 s)))
  go false s = s

-- a table that is constant at every row
constant_from : (t : Rows) (value : Bool) → Whole t → ((r : ℕ) → r < 2 ^ t.vars → row t r ≡ value) → t ≡ constant_rows t.vars value
constant_from t value whole h = told_by_rows t t.vars (λ r. value) refl whole h

test_constant : (t : Rows) (value : Bool) → Whole t → ((r : ℕ) → r < 2 ^ t.vars → row t r ≡ value) → is_constant t value ≡ true
test_constant t value whole h = test_same t (constant_rows t.vars value) refl (constant_from t value whole h)

-- the cases that take no step of their own, and none of the cofactors
abbrev IsGiven : Case → Type 0
IsGiven Unused = Unit {0}
IsGiven Plain = Unit {0}
IsGiven Complement = Unit {0}
IsGiven _ = ⊥

is_given : (high low : Rows) → high.vars ≡ low.vars → Whole high → Whole low → (a b : Bool)
    → ((r : ℕ) → r < 2 ^ high.vars → row high r ≡ a) → ((r : ℕ) → r < 2 ^ low.vars → row low r ≡ b) → IsGiven (case_of high low)
unfolding case_of
is_given high low e wh wl true true h l =
    rw (test_same high low e (constant_from high true wh h ∙ ap (λ (n : ℕ). constant_rows n true) e ∙ sym (constant_from low true wl l))) tt
is_given high low e wh wl false false h l =
    rw (test_same high low e (constant_from high false wh h ∙ ap (λ (n : ℕ). constant_rows n false) e ∙ sym (constant_from low false wl l))) tt
is_given high low e wh wl true false h l =
    let some : 0 < 2 ^ high.vars = pow_pos high.vars in
    let less : 0 < 2 ^ low.vars = pow_pos low.vars in
    let differ : row high 0 ≢ row low 0 = λ same. false≢true (sym (l 0 less) ∙ sym same ∙ h 0 some) in
    rw (test_differ high low e differ, test_constant high true wh h, test_constant low false wl l) tt
is_given high low e wh wl false true h l =
    let some : 0 < 2 ^ high.vars = pow_pos high.vars in
    let less : 0 < 2 ^ low.vars = pow_pos low.vars in
    let differ : row high 0 ≢ row low 0 = λ same. false≢true (sym (h 0 some) ∙ same ∙ l 0 less) in
    let other : row high 0 ≢ row (constant_rows high.vars true) 0 = λ same. false≢true (sym (h 0 some) ∙ same ∙ row_inside high.vars (λ r. true) 0 some) in
    rw (test_differ high low e differ, test_differ high (constant_rows high.vars true) refl other, test_constant high false wh h, test_constant low true wl l) tt

-- ---- tables of one variable
row_by : (t : Rows) (a b : Bool) → Below 1 t → row t 0 ≡ a → row t 1 ≡ b → (r : ℕ) → r < 2 ^ t.vars → row t r ≡ cond (r % 2 == 0) a b
row_by t a b below first second r lt = below.same r lt ∙ go (r % 2) (omega arith) where
  go : (m : ℕ) → m < 2 → row t m ≡ cond (m == 0) a b
  go zero lt = first
  go (suc zero) lt = second
  go (suc (suc m)) lt = absurd (omega arith)

cond_same : (x b : Bool) → cond x b b ≡ b
cond_same true b = refl
cond_same false b = refl

cond_not : (x a b : Bool) → cond x (not a) (not b) ≡ not (cond x a b)
cond_not true a b = refl
cond_not false a b = refl

is_one : (t : Rows) (b : Bool) → Whole t → Below 1 t → row t 0 ≡ b → row t 1 ≡ b → is_constant t b ≡ true
is_one t b whole below first second = test_constant t b whole (λ r lt. row_by t b b below first second r lt ∙ cond_same (r % 2 == 0) b)

are_same : (high low : Rows) (a b : Bool) → high.vars ≡ low.vars → Whole high → Whole low → Below 1 high → Below 1 low
    → row high 0 ≡ a → row high 1 ≡ b → row low 0 ≡ a → row low 1 ≡ b → equal_rows high low ≡ true
are_same high low a b e wh wl bh bl h0 h1 l0 l1 = test_same high low e
    (told_by_rows high high.vars (λ r. cond (r % 2 == 0) a b) refl wh (row_by high a b bh h0 h1)
    ∙ ap (λ (n : ℕ). by_rows n (λ r. cond (r % 2 == 0) a b)) e
    ∙ sym (told_by_rows low low.vars (λ r. cond (r % 2 == 0) a b) refl wl (row_by low a b bl l0 l1)))

are_opposite : (high low : Rows) (a b : Bool) → high.vars ≡ low.vars → Whole high → Below 1 high → Below 1 low
    → row high 0 ≡ not a → row high 1 ≡ not b → row low 0 ≡ a → row low 1 ≡ b → equal_rows high (not_rows low) ≡ true
are_opposite high low a b e wh bh bl h0 h1 l0 l1 = test_same high (not_rows low) e
    (told_by_rows high low.vars (λ r. not (row low r)) e (wh ∙ ap (λ (n : ℕ). 2 ^ n) e)
    (λ r lt. row_by high (not a) (not b) bh h0 h1 r (rw e lt) ∙ cond_not (r % 2 == 0) a b ∙ ap not (sym (row_by low a b bl l0 l1 r lt))))

-- two functions of one variable are always in a case with at most one step
one_is_enough : (high low : Rows) → high.vars ≡ low.vars → Whole high → Whole low → Below 1 high → Below 1 low → NoneHolds high low → ⊥
one_is_enough high low e wh wl bh bl none = go (row high 0) (row high 1) (row low 0) (row low 1) refl refl refl refl where
  no : (b : Bool) → b ≡ false → b ≡ true → ⊥
  no b f t = false≢true (sym f ∙ t)

  go : (a b c d : Bool) → row high 0 ≡ a → row high 1 ≡ b → row low 0 ≡ c → row low 1 ≡ d → ⊥
  go true true c d h0 h1 l0 l1 = no _ none.high_true (is_one high true wh bh h0 h1)
  go false false c d h0 h1 l0 l1 = no _ none.high_false (is_one high false wh bh h0 h1)
  go true false true true h0 h1 l0 l1 = no _ none.low_true (is_one low true wl bl l0 l1)
  go true false false false h0 h1 l0 l1 = no _ none.low_false (is_one low false wl bl l0 l1)
  go true false true false h0 h1 l0 l1 = no _ none.same (are_same high low true false e wh wl bh bl h0 h1 l0 l1)
  go true false false true h0 h1 l0 l1 = no _ none.opposite (are_opposite high low false true e wh bh bl h0 h1 l0 l1)
  go false true true true h0 h1 l0 l1 = no _ none.low_true (is_one low true wl bl l0 l1)
  go false true false false h0 h1 l0 l1 = no _ none.low_false (is_one low false wl bl l0 l1)
  go false true false true h0 h1 l0 l1 = no _ none.same (are_same high low false true e wh wl bh bl h0 h1 l0 l1)
  go false true true false h0 h1 l0 l1 = no _ none.opposite (are_opposite high low true false e wh bh bl h0 h1 l0 l1)

-- ---- what a case costs
pub weight_append : (cost : StepOp → ℕ) (ss ts : List Step) → weight cost (ss ++ ts) ≡ weight cost ss + weight cost ts
weight_append cost [] ts = omega arith
weight_append cost (s ∷ ss) ts = omega (arith, weight_append cost ss ts)

pub weight_length : (ss : List Step) → weight (λ op. 1) ss ≡ length ss
weight_length [] = refl
weight_length (s ∷ ss) = omega (arith, weight_length ss)

not_last : (high low : Rows) → high.vars ≡ low.vars → Whole high → Whole low → Below 1 high → Below 1 low → case_of high low ≢ Neither
not_last high low e wh wl bh bl k =
    one_is_enough high low e wh wl bh bl (let P : Case → Type 0 = λ c. Told c high low in subst P k (case_told high low e))

cofactor_whole : (t : Rows) (i : ℕ) (value : Bool) → Whole (cofactor_rows t i value)
cofactor_whole t i value = rows_long t.vars _

module _ (cost : StepOp → ℕ) (m : ℕ) (costs : Costs cost m) where
  and_cost : cost And + 0 ≤ m
  and_cost = omega (arith, costs.ands, costs.some)

  xor_cost : cost Xor + 0 ≤ m
  xor_cost = omega (arith, costs.xors)

  one_step_cost : (k : Case) (p : ℕ) (x s : Lit) → weight cost (one_step_at k p x s).steps ≤ m
  one_step_cost Unused p x s = xor_cost
  one_step_cost Plain p x s = xor_cost
  one_step_cost Complement p x s = xor_cost
  one_step_cost HighTrue p x s = and_cost
  one_step_cost HighFalse p x s = and_cost
  one_step_cost LowTrue p x s = and_cost
  one_step_cost LowFalse p x s = and_cost
  one_step_cost Opposite p x s = xor_cost
  one_step_cost Neither p x s = xor_cost

  one_more : (x : Laid) (k : Case) (q : ℕ) (v : Lit) (c : ℕ) → weight cost x.steps ≤ c → weight cost (after x (one_step_at k q v x.root)).steps ≤ c + m
  one_more x k q v c h = omega (arith, weight_append cost x.steps (one_step_at k q v x.root).steps, one_step_cost k q v x.root)

  -- a case that isn't the last has one step more than a cofactor
  laid_few : (f : ℕ → Rows → Laid) (k : Case) (n p : ℕ) (high low : Rows) (c : ℕ) → k ≢ Neither
      → ((q : ℕ) → weight cost (f q high).steps ≤ c) → ((q : ℕ) → weight cost (f q low).steps ≤ c)
      → weight cost (combine f k n p high low).steps ≤ c + m
  laid_few f Unused n p high low c d h l = omega (arith, l p)
  laid_few f Plain n p high low c d h l = omega arith
  laid_few f Complement n p high low c d h l = omega arith
  laid_few f HighTrue n p high low c d h l = one_more (f p low) HighTrue (p + length (f p low).steps) (plain (n + 1)) c (l p)
  laid_few f HighFalse n p high low c d h l = one_more (f p low) HighFalse (p + length (f p low).steps) (plain (n + 1)) c (l p)
  laid_few f LowTrue n p high low c d h l = one_more (f p high) LowTrue (p + length (f p high).steps) (plain (n + 1)) c (h p)
  laid_few f LowFalse n p high low c d h l = one_more (f p high) LowFalse (p + length (f p high).steps) (plain (n + 1)) c (h p)
  laid_few f Opposite n p high low c d h l = one_more (f p low) Opposite (p + length (f p low).steps) (plain (n + 1)) c (l p)
  laid_few f Neither n p high low c d h l = absurd (d refl)

  three_more : (x y z : Laid) (c : ℕ) → weight cost x.steps ≤ c → weight cost y.steps ≤ c → weight cost z.steps ≤ 3 → weight cost (after x (after y z)).steps ≤ 2 * c + 3
  three_more x y z c h l e = omega (arith, weight_append cost x.steps (y.steps ++ z.steps), weight_append cost y.steps z.steps)

  from_few : (c n : ℕ) → n ≤ c + m → n ≤ 2 * c + 3
  from_few c n h = omega (arith, costs.few)

  -- any case
  laid_many : (f : ℕ → Rows → Laid) (k : Case) (n p : ℕ) (high low : Rows) (c : ℕ)
      → ((q : ℕ) → weight cost (f q high).steps ≤ c) → ((q : ℕ) → weight cost (f q low).steps ≤ c)
      → weight cost (combine f k n p high low).steps ≤ 2 * c + 3
  laid_many f Neither n p high low c h l =
      let a : Laid = f p high in
      let b : Laid = f (p + length a.steps) low in
      let three : cost And + (cost And + (cost And + 0)) ≤ 3 = omega (arith, costs.ands) in
      three_more a b (choice_at (p + length a.steps + length b.steps) (plain (n + 1)) a.root b.root) c (h p) (l (p + length a.steps)) three
  laid_many f Unused n p high low c h l = from_few c _ (laid_few f Unused n p high low c (λ e. cc) h l)
  laid_many f Plain n p high low c h l = from_few c _ (laid_few f Plain n p high low c (λ e. cc) h l)
  laid_many f Complement n p high low c h l = from_few c _ (laid_few f Complement n p high low c (λ e. cc) h l)
  laid_many f HighTrue n p high low c h l = from_few c _ (laid_few f HighTrue n p high low c (λ e. cc) h l)
  laid_many f HighFalse n p high low c h l = from_few c _ (laid_few f HighFalse n p high low c (λ e. cc) h l)
  laid_many f LowTrue n p high low c h l = from_few c _ (laid_few f LowTrue n p high low c (λ e. cc) h l)
  laid_many f LowFalse n p high low c h l = from_few c _ (laid_few f LowFalse n p high low c (λ e. cc) h l)
  laid_many f Opposite n p high low c h l = from_few c _ (laid_few f Opposite n p high low c (λ e. cc) h l)

  given_none : (f : ℕ → Rows → Laid) (k : Case) (n p : ℕ) (high low : Rows) → IsGiven k → weight cost (f p low).steps ≤ 0 → weight cost (combine f k n p high low).steps ≤ 0
  given_none f Unused n p high low g h = h
  given_none f Plain n p high low g h = omega arith
  given_none f Complement n p high low g h = omega arith
  given_none f HighTrue n p high low g h = absurd g
  given_none f HighFalse n p high low g h = absurd g
  given_none f LowTrue n p high low g h = absurd g
  given_none f LowFalse n p high low g h = absurd g
  given_none f Opposite n p high low g h = absurd g
  given_none f Neither n p high low g h = absurd g

  -- ---- the expansion
  cheap_none : (p : ℕ) (t : Rows) → weight cost (expansion 0 p t).steps ≤ 0
  cheap_none p t = rw (expansion_none 0 p t refl) (omega arith)

  cheap_one : (p : ℕ) (t : Rows) → 1 ≤ t.vars → Below 1 t → weight cost (expansion 1 p t).steps ≤ 0
  cheap_one p t le below =
      let high : Rows = cofactor_rows t 0 true in
      let low : Rows = cofactor_rows t 0 false in
      let bh : Below 0 high = below_cofactor t 0 true (omega arith) below in
      let bl : Below 0 low = below_cofactor t 0 false (omega arith) below in
      let g : IsGiven (case_of high low) = is_given high low refl (cofactor_whole t 0 true) (cofactor_whole t 0 false) (row high 0) (row low 0)
      (constant_row high 0 refl bh) (constant_row low 0 refl bl) in
      rw (expansion_by_case 1 0 p t high low (case_of high low) refl refl refl refl)
      (given_none (λ q u. expansion 0 q u) (case_of high low) 0 p high low g (cheap_none p low))

  rise : {n : ℕ} → n ≤ 0 + m → n ≤ m
  rise h = omega arith

  cheap_two : (p : ℕ) (t : Rows) → 2 ≤ t.vars → Below 2 t → weight cost (expansion 2 p t).steps ≤ m
  cheap_two p t le below =
      let high : Rows = cofactor_rows t 1 true in
      let low : Rows = cofactor_rows t 1 false in
      let bh : Below 1 high = below_cofactor t 1 true (omega arith) below in
      let bl : Below 1 low = below_cofactor t 1 false (omega arith) below in
      rw (expansion_by_case 2 1 p t high low (case_of high low) refl refl refl refl)
      (rise (laid_few (λ q u. expansion 1 q u) (case_of high low) 1 p high low 0
      (not_last high low refl (cofactor_whole t 1 true) (cofactor_whole t 1 false) bh bl)
      (λ q. cheap_one q high (omega arith) bh) (λ q. cheap_one q low (omega arith) bl)))

  cheap_many : (n p : ℕ) (t : Rows) → suc (suc n) ≤ t.vars → Below (suc (suc n)) t → weight cost (expansion (suc (suc n)) p t).steps ≤ most m (suc (suc n))
  cheap_many zero p t le below = cheap_two p t le below
  cheap_many (suc n) p t le below =
      let high : Rows = cofactor_rows t (suc (suc n)) true in
      let low : Rows = cofactor_rows t (suc (suc n)) false in
      let more : Below (suc (suc n) + 1) t = rw add-one below in
      let lt : suc (suc n) < t.vars = omega arith in
      rw (expansion_by_case (suc (suc (suc n))) (suc (suc n)) p t high low (case_of high low) refl refl refl refl)
      (laid_many (λ q u. expansion (suc (suc n)) q u) (case_of high low) (suc (suc n)) p high low (most m (suc (suc n)))
      (λ q. cheap_many n q high (omega arith) (below_cofactor t (suc (suc n)) true lt more))
      (λ q. cheap_many n q low (omega arith) (below_cofactor t (suc (suc n)) false lt more)))

  -- what a table that depends on its first n variables only costs at most
  pub expansion_cheap : (n p : ℕ) (t : Rows) → n ≤ t.vars → Below n t → weight cost (expansion n p t).steps ≤ most m n
  expansion_cheap zero p t le below = cheap_none p t
  expansion_cheap (suc zero) p t le below = cheap_one p t le below
  expansion_cheap (suc (suc n)) p t le below = cheap_many n p t le below

steps_cost : Costs (λ op. 1) 1
steps_cost = record { ands = lit≤ tt; xors = lit≤ tt; some = lit≤ tt; few = lit≤ tt }

-- how many steps a table that depends on its first n variables only takes at most
pub expansion_short : (n p : ℕ) (t : Rows) → n ≤ t.vars → Below n t → length (expansion n p t).steps ≤ most 1 n
expansion_short n p t le below = rw (← weight_length (expansion n p t).steps) (expansion_cheap (λ op. 1) 1 steps_cost n p t le below)

pub most_small : (n : ℕ) → n ≤ 7 → most 1 n ≤ 128
most_small zero le = lit≤ tt
most_small (suc zero) le = lit≤ tt
most_small (suc (suc zero)) le = lit≤ tt
most_small (suc (suc (suc zero))) le = lit≤ tt
most_small (suc (suc (suc (suc zero)))) le = lit≤ tt
most_small (suc (suc (suc (suc (suc zero))))) le = lit≤ tt
most_small (suc (suc (suc (suc (suc (suc zero)))))) le = lit≤ tt
most_small (suc (suc (suc (suc (suc (suc (suc zero))))))) le = lit≤ tt
most_small (suc (suc (suc (suc (suc (suc (suc (suc n)))))))) le = absurd (omega arith)

pub most_native : (n : ℕ) → n ≤ 6 → most 3 n ≤ 93
most_native zero le = lit≤ tt
most_native (suc zero) le = lit≤ tt
most_native (suc (suc zero)) le = lit≤ tt
most_native (suc (suc (suc zero))) le = lit≤ tt
most_native (suc (suc (suc (suc zero)))) le = lit≤ tt
most_native (suc (suc (suc (suc (suc zero))))) le = lit≤ tt
most_native (suc (suc (suc (suc (suc (suc zero)))))) le = lit≤ tt
most_native (suc (suc (suc (suc (suc (suc (suc n))))))) le = absurd (omega arith)
