-- The expansion's root means the table.
use Rattle.std.proofs.Common.{◌≡◌, ℕ, zero, suc, ◌+◌, ◌^◌, ◌<◌, ◌≤◌, Bool, true, false, not, List, [], ◌∷◌, ◌++◌, length, refl, sym, ◌∙◌, ap, subst, arith, append_assoc, length-append, add-one}
use Rattle.std.specs.Prelude.{◌&&◌}
use Rattle.lnet_tables.specs.Bits.{Rows, row, bit_of, bit_xor2, is_set, constant_rows, not_rows, cofactor_rows}
use Rattle.lnet_tables.specs.Inverse.{row_inside}
use Rattle.lnet_tables.specs.declared.step.Lit.{Lit}
use Rattle.lnet_tables.specs.declared.step.Step.{Step}
use Rattle.lnet_tables.specs.declared.step.StepOp.{StepOp}
use Rattle.lnet_tables.specs.declared.step.StepOp.TheVariants.{And, Xor}
use Rattle.lnet_tables.specs.declared.expansion.Case.{Case}
use Rattle.lnet_tables.specs.declared.expansion.Case.TheVariants.{Unused, Plain, Complement, HighTrue, HighFalse, LowTrue, LowFalse, Opposite, Neither}
use Rattle.lnet_tables.specs.Recipes.{RecipeValue, next_place, apply}
use Rattle.lnet_tables.specs.Means.{Means}
use Rattle.lnet_tables.specs.Shannon.{Laid, given, after, plain, complemented, other, step_of, and_at, or_at, xor_at, choice_at, one_step_at, case_of, combine, expansion}
use Rattle.lnet_tables.proofs.ShannonSteps.{other_plain, expansion_none, expansion_by_case}
use Rattle.lnet_tables.proofs.ShannonCases.{Told, case_told}
use Rattle.lnet_tables.proofs.Growing.{means_kept, means_push, means_other, means_leaf, means_constant, means_as}
use Rattle.lnet_tables.proofs.Below.{Below, below_cofactor, cofactor_row, constant_row}

-- a recipe with these steps at its end
abbrev pub grown : RecipeValue → Laid → RecipeValue
grown s x = record s { steps = s.steps ++ x.steps }

-- one more step of two operands
step_means : (s : RecipeValue) (op : StepOp) (a b : Lit) (f g : ℕ → Bool) → Means s a f → Means s b g
    → Means (grown s (record { steps = step_of op a b ∷ []; root = a })) (plain (next_place s)) (λ r. apply op (f r) (g r) false)
step_means s op a b f g mf mg =
    means_push s (record { leaves = s.leaves; steps = s.steps ++ step_of op a b ∷ []; root = s.root }) (step_of op a b) (plain (next_place s)) refl refl refl f g (λ r. false) mf mg (means_constant s false (record { 0 = 0 }) refl)

pub and_means : (s : RecipeValue) (a b : Lit) (f g : ℕ → Bool) → Means s a f → Means s b g
    → Means (grown s (and_at (next_place s) a b)) (plain (next_place s)) (λ r. f r && g r)
and_means s a b f g mf mg = step_means s And a b f g mf mg

pub xor_means : (s : RecipeValue) (a b : Lit) (f g : ℕ → Bool) → Means s a f → Means s b g
    → Means (grown s (xor_at (next_place s) a b)) (plain (next_place s)) (λ r. bit_xor2 (f r) (g r))
xor_means s a b f g mf mg = step_means s Xor a b f g mf mg

pub or_means : (s : RecipeValue) (a b : Lit) (f g : ℕ → Bool) → Means s a f → Means s b g
    → Means (grown s (or_at (next_place s) a b)) (complemented (next_place s)) (λ r. not (not (f r) && not (g r)))
or_means s a b f g mf mg =
    let t : RecipeValue = grown s (or_at (next_place s) a b) in
    subst (λ (l : Lit). Means t l (λ r. not (not (f r) && not (g r)))) (other_plain (next_place s))
    (means_other t (plain (next_place s)) (λ r. not (f r) && not (g r))
    (step_means s And (other a) (other b) (λ r. not (f r)) (λ r. not (g r)) (means_other s a f mf) (means_other s b g mg)))

-- steps in turn
pub after_means : (s : RecipeValue) (x : Laid) (y : ℕ → Lit → Laid) (f : ℕ → Bool)
    → Means (grown (grown s x) (y (next_place (grown s x)) x.root)) (y (next_place (grown s x)) x.root).root f
    → Means (grown s (after x (y (next_place s + length x.steps) x.root))) (y (next_place s + length x.steps) x.root).root f
after_means s x y f m =
    let e : next_place (grown s x) ≡ next_place s + length x.steps = omega (arith, length-append s.steps x.steps) in
    let k : Means (grown (grown s x) (y (next_place s + length x.steps) x.root)) (y (next_place s + length x.steps) x.root).root f =
    subst (λ (p : ℕ). Means (grown (grown s x) (y p x.root)) (y p x.root).root f) e m in
    subst (λ (ss : List Step). Means (record { leaves = s.leaves; steps = ss; root = s.root }) (y (next_place s + length x.steps) x.root).root f)
    (append_assoc s.steps x.steps (y (next_place s + length x.steps) x.root).steps) k

pub grown_means : (s : RecipeValue) (x : Laid) (l : Lit) (f : ℕ → Bool) → Means s l f → Means (grown s x) l f
grown_means s x l f m = means_kept s (grown s x) l f (record { leaves = refl; more = x.steps; steps = refl }) m

-- ---- the cases
-- the value of the one step of a case, from the variable and the cofactor that is enough
abbrev joined : Case → Bool → Bool → Bool
joined HighTrue v g = not (not v && not g)
joined HighFalse v g = not v && g
joined LowTrue v g = not (not (not v) && not g)
joined LowFalse v g = v && g
joined _ v g = bit_xor2 v g

one_step_means : (k : Case) (s : RecipeValue) (x l : Lit) (f g : ℕ → Bool) → Means s x f → Means s l g
    → Means (grown s (one_step_at k (next_place s) x l)) (one_step_at k (next_place s) x l).root (λ r. joined k (f r) (g r))
one_step_means HighTrue s x l f g mf mg = or_means s x l f g mf mg
one_step_means HighFalse s x l f g mf mg = and_means s (other x) l (λ r. not (f r)) g (means_other s x f mf) mg
one_step_means LowTrue s x l f g mf mg = or_means s (other x) l (λ r. not (f r)) g (means_other s x f mf) mg
one_step_means LowFalse s x l f g mf mg = and_means s x l f g mf mg
one_step_means Unused s x l f g mf mg = xor_means s x l f g mf mg
one_step_means Plain s x l f g mf mg = xor_means s x l f g mf mg
one_step_means Complement s x l f g mf mg = xor_means s x l f g mf mg
one_step_means Opposite s x l f g mf mg = xor_means s x l f g mf mg
one_step_means Neither s x l f g mf mg = xor_means s x l f g mf mg

-- x's value where v holds and y's where it doesn't, as three steps
abbrev chosen : Bool → Bool → Bool → Bool
chosen v x y = not (not (v && x) && not (not v && y))

choice_means : (s : RecipeValue) (x a b : Lit) (v f g : ℕ → Bool) → Means s x v → Means s a f → Means s b g
    → Means (grown s (choice_at (next_place s) x a b)) (complemented (next_place s + 2)) (λ r. chosen (v r) (f r) (g r))
choice_means s x a b v f g mv mf mg =
    let one : Laid = and_at (next_place s) x a in
    let t : RecipeValue = grown s one in
    let two : Laid = and_at (next_place t) (other x) b in
    let u : RecipeValue = grown t two in
    let p : next_place t ≡ next_place s + 1 = omega (arith, length-append s.steps one.steps) in
    let q : next_place u ≡ next_place s + 2 = omega (arith, p, length-append t.steps two.steps) in
    let high : Means t (plain (next_place s)) (λ r. v r && f r) = and_means s x a v f mv mf in
    let low : Means u (plain (next_place t)) (λ r. not (v r) && g r) =
    and_means t (other x) b (λ r. not (v r)) g (grown_means s one (other x) (λ r. not (v r)) (means_other s x v mv)) (grown_means s one b g mg) in
    let both : Means (grown u (or_at (next_place u) (plain (next_place s)) (plain (next_place t)))) (complemented (next_place u)) (λ r. chosen (v r) (f r) (g r)) =
    or_means u (plain (next_place s)) (plain (next_place t)) (λ r. v r && f r) (λ r. not (v r) && g r) (grown_means t two (plain (next_place s)) (λ r. v r && f r) high) low in
    let first : Step = step_of And x a in
    let second : Step = step_of And (other x) b in
    let third : Step = step_of And (other (plain (next_place s))) (other (plain (next_place s + 1))) in
    let placed : Means (grown u (or_at (next_place u) (plain (next_place s)) (plain (next_place s + 1)))) (complemented (next_place s + 2)) (λ r. chosen (v r) (f r) (g r)) =
    subst (λ (k : ℕ). Means (grown u (or_at (next_place u) (plain (next_place s)) (plain (next_place s + 1)))) (complemented k) (λ r. chosen (v r) (f r) (g r))) q
    (subst (λ (k : ℕ). Means (grown u (or_at (next_place u) (plain (next_place s)) (plain k))) (complemented (next_place u)) (λ r. chosen (v r) (f r) (g r))) p both) in
    subst (λ (ss : List Step). Means (record { leaves = s.leaves; steps = ss; root = s.root }) (complemented (next_place s + 2)) (λ r. chosen (v r) (f r) (g r)))
    (append_assoc (s.steps ++ first ∷ []) (second ∷ []) (third ∷ []) ∙ append_assoc s.steps (first ∷ []) (second ∷ third ∷ []))
    placed

-- ---- the values: v is the variable, h and l those of the cofactors, z that of the table
value_unused : (v h l z : Bool) → (v ≡ true → h ≡ z) → (v ≡ false → l ≡ z) → h ≡ l → l ≡ z
value_unused true h l z f g e = sym e ∙ f refl
value_unused false h l z f g e = g refl

value_plain : (v h l z : Bool) → (v ≡ true → h ≡ z) → (v ≡ false → l ≡ z) → h ≡ true → l ≡ false → v ≡ z
value_plain true h l z f g e d = sym e ∙ f refl
value_plain false h l z f g e d = sym d ∙ g refl

value_complement : (v h l z : Bool) → (v ≡ true → h ≡ z) → (v ≡ false → l ≡ z) → h ≡ false → l ≡ true → not v ≡ z
value_complement true h l z f g e d = sym e ∙ f refl
value_complement false h l z f g e d = sym d ∙ g refl

value_high_true : (v h l z : Bool) → (v ≡ true → h ≡ z) → (v ≡ false → l ≡ z) → h ≡ true → not (not v && not l) ≡ z
value_high_true true h l z f g e = sym e ∙ f refl
value_high_true false h true z f g e = g refl
value_high_true false h false z f g e = g refl

value_high_false : (v h l z : Bool) → (v ≡ true → h ≡ z) → (v ≡ false → l ≡ z) → h ≡ false → (not v && l) ≡ z
value_high_false true h l z f g e = sym e ∙ f refl
value_high_false false h l z f g e = g refl

value_low_true : (v h l z : Bool) → (v ≡ true → h ≡ z) → (v ≡ false → l ≡ z) → l ≡ true → not (not (not v) && not h) ≡ z
value_low_true true true l z f g e = f refl
value_low_true true false l z f g e = f refl
value_low_true false h l z f g e = sym e ∙ g refl

value_low_false : (v h l z : Bool) → (v ≡ true → h ≡ z) → (v ≡ false → l ≡ z) → l ≡ false → (v && h) ≡ z
value_low_false true h l z f g e = f refl
value_low_false false h l z f g e = sym e ∙ g refl

value_opposite : (v h l z : Bool) → (v ≡ true → h ≡ z) → (v ≡ false → l ≡ z) → h ≡ not l → bit_xor2 v l ≡ z
value_opposite true h l z f g e = sym e ∙ f refl
value_opposite false h l z f g e = g refl

value_chosen : (v h l z : Bool) → (v ≡ true → h ≡ z) → (v ≡ false → l ≡ z) → chosen v h l ≡ z
value_chosen true true l z f g = f refl
value_chosen true false l z f g = f refl
value_chosen false h true z f g = g refl
value_chosen false h false z f g = g refl

row_constant : (t : Rows) (value : Bool) → t ≡ constant_rows t.vars value → (r : ℕ) → r < 2 ^ t.vars → row t r ≡ value
row_constant t value e r lt = ap (λ (x : Rows). row x r) e ∙ row_inside t.vars (λ k. value) r lt

row_opposite : (t u : Rows) → t.vars ≡ u.vars → t ≡ not_rows u → (r : ℕ) → r < 2 ^ t.vars → row t r ≡ not (row u r)
row_opposite t u same e r lt = ap (λ (x : Rows). row x r) e ∙ row_inside u.vars (λ k. not (row u k)) r (rw (← same) lt)

-- ---- the expansion
-- what is known of the expansion of a cofactor
abbrev IsMeant : ℕ → ℕ → Rows → Type 0
IsMeant n vars u = (s : RecipeValue) → s.leaves ≡ vars → Means (grown s (expansion n (next_place s) u)) (expansion n (next_place s) u).root (row u)

-- the table is high where its variable n is true, and low where it is false
record Splits (n : ℕ) (t high low : Rows) : Type 0 where
  inside : n < t.vars
  high_vars : high.vars ≡ t.vars
  low_vars : low.vars ≡ t.vars
  if_true : (r : ℕ) → r < 2 ^ t.vars → is_set r n ≡ true → row high r ≡ row t r
  if_false : (r : ℕ) → r < 2 ^ t.vars → is_set r n ≡ false → row low r ≡ row t r
  high_meant : IsMeant n t.vars high
  low_meant : IsMeant n t.vars low

leaf_means : (n : ℕ) (s : RecipeValue) → n < s.leaves → Means s (plain (n + 1)) (λ r. is_set r n)
leaf_means n s lt = means_leaf s n (plain (n + 1)) lt refl

one_step_meant : (n : ℕ) (t u : Rows) (k : Case) → n < t.vars → IsMeant n t.vars u
    → ((r : ℕ) → r < 2 ^ t.vars → joined k (is_set r n) (row u r) ≡ row t r)
    → (s : RecipeValue) → s.leaves ≡ t.vars
    → (let rest : Laid = expansion n (next_place s) u in
    let all : Laid = after rest (one_step_at k (next_place s + length rest.steps) (plain (n + 1)) rest.root) in
    Means (grown s all) all.root (row t))
one_step_meant n t u k lt meant value s e =
    let rest : Laid = expansion n (next_place s) u in
    let m : RecipeValue = grown s rest in
    after_means s rest (λ p l. one_step_at k p (plain (n + 1)) l) (row t)
    (means_as _ _ (λ r. joined k (is_set r n) (row u r)) (row t) (λ r b. value r (rw (← e) b))
    (one_step_means k m (plain (n + 1)) rest.root (λ r. is_set r n) (row u) (leaf_means n m (rw e lt)) (meant s e)))

by_case_means : (n : ℕ) (t high low : Rows) → Splits n t high low → (k : Case) → Told k high low → (s : RecipeValue) → s.leaves ≡ t.vars
    → Means (grown s (combine (λ q u. expansion n q u) k n (next_place s) high low)) (combine (λ q u. expansion n q u) k n (next_place s) high low).root (row t)
by_case_means n t high low x Unused told s e =
    means_as _ _ (row low) (row t) (λ r b. value_unused (is_set r n) (row high r) (row low r) (row t r) (x.if_true r (rw (← e) b)) (x.if_false r (rw (← e) b)) (ap (λ (u : Rows). row u r) told)) (x.low_meant s e)
by_case_means n t high low x Plain told s e =
    grown_means s (given (plain (n + 1))) (plain (n + 1)) (row t)
    (means_as s (plain (n + 1)) (λ r. is_set r n) (row t)
    (λ r b. value_plain (is_set r n) (row high r) (row low r) (row t r) (x.if_true r (rw (← e) b)) (x.if_false r (rw (← e) b))
    (row_constant high true told.0 r (rw (x.high_vars, ← e) b)) (row_constant low false told.1 r (rw (x.low_vars, ← e) b)))
    (leaf_means n s (rw e x.inside)))
by_case_means n t high low x Complement told s e =
    grown_means s (given (complemented (n + 1))) (complemented (n + 1)) (row t)
    (means_as s (complemented (n + 1)) (λ r. not (is_set r n)) (row t)
    (λ r b. value_complement (is_set r n) (row high r) (row low r) (row t r) (x.if_true r (rw (← e) b)) (x.if_false r (rw (← e) b))
    (row_constant high false told.0 r (rw (x.high_vars, ← e) b)) (row_constant low true told.1 r (rw (x.low_vars, ← e) b)))
    (subst (λ (l : Lit). Means s l (λ r. not (is_set r n))) (other_plain (n + 1)) (means_other s (plain (n + 1)) (λ r. is_set r n) (leaf_means n s (rw e x.inside)))))
by_case_means n t high low x HighTrue told s e =
    one_step_meant n t low HighTrue x.inside x.low_meant
    (λ r b. value_high_true (is_set r n) (row high r) (row low r) (row t r) (x.if_true r b) (x.if_false r b) (row_constant high true told r (rw x.high_vars b))) s e
by_case_means n t high low x HighFalse told s e =
    one_step_meant n t low HighFalse x.inside x.low_meant
    (λ r b. value_high_false (is_set r n) (row high r) (row low r) (row t r) (x.if_true r b) (x.if_false r b) (row_constant high false told r (rw x.high_vars b))) s e
by_case_means n t high low x LowTrue told s e =
    one_step_meant n t high LowTrue x.inside x.high_meant
    (λ r b. value_low_true (is_set r n) (row high r) (row low r) (row t r) (x.if_true r b) (x.if_false r b) (row_constant low true told r (rw x.low_vars b))) s e
by_case_means n t high low x LowFalse told s e =
    one_step_meant n t high LowFalse x.inside x.high_meant
    (λ r b. value_low_false (is_set r n) (row high r) (row low r) (row t r) (x.if_true r b) (x.if_false r b) (row_constant low false told r (rw x.low_vars b))) s e
by_case_means n t high low x Opposite told s e =
    one_step_meant n t low Opposite x.inside x.low_meant
    (λ r b. value_opposite (is_set r n) (row high r) (row low r) (row t r) (x.if_true r b) (x.if_false r b) (row_opposite high low (x.high_vars ∙ sym x.low_vars) told r (rw x.high_vars b))) s e
by_case_means n t high low x Neither told s e =
    let a : Laid = expansion n (next_place s) high in
    let m : RecipeValue = grown s a in
    let b : Laid = expansion n (next_place m) low in
    let w : RecipeValue = grown m b in
    after_means s a (λ p l. let y : Laid = expansion n p low in after y (choice_at (p + length y.steps) (plain (n + 1)) l y.root)) (row t)
    (after_means m b (λ p l. choice_at p (plain (n + 1)) a.root l) (row t)
    (means_as _ _ (λ r. chosen (is_set r n) (row high r) (row low r)) (row t)
    (λ r b. value_chosen (is_set r n) (row high r) (row low r) (row t r) (x.if_true r (rw (← e) b)) (x.if_false r (rw (← e) b)))
    (choice_means w (plain (n + 1)) a.root b.root (λ r. is_set r n) (row high) (row low)
    (leaf_means n w (rw e x.inside)) (grown_means m b a.root (row high) (x.high_meant s e)) (x.low_meant m e))))

pub expansion_means : (n : ℕ) (s : RecipeValue) (t : Rows) → s.leaves ≡ t.vars → n ≤ t.vars → Below n t
    → Means (grown s (expansion n (next_place s) t)) (expansion n (next_place s) t).root (row t)
expansion_means zero s t e le below =
    let l : Lit = record { 0 = bit_of (row t 0) } in
    subst (λ (x : Laid). Means (grown s x) x.root (row t)) (sym (expansion_none 0 (next_place s) t refl))
    (grown_means s (given l) l (row t)
    (means_as s l (λ r. row t 0) (row t) (λ r lt. sym (constant_row t 0 refl below r (rw (← e) lt))) (means_constant s (row t 0) l refl)))
expansion_means (suc n) s t e le below =
    let high : Rows = cofactor_rows t n true in
    let low : Rows = cofactor_rows t n false in
    let lt : n < t.vars = omega arith in
    let more : Below (n + 1) t = rw add-one below in
    subst (λ (x : Laid). Means (grown s x) x.root (row t))
    (sym (expansion_by_case (suc n) n (next_place s) t high low (case_of high low) refl refl refl refl))
    (by_case_means n t high low (record {
      inside = lt;
      high_vars = refl;
      low_vars = refl;
      if_true = cofactor_row t n true lt;
      if_false = cofactor_row t n false lt;
      high_meant = λ u d. expansion_means n u high d (omega arith) (below_cofactor t n true lt more);
      low_meant = λ u d. expansion_means n u low d (omega arith) (below_cofactor t n false lt more);
    })
    (case_of high low) (case_told high low refl) s e)
