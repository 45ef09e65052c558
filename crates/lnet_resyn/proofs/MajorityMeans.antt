-- The recipe of the majority procedure computes the function.
use Rattle.std.proofs.Common.{◌≡◌, ℕ, zero, suc, ◌+◌, ◌*◌, ◌/◌, ◌%◌, ◌^◌, ◌<◌, ◌≤◌, Bool, true, false, not, cond, List, [], ◌∷◌, ◌++◌, map, get_or, length, Option, None, Some, inl, inr, refl, sym, ap, subst, ◌∙◌, arith, length-append, ◌==◌}
use Rattle.std.specs.Prelude.{⊤, MatchOption}
use Rattle.std.specs.List.{range_with_len}
use Rattle.std.proofs.lemmas.Bool.Decides.{leb_tells, eqb_tells}
use Rattle.std.proofs.lemmas.List.{get_or_append_left, get_or_push, get_or_past}
use Rattle.std.proofs.lemmas.List.FromFn.{get_or-map-range_with_len, length-map-range_with_len}
use Rattle.lnet_tables.specs.Bits.{Rows, row, by_rows, is_set, bit_of, bit_xor2, constant_rows, variable_rows, not_rows, equal_rows}
use Rattle.lnet_tables.specs.Recipes.{RecipeValue, apply, root_value, lit_value, step_value, run, leaf_values, sim}
use Rattle.lnet_tables.specs.Shannon.{Laid, plain}
use Rattle.lnet_tables.specs.declared.step.Lit.{Lit}
use Rattle.lnet_tables.specs.declared.step.Step.{Step}
use Rattle.lnet_tables.specs.declared.step.StepOp.TheVariants.{Maj}
use Rattle.lnet_tables.specs.Inverse.{row_inside}
use Rattle.lnet_tables.proofs.Ops.{same_rows}
use Rattle.lnet_tables.proofs.Rowwise.{eta_rows}
use Rattle.lnet_tables.proofs.Growing.{leaf_length}
use Rattle.lnet_tables.proofs.ShannonLaws.{shannon_function}
use Rattle.lnet_tables.proofs.Equal.{equal_rows_decides}
use Rattle.lnet_resyn.specs.declared.majority.Candidate.{Candidate}
use Rattle.lnet_resyn.specs.Majority.{count_rows, first_pool, column, operand, candidate_rows, score, best_candidate, pool_reach, lit_at, step_of, with_step, turns, literal_rows, literal_among, literal_of, by_turns, by_literal, majority_of}

-- ---- counts
all_more : (b : Bool) (c n : ℕ) → bit_of b + c ≡ suc n → c ≤ n → (b ≡ true) × (c ≡ n)
all_more true c n e h = (refl, omega arith)
all_more false c n e h = absurd (omega arith)

count-most : (n : ℕ) (p : ℕ → Bool) → count_rows n p ≤ n
unfolding count_rows
count-most zero p = omega arith
count-most (suc n) p = more (p 0) _ (count-most n (λ r. p (r + 1)))
  where
    more : (b : Bool) (c : ℕ) → c ≤ n → bit_of b + c ≤ suc n
    more true c h = omega arith
    more false c h = omega arith

-- where all are counted, each holds
pub count-all : (n : ℕ) (p : ℕ → Bool) → count_rows n p ≡ n → (r : ℕ) → r < n → p r ≡ true
unfolding count_rows
count-all zero p e r h = absurd (omega arith)
count-all (suc n) p e zero h = (all_more (p 0) _ n e (count-most n (λ r. p (r + 1)))).0
count-all (suc n) p e (suc r) h =
    let s : suc r ≡ r + 1 = omega arith in
    ap p s ∙ count-all n (λ q. p (q + 1)) (all_more (p 0) _ n e (count-most n (λ q. p (q + 1)))).1 r (omega arith)

one_value : (a b : Bool) → not (bit_xor2 a b) ≡ true → a ≡ b
one_value true true e = refl
one_value true false e = sym e
one_value false true e = e
one_value false false e = refl

-- ---- the values of the columns at a row
pub record PoolAt (n : ℕ) (pool : List Rows) (vs : List Bool) (r : ℕ) : Type 0 where
  pub long : length vs ≡ length pool
  pub each : (i : ℕ) → get_or vs i false ≡ row (column n pool i) r

first-each : (n r i : ℕ) → r < 2 ^ n → get_or (leaf_values n r) i false ≡ row (column n (first_pool n) i) r
unfolding leaf_values first_pool
first-each n r zero h = sym (row_inside n (λ _. false) r h)
first-each n r (suc i) h = elim (leb_tells n i) [
  | inl p ↦
      get_or_past (map (is_set r) (range_with_len 0 n)) i false (let k = length-map-range_with_len (is_set r) 0 n in let q = p.1 in omega arith)
      ∙ sym (row_inside n (λ _. false) r h)
      ∙ ap (λ t. row t r) (sym (get_or_past (map (variable_rows n) (range_with_len 0 n)) i (constant_rows n false) (let k = length-map-range_with_len (variable_rows n) 0 n in let q = p.1 in omega arith)))
  | inr p ↦
      get_or-map-range_with_len (is_set r) 0 n i i false p.1 (omega arith)
      ∙ sym (row_inside n (λ q. is_set q i) r h)
      ∙ ap (λ t. row t r) (sym (get_or-map-range_with_len (variable_rows n) 0 n i i (constant_rows n false) p.1 (omega arith)))
]

first-long : (n : ℕ) → length (first_pool n) ≡ n + 1
unfolding first_pool
first-long n = let k = length-map-range_with_len (variable_rows n) 0 n in omega arith

first-at : (n r : ℕ) → r < 2 ^ n → PoolAt n (first_pool n) (leaf_values n r) r
first-at n r h = record { long = leaf_length n r ∙ sym (first-long n); each = λ i. first-each n r i h }

grown-each : (n : ℕ) (pool : List Rows) (vs : List Bool) (r : ℕ) (t : Rows) (v : Bool) → r < 2 ^ n → PoolAt n pool vs r → v ≡ row t r → (i : ℕ) → get_or (vs ++ v ∷ []) i false ≡ row (column n (pool ++ t ∷ []) i) r
grown-each n pool vs r t v h at is i = elim (leb_tells (length pool) i) [
  | inl p ↦ elim (eqb_tells (length pool) i) [
    | inl q ↦
        get_or_push vs v false i (at.long ∙ q.1) ∙ is
        ∙ ap (λ u. row u r) (sym (get_or_push pool t (constant_rows n false) i q.1))
    | inr q ↦
        let past : length pool < i = (let a = p.1 in let b = q.1 in omega (arith, a, b)) in
        get_or_past (vs ++ v ∷ []) i false (let k = length-append vs (v ∷ []) in let l = at.long in omega arith)
        ∙ sym (row_inside n (λ _. false) r h)
        ∙ ap (λ u. row u r) (sym (get_or_past (pool ++ t ∷ []) i (constant_rows n false) (let k = length-append pool (t ∷ []) in omega arith)))
  ]
  | inr p ↦
      get_or_append_left vs (v ∷ []) false i (let a = p.1 in let l = at.long in omega arith)
      ∙ at.each i
      ∙ ap (λ u. row u r) (sym (get_or_append_left pool (t ∷ []) (constant_rows n false) i p.1))
]

grown-at : (n : ℕ) (pool : List Rows) (vs : List Bool) (r : ℕ) (t : Rows) (v : Bool) → r < 2 ^ n → PoolAt n pool vs r → v ≡ row t r → PoolAt n (pool ++ t ∷ []) (vs ++ v ∷ []) r
grown-at n pool vs r t v h at is = record {
  long = let a = length-append vs (v ∷ []) in let b = length-append pool (t ∷ []) in let l = at.long in omega arith;
  each = grown-each n pool vs r t v h at is;
}

-- ---- steps
parts : (i : ℕ) (c : Bool) → (((2 * i + bit_of c) % 2 == 1) ≡ c) × ((2 * i + bit_of c) / 2 ≡ i)
parts i true = (let e : (2 * i + 1) % 2 ≡ 1 = omega arith in ap (λ z. z == 1) e, omega arith)
parts i false = (let e : (2 * i + 0) % 2 ≡ 0 = omega arith in ap (λ z. z == 1) e, omega arith)

lit-means : (n : ℕ) (pool : List Rows) (vs : List Bool) (r i : ℕ) (c : Bool) → PoolAt n pool vs r → lit_value vs (lit_at i c) ≡ operand n pool i c r
lit-means n pool vs r i c at = (λ k. bit_xor2 ((parts i c).0 k) (get_or vs ((parts i c).1 k) false)) ∙ ap (bit_xor2 c) (at.each i)

step-means : (n : ℕ) (pool : List Rows) (vs : List Bool) (r : ℕ) (x : Candidate) → r < 2 ^ n → PoolAt n pool vs r → step_value vs (step_of x) ≡ row (candidate_rows n pool x) r
unfolding candidate_rows
step-means n pool vs r x h at =
    (λ k. apply Maj (lit-means n pool vs r x.first (is_set x.complements 0) at k) (lit-means n pool vs r x.second (is_set x.complements 1) at k) (lit-means n pool vs r x.third (is_set x.complements 2) at k))
    ∙ sym (row_inside n _ r h)

-- what the turns give reads f
abbrev pub Reads : Rows → List Bool → ℕ → Option Laid → Type 0
Reads f vs r o = MatchOption o ⊤ (λ l. lit_value (run l.steps vs) l.root ≡ row f r)

last-value : (vs : List Bool) (p : ℕ) (v : Bool) → length vs ≡ p → lit_value (vs ++ v ∷ []) (plain p) ≡ v
last-value vs p v e =
    let a : (2 * p) % 2 ≡ 0 = omega arith in
    let b : (2 * p) / 2 ≡ p = omega arith in
    (λ k. bit_xor2 (a k == 1) (get_or (vs ++ v ∷ []) (b k) false)) ∙ get_or_push vs v false p e

later-reads : (f : Rows) (vs : List Bool) (r : ℕ) (s : Step) (o : Option Laid) → Reads f (vs ++ step_value vs s ∷ []) r o → Reads f vs r (with_step s o)
later-reads f vs r s None h = tt
later-reads f vs r s (Some l) h = h

pub turns-read : (k : ℕ) (f : Rows) (pool : List Rows) (vs : List Bool) (r : ℕ) → r < 2 ^ f.vars → PoolAt f.vars pool vs r → Reads f vs r (turns k f pool)
unfolding turns
turns-read zero f pool vs r h at = tt
turns-read (suc k) f pool vs r h at =
    let x : Candidate = best_candidate f pool in
    let t : Rows = candidate_rows f.vars pool x in
    let v : Bool = step_value vs (step_of x) in
    let means : v ≡ row t r = step-means f.vars pool vs r x h at in
    let full : score f pool x ≡ 2 ^ f.vars → row t r ≡ row f r = λ e. sym (one_value (row f r) (row t r) (count-all (2 ^ f.vars) _ e r h)) in
    elim (leb_tells (score f pool x) (pool_reach f pool)) [
      | inl p ↦ subst (λ b. Reads f vs r (cond b None (cond (score f pool x == 2 ^ f.vars) (Some (record { steps = step_of x ∷ []; root = plain (length pool) })) (with_step (step_of x) (turns k f (pool ++ t ∷ [])))))) (sym p.0) tt
      | inr p ↦ subst (λ b. Reads f vs r (cond b None (cond (score f pool x == 2 ^ f.vars) (Some (record { steps = step_of x ∷ []; root = plain (length pool) })) (with_step (step_of x) (turns k f (pool ++ t ∷ [])))))) (sym p.0)
          (elim (eqb_tells (score f pool x) (2 ^ f.vars)) [
            | inl q ↦ subst (λ b. Reads f vs r (cond b (Some (record { steps = step_of x ∷ []; root = plain (length pool) })) (with_step (step_of x) (turns k f (pool ++ t ∷ []))))) (sym q.0) (last-value vs (length pool) v at.long ∙ means ∙ full q.1)
            | inr q ↦ subst (λ b. Reads f vs r (cond b (Some (record { steps = step_of x ∷ []; root = plain (length pool) })) (with_step (step_of x) (turns k f (pool ++ t ∷ []))))) (sym q.0) (later-reads f vs r (step_of x) (turns k f (pool ++ t ∷ [])) (turns-read k f (pool ++ t ∷ []) (vs ++ v ∷ []) r h (grown-at f.vars pool vs r t v h at means)))
          ])
    ]

-- ---- the whole procedure
found : (f : Rows) (pool : List Rows) (k : ℕ) (later : Option Lit) (l : Lit) → (later ≡ Some l → literal_rows f.vars pool l.0 ≡ f) → cond (equal_rows (literal_rows f.vars pool k) f) (Some (record { 0 = k })) later ≡ Some l → literal_rows f.vars pool l.0 ≡ f
found f pool k later l more e = by (equal_rows (literal_rows f.vars pool k) f) refl e
  where
    by : (b : Bool) → equal_rows (literal_rows f.vars pool k) f ≡ b → cond b (Some (record { 0 = k })) later ≡ Some l → literal_rows f.vars pool l.0 ≡ f
    by true is h = let same : k ≡ l.0 = cc in ap (literal_rows f.vars pool) (sym same) ∙ (equal_rows_decides (literal_rows f.vars pool k) f).0 is
    by false is h = more h

among-is : (f : Rows) (pool : List Rows) (ls : List ℕ) (l : Lit) → literal_among f pool ls ≡ Some l → literal_rows f.vars pool l.0 ≡ f
unfolding literal_among
among-is f pool [] l e = cc
among-is f pool (k ∷ ks) l e = found f pool k (literal_among f pool ks) l (among-is f pool ks l) e

-- each column at the beginning has n variables
column-vars : (n i : ℕ) → (column n (first_pool n) i).vars ≡ n
unfolding first_pool
column-vars n zero = refl
column-vars n (suc i) = elim (leb_tells n i) [
  | inl p ↦ ap (λ (t : Rows). t.vars) (get_or_past (map (variable_rows n) (range_with_len 0 n)) i (constant_rows n false) (let k = length-map-range_with_len (variable_rows n) 0 n in let q = p.1 in omega arith))
  | inr p ↦ ap (λ (t : Rows). t.vars) (get_or-map-range_with_len (variable_rows n) 0 n i i (constant_rows n false) p.1 (omega arith))
]

literal-row : (n l r : ℕ) → r < 2 ^ n → row (literal_rows n (first_pool n) l) r ≡ bit_xor2 (l % 2 == 1) (row (column n (first_pool n) (l / 2)) r)
literal-row n l r h = by (l % 2 == 1)
  where
    t : Rows
    t = column n (first_pool n) (l / 2)

    by : (b : Bool) → row (cond b (not_rows (column n (first_pool n) (l / 2))) (column n (first_pool n) (l / 2))) r ≡ bit_xor2 b (row (column n (first_pool n) (l / 2)) r)
    by true = row_inside (column n (first_pool n) (l / 2)).vars (λ q. not (row (column n (first_pool n) (l / 2)) q)) r (subst (λ z. r < 2 ^ z) (sym (column-vars n (l / 2))) h)
    by false = refl

sim-as : (s : RecipeValue) (f : Rows) → s.leaves ≡ f.vars → length f.bits ≡ 2 ^ f.vars → ((r : ℕ) → r < 2 ^ f.vars → root_value s r ≡ row f r) → sim s ≡ f
sim-as s f e long reads = ap (λ n. by_rows n (root_value s)) e ∙ same_rows f.vars (root_value s) (row f) reads ∙ sym (eta_rows f long)

literal-means : (f : Rows) (l : Lit) → length f.bits ≡ 2 ^ f.vars → literal_rows f.vars (first_pool f.vars) l.0 ≡ f → sim (record { leaves = f.vars; steps = []; root = l }) ≡ f
literal-means f l long is = sim-as (record { leaves = f.vars; steps = []; root = l }) f refl long (λ r h.
    ap (bit_xor2 (l.0 % 2 == 1)) (first-each f.vars r (l.0 / 2) h)
    ∙ sym (literal-row f.vars l.0 r h)
    ∙ ap (λ t. row t r) is)

turns-mean : (f : Rows) → length f.bits ≡ 2 ^ f.vars → (o : Option Laid) → ((r : ℕ) → r < 2 ^ f.vars → Reads f (leaf_values f.vars r) r o) → sim (by_turns f o) ≡ f
turns-mean f long None reads = shannon_function f long
turns-mean f long (Some l) reads = sim-as (by_turns f (Some l)) f refl long reads

by-means : (f : Rows) → length f.bits ≡ 2 ^ f.vars → (o : Option Lit) → literal_of f ≡ o → sim (by_literal f o) ≡ f
by-means f long None e = turns-mean f long (turns 8 f (first_pool f.vars)) (λ r h. turns-read 8 f (first_pool f.vars) (leaf_values f.vars r) r h (first-at f.vars r h))
by-means f long (Some l) e = literal-means f l long (among-is f (first_pool f.vars) _ l e)

-- the recipe of a function computes it
pub majority-means : (f : Rows) → length f.bits ≡ 2 ^ f.vars → sim (majority_of f) ≡ f
majority-means f long = by-means f long (literal_of f) refl
