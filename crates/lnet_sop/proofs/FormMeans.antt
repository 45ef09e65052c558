-- The factored form's root means the cover.
use Rattle.std.proofs.Common.{◌≡◌, ℕ, zero, suc, ◌+◌, ◌*◌, ◌%◌, ◌^◌, ◌<◌, ◌≤◌, Bool, true, false, not, cond, List, [], ◌∷◌, map, take, length, refl, sym, ◌∙◌, ap, subst, arith, add-one, add-zero, inl, inr, get_or, ◌==◌, ◌||◌, nat_le, nat_lt}
use Rattle.std.specs.Prelude.{◌&&◌, All}
use Rattle.std.specs.List.{list_any, filter, sum_by}
use mathlib.Core.Bool.{beq}
use Rattle.std.proofs.lemmas.Bool.{false≢true, eqb-true, leb-false, and_parts, or_cases, or_left, or_right, and_from}
use Rattle.std.proofs.lemmas.List.{take_all}
use Rattle.std.proofs.lemmas.List.Folds.{list_any_more}
use Rattle.lnet_tables.specs.Bits.{is_set, bit_of}
use Rattle.lnet_tables.specs.declared.step.Lit.{Lit}
use Rattle.lnet_tables.specs.Recipes.{RecipeValue, next_place, sim}
use Rattle.lnet_tables.specs.Means.{Means}
use Rattle.lnet_tables.specs.Shannon.{Laid, given, after, plain, complemented, other, and_at, or_at}
use Rattle.lnet_tables.proofs.ShannonSteps.{other_plain}
use Rattle.lnet_tables.proofs.Growing.{means_constant, means_leaf, means_other, means_as, means_rooted}
use Rattle.lnet_tables.proofs.ShannonMeans.{grown, and_means, or_means, after_means, grown_means}
use Rattle.lnet_tables.proofs.Ops.{same_rows}
use Rattle.lnet_sop.specs.declared.cover.Cube.{Cube}
use Rattle.lnet_sop.specs.Covers.{CoverValue, agrees, holds, covers, cover_rows, IsCube}
use Rattle.lnet_sop.specs.Isop.{universe}
use Rattle.lnet_sop.specs.Irredundant.{without}
use Rattle.lnet_sop.specs.Factored.{literal, variable_of, stands_in, literal_of, uses, most_common, quotient, remainder, is_universe, product_at, sum_at, multiple_at, literal_at, conjunction, cube_at, disjunction, with_rest, divided, by_literal, by_universe, form_of, factored_of}
use Rattle.lnet_sop.proofs.CubeRows.{and_true, set_none}
use Rattle.lnet_sop.proofs.Cleared.{holds_without}
use Rattle.lnet_sop.proofs.Factors.{form_turn, quotient_each, remainder_each, quotient_less, remainder_less, literal_inside}

-- ---- values
or_value : (a b : Bool) → not (not a && not b) ≡ (a || b)
or_value true b = refl
or_value false true = refl
or_value false false = refl

beq_true : (b : Bool) → b ≡ beq true b
beq_true true = refl
beq_true false = refl

beq_false : (b : Bool) → not b ≡ beq false b
beq_false true = refl
beq_false false = refl

-- two things that a literal means are one
one_meaning : (s : RecipeValue) (l : Lit) (f g : ℕ → Bool) → Means s l f → Means s l g → (r : ℕ) → r < 2 ^ s.leaves → f r ≡ g r
one_meaning s l f g m k r lt = sym (m.value r lt) ∙ k.value r lt

or_meaning : (s : RecipeValue) (a b : Lit) (f g : ℕ → Bool) → Means s a f → Means s b g → Means (grown s (or_at (next_place s) a b)) (complemented (next_place s)) (λ r. f r || g r)
or_meaning s a b f g mf mg =
    means_as (grown s (or_at (next_place s) a b)) (complemented (next_place s)) (λ r. not (not (f r) && not (g r))) (λ r. f r || g r) (λ r lt. or_value (f r) (g r)) (or_means s a b f g mf mg)

-- ---- literals
-- a literal of a leaf means that its variable has its value
literal_means : (s : RecipeValue) (v : ℕ) (p : Bool) (l : Lit) → v < s.leaves → l.0 ≡ 2 * (v + 1) + bit_of (not p) → Means s l (λ r. beq p (is_set r v))
literal_means s v true l lt e =
    means_as s l (λ r. is_set r v) (λ r. beq true (is_set r v)) (λ r b. beq_true (is_set r v)) (means_leaf s v l lt (e ∙ add-zero (2 * (v + 1))))
literal_means s v false l lt e =
    let same : other (plain (v + 1)) ≡ l = other_plain (v + 1) ∙ ap (λ (k : ℕ). let x : Lit = record { 0 = k } in x) (sym e) in
    means_as s l (λ r. not (is_set r v)) (λ r. beq false (is_set r v)) (λ r b. beq_false (is_set r v))
    (subst (λ (x : Lit). Means s x (λ r. not (is_set r v))) same (means_other s (plain (v + 1)) (λ r. is_set r v) (means_leaf s v (plain (v + 1)) lt refl)))

leaf_of : (l : Lit) → 2 ≤ l.0 → l.0 ≡ 2 * (variable_of l + 1) + bit_of (not (l.0 % 2 == 0))
leaf_of l two = go (l.0 % 2) refl where
  go : (m : ℕ) → m ≡ l.0 % 2 → l.0 ≡ 2 * (variable_of l + 1) + bit_of (not (m == 0))
  go zero e = omega arith
  go (suc zero) e = omega arith
  go (suc (suc m)) e = absurd (omega arith)

-- ---- a cube
product_means : (s : RecipeValue) (a b : Lit) (f g : ℕ → Bool) → Means s a f → Means s b g → Means (grown s (product_at (next_place s) a b)) (product_at (next_place s) a b).root (λ r. f r && g r)
product_means s a b f g mf mg = go (a.0 == 1) refl where
  go : (t : Bool) → (a.0 == 1) ≡ t → Means (grown s (cond t (given b) (and_at (next_place s) a b))) (cond t (given b) (and_at (next_place s) a b)).root (λ r. f r && g r)
  go true e =
      let one : Means s a (λ r. true) = means_constant s true a (eqb-true a.0 1 e) in
      grown_means s (given b) b (λ r. f r && g r)
      (means_as s b g (λ r. f r && g r) (λ r lt. sym (ap (λ t. t && g r) (one_meaning s a f (λ r. true) mf one r lt))) mg)
  go false e = and_means s a b f g mf mg

sum_means : (s : RecipeValue) (a b : Lit) (f g : ℕ → Bool) → Means s a f → Means s b g → Means (grown s (sum_at (next_place s) a b)) (sum_at (next_place s) a b).root (λ r. f r || g r)
sum_means s a b f g mf mg = go (a.0 == 0) refl where
  go : (t : Bool) → (a.0 == 0) ≡ t → Means (grown s (cond t (given b) (or_at (next_place s) a b))) (cond t (given b) (or_at (next_place s) a b)).root (λ r. f r || g r)
  go true e =
      let none : Means s a (λ r. false) = means_constant s false a (eqb-true a.0 0 e) in
      grown_means s (given b) b (λ r. f r || g r)
      (means_as s b g (λ r. f r || g r) (λ r lt. sym (ap (λ t. t || g r) (one_meaning s a f (λ r. false) mf none r lt))) mg)
  go false e = or_meaning s a b f g mf mg

literal_at_means : (s : RecipeValue) (a : Lit) (c : Cube) (i : ℕ) (f : ℕ → Bool) → i < s.leaves → Means s a f
    → Means (grown s (literal_at (next_place s) a c i)) (literal_at (next_place s) a c i).root (λ r. f r && agrees c r i)
literal_at_means s a c i f lt m = go (is_set c.care i) where
  go : (t : Bool) → Means (grown s (cond t (product_at (next_place s) a (literal_of c i)) (given a))) (cond t (product_at (next_place s) a (literal_of c i)) (given a)).root
      (λ r. f r && cond t (beq (is_set c.value i) (is_set r i)) true)
  go true = product_means s a (literal_of c i) f (λ r. beq (is_set c.value i) (is_set r i)) m (literal_means s i (is_set c.value i) (literal_of c i) lt refl)
  go false = grown_means s (given a) a (λ r. f r && true) (means_as s a f (λ r. f r && true) (λ r b. sym (and_true (f r))) m)

pub conjunction_means : (n : ℕ) (s : RecipeValue) (c : Cube) → n ≤ s.leaves → Means (grown s (conjunction n (next_place s) c)) (conjunction n (next_place s) c).root (holds n c)
unfolding conjunction holds
conjunction_means zero s c le = let l : Lit = record { 0 = 1 } in grown_means s (given l) l (λ r. true) (means_constant s true l refl)
conjunction_means (suc n) s c le =
    let front : Laid = conjunction n (next_place s) c in
    after_means s front (λ p a. literal_at p a c n) (λ r. holds n c r && agrees c r n)
    (literal_at_means (grown s front) front.root c n (holds n c) (omega arith) (conjunction_means n s c (omega arith)))

-- ---- cubes in order
cube_at_means : (n : ℕ) (s : RecipeValue) (a : Lit) (c : Cube) (f : ℕ → Bool) → n ≤ s.leaves → Means s a f
    → Means (grown s (cube_at n (next_place s) a c)) (cube_at n (next_place s) a c).root (λ r. f r || holds n c r)
cube_at_means n s a c f le m =
    let cube : Laid = conjunction n (next_place s) c in
    after_means s cube (λ p b. sum_at p a b) (λ r. f r || holds n c r)
    (sum_means (grown s cube) a cube.root f (holds n c) (grown_means s cube a f m) (conjunction_means n s c le))

disjunction_means : (k n : ℕ) (s : RecipeValue) (cs : List Cube) → n ≤ s.leaves → k ≤ length cs
    → Means (grown s (disjunction k n (next_place s) cs)) (disjunction k n (next_place s) cs).root (covers n (take k cs))
unfolding disjunction
disjunction_means zero n s cs le few = let l : Lit = record { 0 = 0 } in grown_means s (given l) l (λ r. false) (means_constant s false l refl)
disjunction_means (suc k) n s cs le few =
    let front : Laid = disjunction k n (next_place s) cs in
    let c : Cube = get_or cs k universe in
    means_as _ _ (λ r. covers n (take k cs) r || holds n c r) (covers n (take (suc k) cs))
    (λ r lt. sym (ap (λ (j : ℕ). covers n (take j cs) r) (sym (add-one k)) ∙ list_any_more (λ c. holds n c r) cs k universe (omega arith)))
    (after_means s front (λ p a. cube_at n p a c) (λ r. covers n (take k cs) r || holds n c r)
    (cube_at_means n (grown s front) front.root c (covers n (take k cs)) le (disjunction_means k n s cs le (omega arith))))

-- ---- a division
-- the cover is the literal and the quotient, or the rest
stands_value : (w a q d : Bool) → ((w && a) || ((a && q) || d)) ≡ ((a && (w || q)) || d)
stands_value true true q d = refl
stands_value true false q d = refl
stands_value false a q d = refl

apart_value : (h a q d : Bool) → (h || ((a && q) || d)) ≡ ((a && q) || (h || d))
apart_value true true true d = refl
apart_value true true false d = refl
apart_value true false q d = refl
apart_value false a q d = refl

equal_bits : (a b : Bool) → beq a b ≡ true → a ≡ b
equal_bits true true e = refl
equal_bits true false e = absurd (false≢true e)
equal_bits false true e = absurd (false≢true e)
equal_bits false false e = refl

-- the value of a literal at a row
abbrev lit_holds : Lit → ℕ → Bool
lit_holds l r = beq (l.0 % 2 == 0) (is_set r (variable_of l))

stands_holds : (n : ℕ) (l : Lit) (c : Cube) (r : ℕ) → variable_of l < n → stands_in l c ≡ true → holds n c r ≡ (holds n (without (variable_of l) c) r && lit_holds l r)
stands_holds n l c r lt e =
    let v : ℕ = variable_of l in
    let p : (is_set c.care v ≡ true) × (beq (is_set c.value v) (l.0 % 2 == 0) ≡ true) = and_parts (is_set c.care v) (beq (is_set c.value v) (l.0 % 2 == 0)) e in
    holds_without n v c r lt p.0 ∙ ap (λ b. holds n (without v c) r && beq b (is_set r v)) (equal_bits (is_set c.value v) (l.0 % 2 == 0) p.1)

pub covers_divided : (n : ℕ) (l : Lit) (cs : List Cube) (r : ℕ) → variable_of l < n → covers n cs r ≡ ((lit_holds l r && covers n (quotient l cs) r) || covers n (remainder l cs) r)
covers_divided n l [] r lt = go (lit_holds l r) where
  go : (a : Bool) → false ≡ ((a && false) || false)
  go true = refl
  go false = refl
covers_divided n l (c ∷ cs) r lt =
    ap (λ t. holds n c r || t) (covers_divided n l cs r lt) ∙ go (stands_in l c) refl where
      go : (x : Bool) → stands_in l c ≡ x → (holds n c r || ((lit_holds l r && covers n (quotient l cs) r) || covers n (remainder l cs) r))
          ≡ ((lit_holds l r && covers n (map (without (variable_of l)) (cond x (c ∷ filter (stands_in l) cs) (filter (stands_in l) cs))) r)
          || covers n (cond (not x) (c ∷ filter (λ d. not (stands_in l d)) cs) (filter (λ d. not (stands_in l d)) cs)) r)
      go true e =
          ap (λ t. t || ((lit_holds l r && covers n (quotient l cs) r) || covers n (remainder l cs) r)) (stands_holds n l c r lt e)
          ∙ stands_value (holds n (without (variable_of l) c) r) (lit_holds l r) (covers n (quotient l cs) r) (covers n (remainder l cs) r)
      go false e = apart_value (holds n c r) (lit_holds l r) (covers n (quotient l cs) r) (covers n (remainder l cs) r)

multiple_means : (s : RecipeValue) (l q : Lit) (f g : ℕ → Bool) → Means s l f → Means s q g → Means (grown s (multiple_at (next_place s) l q)) (multiple_at (next_place s) l q).root (λ r. f r && g r)
multiple_means s l q f g mf mg = go (q.0 == 1) refl where
  go : (t : Bool) → (q.0 == 1) ≡ t → Means (grown s (cond t (given l) (and_at (next_place s) l q))) (cond t (given l) (and_at (next_place s) l q)).root (λ r. f r && g r)
  go true e =
      let one : Means s q (λ r. true) = means_constant s true q (eqb-true q.0 1 e) in
      grown_means s (given l) l (λ r. f r && g r)
      (means_as s l f (λ r. f r && g r) (λ r lt. sym (ap (λ t. f r && t) (one_meaning s q g (λ r. true) mg one r lt) ∙ and_true (f r))) mf)
  go false e = and_means s l q f g mf mg

-- what is known of the form of a list
abbrev IsMeant : ℕ → (ℕ → List Cube → Laid) → List Cube → Type 0
IsMeant n f cs = (s : RecipeValue) → s.leaves ≡ n → Means (grown s (f (next_place s) cs)) (f (next_place s) cs).root (covers n cs)

or_false : (b : Bool) → b ≡ (b || false)
or_false true = refl
or_false false = refl

rest_means : (n : ℕ) (f : ℕ → List Cube → Laid) (s : RecipeValue) (t : Lit) (g : ℕ → Bool) (cs : List Cube) → s.leaves ≡ n → Means s t g → IsMeant n f cs
    → Means (grown s (with_rest f (next_place s) t cs)) (with_rest f (next_place s) t cs).root (λ r. g r || covers n cs r)
rest_means n f s t g [] e m meant = grown_means s (given t) t (λ r. g r || false) (means_as s t g (λ r. g r || false) (λ r lt. or_false (g r)) m)
rest_means n f s t g (c ∷ cs) e m meant =
    let x : Laid = f (next_place s) (c ∷ cs) in
    after_means s x (λ p a. or_at p t a) (λ r. g r || covers n (c ∷ cs) r)
    (or_meaning (grown s x) t x.root g (covers n (c ∷ cs)) (grown_means s x t g m) (meant s e))

divided_means : (n : ℕ) (f : ℕ → List Cube → Laid) (s : RecipeValue) (l : Lit) (cs : List Cube) → s.leaves ≡ n → 2 ≤ l.0 → variable_of l < n → IsMeant n f (quotient l cs) → IsMeant n f (remainder l cs)
    → Means (grown s (divided f (next_place s) l cs)) (divided f (next_place s) l cs).root (covers n cs)
divided_means n f s l cs e two lt meant_quotient meant_rest =
    let q : Laid = f (next_place s) (quotient l cs) in
    let t : RecipeValue = grown s q in
    let m : Laid = multiple_at (next_place t) l q.root in
    let u : RecipeValue = grown t m in
    means_as _ _ (λ r. (lit_holds l r && covers n (quotient l cs) r) || covers n (remainder l cs) r) (covers n cs) (λ r b. sym (covers_divided n l cs r lt))
    (after_means s q (λ p a. let x : Laid = multiple_at p l a in after x (with_rest f (p + length x.steps) x.root (remainder l cs))) (λ r. (lit_holds l r && covers n (quotient l cs) r) || covers n (remainder l cs) r)
    (after_means t m (λ p a. with_rest f p a (remainder l cs)) (λ r. (lit_holds l r && covers n (quotient l cs) r) || covers n (remainder l cs) r)
    (rest_means n f u m.root (λ r. lit_holds l r && covers n (quotient l cs) r) (remainder l cs) e
    (multiple_means t l q.root (lit_holds l) (covers n (quotient l cs)) (literal_means t (variable_of l) (l.0 % 2 == 0) l (rw e lt) (leaf_of l two)) (meant_quotient s e)) meant_rest)))

-- ---- the form
universe_holds : (n : ℕ) (c : Cube) (r : ℕ) → c.care ≡ 0 → holds n c r ≡ true
unfolding holds
universe_holds zero c r e = refl
universe_holds (suc n) c r e =
    and_from (holds n c r) (agrees c r n) (universe_holds n c r e) (ap (λ t. cond t (beq (is_set c.value n) (is_set r n)) true) (ap (λ k. is_set k n) e ∙ set_none n))

some_universe : (n : ℕ) (cs : List Cube) (r : ℕ) → list_any is_universe cs ≡ true → covers n cs r ≡ true
some_universe n [] r e = absurd (false≢true e)
some_universe n (c ∷ cs) r e =
    elim (or_cases (is_universe c) (list_any is_universe cs) e) [
      | inl here ↦ or_left (holds n c r) (covers n cs r) (universe_holds n c r (eqb-true c.care 0 here))
      | inr later ↦ or_right (holds n c r) (covers n cs r) (some_universe n cs r later)
    ]

pub common_leaf : (k : ℕ) (cs : List Cube) → 2 ≤ (most_common k cs).0
unfolding most_common
common_leaf zero cs = omega arith
common_leaf (suc k) cs = go (nat_lt (uses cs (most_common k cs)) (uses cs (literal k))) (common_leaf k cs) where
  go : (b : Bool) → 2 ≤ (most_common k cs).0 → 2 ≤ (cond b (literal k) (most_common k cs)).0
  go true le = omega arith
  go false le = le

universe_means : (b : Bool) (n : ℕ) (s : RecipeValue) (cs : List Cube) → list_any is_universe cs ≡ b → b ≡ true → let l : Lit = record { 0 = 1 } in Means (grown s (given l)) l (covers n cs)
universe_means b n s cs e t =
    let l : Lit = record { 0 = 1 } in
    grown_means s (given l) l (covers n cs) (means_as s l (λ r. true) (covers n cs) (λ r lt. sym (some_universe n cs r (e ∙ t))) (means_constant s true l refl))

by_literal_means : (b : Bool) (n : ℕ) (f : ℕ → List Cube → Laid) (s : RecipeValue) (l : Lit) (cs : List Cube) → nat_le (uses cs l) 1 ≡ b → s.leaves ≡ n → 2 ≤ l.0 → All (IsCube n) cs
    → ((ds : List Cube) → sum_by (λ c. c.care) ds < sum_by (λ c. c.care) cs → All (IsCube n) ds → IsMeant n f ds)
    → Means (grown s (by_literal b f n (next_place s) l cs)) (by_literal b f n (next_place s) l cs).root (covers n cs)
by_literal_means true n f s l cs t e two each lighter =
    means_as _ _ (covers n (take (length cs) cs)) (covers n cs) (λ r lt. ap (λ (ds : List Cube). covers n ds r) (take_all (length cs) cs (omega arith)))
    (disjunction_means (length cs) n s cs (omega arith) (omega arith))
by_literal_means false n f s l cs t e two each lighter =
    let some : 1 < uses cs l = leb-false (uses cs l) 1 t in
    let inside : variable_of l < n = omega (arith, literal_inside l cs n some each) in
    divided_means n f s l cs e two inside
    (lighter (quotient l cs) (quotient_less l cs (omega arith)) (quotient_each n l cs each))
    (lighter (remainder l cs) (remainder_less l cs (omega arith)) (remainder_each n l cs each))

by_universe_means : (b : Bool) (n : ℕ) (f : ℕ → List Cube → Laid) (s : RecipeValue) (cs : List Cube) → list_any is_universe cs ≡ b → s.leaves ≡ n → All (IsCube n) cs
    → ((ds : List Cube) → sum_by (λ c. c.care) ds < sum_by (λ c. c.care) cs → All (IsCube n) ds → IsMeant n f ds)
    → Means (grown s (by_universe b f n (next_place s) cs)) (by_universe b f n (next_place s) cs).root (covers n cs)
by_universe_means true n f s cs t e each lighter = universe_means true n s cs t refl
by_universe_means false n f s cs t e each lighter =
    let l : Lit = most_common (2 * n) cs in
    by_literal_means (nat_le (uses cs l) 1) n f s l cs refl e (common_leaf (2 * n) cs) each lighter

form_means : (k n : ℕ) (cs : List Cube) → sum_by (λ c. c.care) cs < k → All (IsCube n) cs → IsMeant n (λ q ds. form_of n q ds) cs
form_means zero n cs lt each s e = absurd (omega arith)
form_means (suc k) n cs lt each s e =
    subst (λ (x : Laid). Means (grown s x) x.root (covers n cs)) (sym (form_turn n (next_place s) cs))
    (by_universe_means (list_any is_universe cs) n (λ q ds. form_of n q ds) s cs refl e each (λ ds l es. form_means k n ds (omega arith) es))

-- ---- the call
pub factored_function : (c : CoverValue) → All (IsCube c.vars) c.cubes → sim (factored_of c) ≡ cover_rows c
factored_function c each =
    let s : RecipeValue = record { leaves = c.vars; steps = []; root = record { 0 = 0 } } in
    let x : Laid = form_of c.vars (c.vars + 1) c.cubes in
    let m : Means (grown s x) x.root (covers c.vars c.cubes) =
    subst (λ (p : ℕ). Means (grown s (form_of c.vars p c.cubes)) (form_of c.vars p c.cubes).root (covers c.vars c.cubes)) (add-zero (c.vars + 1))
    (form_means (sum_by (λ c. c.care) c.cubes + 1) c.vars c.cubes (omega arith) each s refl) in
    same_rows c.vars _ (covers c.vars c.cubes) (means_rooted (grown s x) x.root (covers c.vars c.cubes) m).value
