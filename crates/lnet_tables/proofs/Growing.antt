-- What literals mean as a recipe grows: laws for whoever builds one.
use Rattle.std.proofs.Common.{◌≡◌, ℕ, ◌+◌, ◌-◌, ◌*◌, ◌^◌, ◌%◌, ◌<◌, Bool, true, false, cond, List, [], ◌∷◌, ◌++◌, length, refl, sym, ◌∙◌, ap, arith, ◌==◌, suc, zero, get_or, not, append_assoc, add-zero, length-append}
use Rattle.lnet_tables.proofs.Ops.{same_rows}
use Rattle.lnet_tables.proofs.Rowwise.{eta_rows}
use Rattle.std.proofs.lemmas.List.{get_or_append_left, get_or_push, length_push}
use Rattle.std.proofs.lemmas.List.FromFn.{length-map-range_with_len, get_or-map-range_with_len}
use Rattle.lnet_tables.specs.Bits.{Rows, row, bit_xor2, is_set, by_rows}
use Rattle.lnet_tables.specs.declared.step.Lit.{Lit}
use Rattle.lnet_tables.specs.declared.step.Step.{Step}
use Rattle.lnet_tables.specs.Recipes.{next_place, sim, apply, RecipeValue, place, run, lit_value, step_value, leaf_values}
use Rattle.lnet_tables.specs.Means.{Means, Grows}
use Rattle.lnet_tables.specs.Shannon.{other}
use Rattle.lnet_tables.proofs.ShannonSteps.{place_other, sign_other}

pub run_append : (ss ts : List Step) (vs : List Bool) → run (ss ++ ts) vs ≡ run ts (run ss vs)
run_append [] ts vs = refl
run_append (s ∷ ss) ts vs = run_append ss ts (vs ++ step_value vs s ∷ [])

pub run_length : (ss : List Step) (vs : List Bool) → length (run ss vs) ≡ length vs + length ss
run_length [] vs = sym (add-zero (length vs))
run_length (s ∷ ss) vs = run_length ss (vs ++ step_value vs s ∷ []) ∙ omega (arith, length_push vs (step_value vs s))

pub run_keeps : (ss : List Step) (vs : List Bool) (p : ℕ) → p < length vs → get_or (run ss vs) p false ≡ get_or vs p false
run_keeps [] vs p lt = refl
run_keeps (s ∷ ss) vs p lt =
    run_keeps ss (vs ++ step_value vs s ∷ []) p (omega (arith, length_push vs (step_value vs s))) ∙ get_or_append_left vs (step_value vs s ∷ []) false p lt

pub leaf_length : (n r : ℕ) → length (leaf_values n r) ≡ n + 1
unfolding leaf_values
leaf_length n r = omega (arith, length-map-range_with_len (is_set r) 0 n)

pub lit_kept : (n : ℕ) (ss more : List Step) (l : Lit) (r : ℕ) → place l < n + 1 + length ss
    → lit_value (run (ss ++ more) (leaf_values n r)) l ≡ lit_value (run ss (leaf_values n r)) l
lit_kept n ss more l r lt =
    ap (λ b. bit_xor2 (l.0 % 2 == 1) b)
    (ap (λ (vs : List Bool). get_or vs (place l) false) (run_append ss more (leaf_values n r))
    ∙ run_keeps more (run ss (leaf_values n r)) (place l) (omega (arith, run_length ss (leaf_values n r), leaf_length n r)))

pub means_kept : (s t : RecipeValue) (l : Lit) (f : ℕ → Bool) → Grows s t → Means s l f → Means t l f
means_kept s t l f g m = record {
  inside = rw (g.leaves, g.steps) (omega (arith, m.inside, length-append s.steps g.more));
  value = λ r lt.
      ap (λ (n : ℕ). lit_value (run t.steps (leaf_values n r)) l) g.leaves
      ∙ ap (λ (ss : List Step). lit_value (run ss (leaf_values s.leaves r)) l) g.steps
      ∙ lit_kept s.leaves s.steps g.more l r m.inside
      ∙ m.value r (rw (← g.leaves) lt);
}

pub grows_more : (s t u : RecipeValue) → Grows s t → Grows t u → Grows s u
grows_more s t u g h = record {
  leaves = h.leaves ∙ g.leaves;
  more = g.more ++ h.more;
  steps = h.steps ∙ ap (λ (x : List Step). x ++ h.more) g.steps ∙ append_assoc s.steps g.more h.more;
}

-- a step that is added: its literal has the operation on what its operands mean
pub means_push : (s t : RecipeValue) (x : Step) (l : Lit) → t.leaves ≡ s.leaves → t.steps ≡ s.steps ++ x ∷ [] → l.0 ≡ 2 * next_place s
    → (f g h : ℕ → Bool) → Means s x.a f → Means s x.b g → Means s x.c h → Means t l (λ r. apply x.op (f r) (g r) (h r))
means_push s t x l el es e f g h mf mg mh =
    let p : place l ≡ s.leaves + 1 + length s.steps = omega arith in
    let q : l.0 % 2 ≡ 0 = omega arith in
    record {
      inside = rw (el, es) (omega (arith, length_push s.steps x));
      value = λ r lt.
          let here : r < 2 ^ s.leaves = rw (← el) lt in
          ap (λ (n : ℕ). lit_value (run t.steps (leaf_values n r)) l) el
          ∙ ap (λ (ss : List Step). lit_value (run ss (leaf_values s.leaves r)) l) es
          ∙ ap (λ (vs : List Bool). lit_value vs l) (run_append s.steps (x ∷ []) (leaf_values s.leaves r))
          ∙ ap (λ (m : ℕ). bit_xor2 (m == 1) (get_or (run s.steps (leaf_values s.leaves r) ++ step_value (run s.steps (leaf_values s.leaves r)) x ∷ []) (place l) false)) q
          ∙ get_or_push (run s.steps (leaf_values s.leaves r)) _ false (place l) (run_length s.steps (leaf_values s.leaves r) ∙ omega (arith, leaf_length s.leaves r))
          ∙ ap (λ (v : Bool). apply x.op v (lit_value (run s.steps (leaf_values s.leaves r)) x.b) (lit_value (run s.steps (leaf_values s.leaves r)) x.c)) (mf.value r here)
          ∙ ap (λ (v : Bool). apply x.op (f r) v (lit_value (run s.steps (leaf_values s.leaves r)) x.c)) (mg.value r here)
          ∙ ap (λ (v : Bool). apply x.op (f r) (g r) v) (mh.value r here);
    }

-- a leaf
pub means_leaf : (s : RecipeValue) (i : ℕ) (l : Lit) → i < s.leaves → l.0 ≡ 2 * (i + 1) → Means s l (λ r. is_set r i)
unfolding leaf_values
means_leaf s i l lt e =
    let p : place l ≡ suc i = omega arith in
    let q : l.0 % 2 ≡ 0 = omega arith in
    record {
      inside = omega arith;
      value = λ r b.
          ap (λ (m : ℕ). bit_xor2 (m == 1) (get_or (run s.steps (leaf_values s.leaves r)) (place l) false)) q
          ∙ ap (λ (k : ℕ). get_or (run s.steps (leaf_values s.leaves r)) k false) p
          ∙ run_keeps s.steps (leaf_values s.leaves r) (suc i) (omega (arith, leaf_length s.leaves r))
          ∙ get_or-map-range_with_len (is_set r) 0 s.leaves i i false lt (omega arith);
    }

-- a constant
pub means_constant : (s : RecipeValue) (b : Bool) (l : Lit) → l.0 ≡ cond b 1 0 → Means s l (λ r. b)
unfolding leaf_values
means_constant s true l e = record { inside = rw e (omega arith); value = λ r lt. rw e (ap not (run_keeps s.steps (leaf_values s.leaves r) 0 (omega (arith, leaf_length s.leaves r)))) }
means_constant s false l e = record { inside = rw e (omega arith); value = λ r lt. rw e (run_keeps s.steps (leaf_values s.leaves r) 0 (omega (arith, leaf_length s.leaves r))) }

-- one function in place of another
pub means_as : (s : RecipeValue) (l : Lit) (f g : ℕ → Bool) → ((r : ℕ) → r < 2 ^ s.leaves → f r ≡ g r) → Means s l f → Means s l g
means_as s l f g h m = record { inside = m.inside; value = λ r lt. m.value r lt ∙ h r lt }

flip_twice : (m : ℕ) (b : Bool) → m < 2 → bit_xor2 (1 - m == 1) b ≡ not (bit_xor2 (m == 1) b)
flip_twice zero b lt = refl
flip_twice (suc zero) true lt = refl
flip_twice (suc zero) false lt = refl
flip_twice (suc (suc m)) b lt = absurd (omega arith)

-- the complement of a literal
pub means_other : (s : RecipeValue) (l : Lit) (f : ℕ → Bool) → Means s l f → Means s (other l) (λ r. not (f r))
means_other s l f m = record {
  inside = rw (place_other l) m.inside;
  value = λ r lt.
      ap (λ (n : ℕ). bit_xor2 (n == 1) (get_or (run s.steps (leaf_values s.leaves r)) (place (other l)) false)) (sign_other l)
      ∙ ap (λ (p : ℕ). bit_xor2 (1 - l.0 % 2 == 1) (get_or (run s.steps (leaf_values s.leaves r)) p false)) (place_other l)
      ∙ flip_twice (l.0 % 2) (get_or (run s.steps (leaf_values s.leaves r)) (place l) false) (omega arith)
      ∙ ap not (m.value r lt);
}

pub sim_is : (s : RecipeValue) (t : Rows) → s.leaves ≡ t.vars → length t.bits ≡ 2 ^ t.vars → Means s s.root (row t) → sim s ≡ t
sim_is s t e long m =
    same_rows s.leaves _ (row t) m.value ∙ ap (λ (n : ℕ). by_rows n (row t)) e ∙ sym (eta_rows t long)

pub means_rooted : (s : RecipeValue) (l : Lit) (f : ℕ → Bool) → Means s l f → Means (record { leaves = s.leaves; steps = s.steps; root = l }) l f
means_rooted s l f m = record { inside = m.inside; value = m.value }
