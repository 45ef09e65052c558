-- Plans that are pushed one after another.
use Rattle.std.proofs.Common.{◌≡◌, ℕ, ◌+◌, List, ◌++◌, length, refl, ◌∙◌, ap, subst, arith, append_assoc, length-append}
use Rattle.lnet_tables.specs.declared.step.Lit.{Lit}
use Rattle.lnet_tables.specs.declared.step.Step.{Step}
use Rattle.lnet_tables.specs.Recipes.{RecipeValue, place, next_place}
use Rattle.lnet_tables.specs.Shannon.{Laid, after, plain, complemented, other}
use Rattle.lnet_tables.proofs.ShannonSteps.{other_plain}
use Rattle.lnet_gates.specs.declared.gate.Kind.{Kind}
use Rattle.lnet_gates.specs.declared.gate.Kind.TheVariants.{Aig, Xag, Mig, Klut}
use Rattle.lnet_gates.specs.StepPlans.{and_plan, or_plan, either_plan, not_both_plan, most_plan}
use Rattle.lnet_gates.specs.Laying.{HasLaid}
use Rattle.lnet_gates.proofs.StepPlanMeans.{one_and}

-- what is laid, under another name
pub laid_as : (s t : RecipeValue) (l : Lit) (x y : Laid) → x ≡ y → HasLaid s t l x → HasLaid s t l y
laid_as s t l x y e h = subst (λ (z : Laid). HasLaid s t l z) e h

laid_then : (s t u : RecipeValue) (a b : Lit) (x y : Laid) → HasLaid s t a x → HasLaid t u b y → HasLaid s u b (after x y)
laid_then s t u a b x y h k = record {
  steps = k.steps
      ∙ ap (λ (v : RecipeValue). let w : RecipeValue = record { leaves = v.leaves; steps = v.steps ++ y.steps; root = v.root } in w) h.steps
      ∙ ap (λ (ss : List Step). let w : RecipeValue = record { leaves = s.leaves; steps = ss; root = s.root } in w) (append_assoc s.steps x.steps y.steps);
  root = k.root;
  inside = k.inside;
  few = k.few ∙ h.few;
}

-- the place after one more step
after_one : (s t : RecipeValue) (l : Lit) (x : Laid) (p : ℕ) → length x.steps ≡ 1 → next_place s ≡ p → HasLaid s t l x → next_place t ≡ p + 1
after_one s t l x p one e h =
    ap next_place h.steps ∙ omega (arith, length-append s.steps x.steps)

-- the plans under other names of their places and literals
and_as : (kind : Kind) (p q : ℕ) (a b c d : Lit) → p ≡ q → a ≡ c → b ≡ d → and_plan kind p a b ≡ and_plan kind q c d
and_as kind p q a b c d e f g =
    ap (λ (n : ℕ). and_plan kind n a b) e ∙ ap (λ (l : Lit). and_plan kind q l b) f ∙ ap (λ (l : Lit). and_plan kind q c l) g

or_as : (kind : Kind) (p q : ℕ) (a b c d : Lit) → p ≡ q → a ≡ c → b ≡ d → or_plan kind p a b ≡ or_plan kind q c d
or_as kind p q a b c d e f g =
    ap (λ (n : ℕ). or_plan kind n a b) e ∙ ap (λ (l : Lit). or_plan kind q l b) f ∙ ap (λ (l : Lit). or_plan kind q c l) g

and_root : (kind : Kind) (p : ℕ) (a b : Lit) → (and_plan kind p a b).root ≡ plain p
and_root Aig p a b = refl
and_root Xag p a b = refl
and_root Mig p a b = refl
and_root Klut p a b = refl

-- the or, from the and of the complements
pub or_laid : (kind : Kind) (s t : RecipeValue) (l m a b c d : Lit) → c ≡ other a → d ≡ other b → m ≡ other l → place m ≡ place l
    → HasLaid s t l (and_plan kind (next_place s) c d) → HasLaid s t m (or_plan kind (next_place s) a b)
or_laid kind s t l m a b c d e f g at h =
    let n = laid_as s t l _ _ (and_as kind (next_place s) (next_place s) c d (other a) (other b) refl e f) h in
    record {
      steps = n.steps;
      root = g ∙ ap other (n.root ∙ and_root kind (next_place s) (other a) (other b)) ∙ other_plain (next_place s);
      inside = rw at n.inside;
      few = n.few;
    }

pub either_laid : (kind : Kind) (s t u v : RecipeValue) (a b c d l m n : Lit) → c ≡ other b → d ≡ other a
    → HasLaid s t l (and_plan kind (next_place s) a c) → HasLaid t u m (and_plan kind (next_place t) d b) → HasLaid u v n (or_plan kind (next_place u) l m)
    → HasLaid s v n (either_plan kind (next_place s) a b)
either_laid kind s t u v a b c d l m n ec ed hx hy hz =
    let p : ℕ = next_place s in
    let at_t : next_place t ≡ p + 1 = after_one s t l _ p (one_and kind p a c) refl hx in
    let at_u : next_place u ≡ p + 1 + 1 = after_one t u m _ (p + 1) (one_and kind (next_place t) d b) at_t hy in
    let x = laid_as s t l _ _ (and_as kind p p a c a (other b) refl refl ec) hx in
    let y = laid_as t u m _ _ (and_as kind (next_place t) (p + 1) d b (other a) b at_t ed refl) hy in
    let z = laid_as u v n _ _ (or_as kind (next_place u) (p + 1 + 1) l m (plain p) (plain (p + 1)) at_u (hx.root ∙ and_root kind p a c) (y.root ∙ and_root kind (p + 1) (other a) b)) hz in
    laid_then s t v l n _ _ x (laid_then t u v m n _ _ y z)

pub not_both_laid : (kind : Kind) (s t u v : RecipeValue) (a b c l m n : Lit) → c ≡ other l
    → HasLaid s t l (and_plan kind (next_place s) a b) → HasLaid t u m (or_plan kind (next_place t) a b) → HasLaid u v n (and_plan kind (next_place u) c m)
    → HasLaid s v n (not_both_plan kind (next_place s) a b)
not_both_laid kind s t u v a b c l m n ec hx hy hz =
    let p : ℕ = next_place s in
    let at_t : next_place t ≡ p + 1 = after_one s t l _ p (one_and kind p a b) refl hx in
    let at_u : next_place u ≡ p + 1 + 1 = after_one t u m _ (p + 1) (one_and kind (next_place t) (other a) (other b)) at_t hy in
    let y = laid_as t u m _ _ (or_as kind (next_place t) (p + 1) a b a b at_t refl refl) hy in
    let z = laid_as u v n _ _ (and_as kind (next_place u) (p + 1 + 1) c m (other (plain p)) (complemented (p + 1)) at_u (ec ∙ ap other (hx.root ∙ and_root kind p a b)) y.root) hz in
    laid_then s t v l n _ _ hx (laid_then t u v m n _ _ y z)

pub most_laid : (kind : Kind) (s t u v w : RecipeValue) (a b c l m n o : Lit)
    → HasLaid s t l (and_plan kind (next_place s) a b) → HasLaid t u m (or_plan kind (next_place t) a b)
    → HasLaid u v n (and_plan kind (next_place u) c m) → HasLaid v w o (or_plan kind (next_place v) l n)
    → HasLaid s w o (most_plan kind (next_place s) a b c)
most_laid kind s t u v w a b c l m n o hx hy hz hw =
    let p : ℕ = next_place s in
    let at_t : next_place t ≡ p + 1 = after_one s t l _ p (one_and kind p a b) refl hx in
    let at_u : next_place u ≡ p + 1 + 1 = after_one t u m _ (p + 1) (one_and kind (next_place t) (other a) (other b)) at_t hy in
    let at_v : next_place v ≡ p + 1 + 1 + 1 = after_one u v n _ (p + 1 + 1) (one_and kind (next_place u) c m) at_u hz in
    let y = laid_as t u m _ _ (or_as kind (next_place t) (p + 1) a b a b at_t refl refl) hy in
    let z = laid_as u v n _ _ (and_as kind (next_place u) (p + 1 + 1) c m c (complemented (p + 1)) at_u refl y.root) hz in
    let q = laid_as v w o _ _ (or_as kind (next_place v) (p + 1 + 1 + 1) l n (plain p) (plain (p + 1 + 1)) at_v (hx.root ∙ and_root kind p a b) (z.root ∙ and_root kind (p + 1 + 1) c (complemented (p + 1)))) hw in
    laid_then s t w l o _ _ hx (laid_then t u w m o _ _ y (laid_then u v w n o _ _ z q))
