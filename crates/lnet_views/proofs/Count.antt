-- What a step of the repair adds to the fanout lengths of the changed numbers.
use Rattle.std.proofs.Common.{◌≡◌, ℕ, ◌+◌, ◌≤◌, Bool, true, false, not, cond, List, [], ◌∷◌, length, refl, sym, ap, subst, ◌∙◌, inl, inr, arith}
use Rattle.std.proofs.lemmas.Bool.Decides.{eqb_tells}
use Rattle.std.specs.Prelude.{◌||◌}
use Rattle.std.specs.List.{list_any}
use Rattle.std.specs.Cmp.{unsigned_tied}
use Rattle.std.specs.Ordering.{nat_cmp, eq_by_cmp}
use Rattle.std.specs.FinMap.{keys, contains_key-keys}
use Rattle.lnet_model.specs.Networks.{NetworkValue, entry_at, IsLive}
use Rattle.lnet_model.specs.Along.{In}
use Rattle.lnet_model.specs.Fanouts.{fan}
use Rattle.lnet_model.specs.Visits.{fanouts}
use Rattle.lnet_views.specs.Repair.{put}
use Rattle.lnet_views.proofs.Repair.{put-here, put-apart}

weight-grows : (b c : Bool) (w : ℕ) → (b ≡ true → c ≡ true) → cond b w 0 ≤ cond c w 0
weight-grows false c w h = omega arith
weight-grows true c w h = let e : c ≡ true = h refl in subst (λ z. w ≤ cond z w 0) (sym e) (omega arith)

pub fanouts-grow : (N : NetworkValue) (d e : ℕ → Bool) (xs : List ℕ) → ((x : ℕ) → d x ≡ true → e x ≡ true) → fanouts N d xs ≤ fanouts N e xs
fanouts-grow N d e [] h = omega arith
fanouts-grow N d e (x ∷ xs) h = let a = weight-grows (d x) (e x) (length (fan N x)) (h x) in let b = fanouts-grow N d e xs h in omega arith

pub fanouts-more : (N : NetworkValue) (d e : ℕ → Bool) (n : ℕ) (xs : List ℕ) → ((x : ℕ) → d x ≡ true → e x ≡ true) → d n ≡ false → e n ≡ true → In n xs → fanouts N d xs + length (fan N n) ≤ fanouts N e xs
fanouts-more N d e n [] h f t i = absurd i
fanouts-more N d e n (x ∷ xs) h f t (inl is) =
    let a : cond (d x) (length (fan N x)) 0 ≡ 0 = ap (λ z. cond (d z) (length (fan N z)) 0) (sym is) ∙ ap (λ b. cond b (length (fan N n)) 0) f in
    let b : cond (e x) (length (fan N x)) 0 ≡ length (fan N n) = ap (λ z. cond (e z) (length (fan N z)) 0) (sym is) ∙ ap (λ b. cond b (length (fan N n)) 0) t in
    let c = fanouts-grow N d e xs h in
    omega arith
fanouts-more N d e n (x ∷ xs) h f t (inr i) =
    let a = weight-grows (d x) (e x) (length (fan N x)) (h x) in
    let c = fanouts-more N d e n xs h f t i in
    omega arith

module _ {A : Type 0} (eq : A → A → Bool) (same : (a : A) → eq a a ≡ true) (old V : ℕ → A) (n : ℕ) (v : A) (fresh : V n ≡ old n) where
  was-same : not (eq (V n) (old n)) ≡ false
  was-same = ap not (subst (λ z. eq (V n) z ≡ true) fresh (same (V n)))

  differ-grow : (x : ℕ) → not (eq (V x) (old x)) ≡ true → not (eq (put V n v x) (old x)) ≡ true
  differ-grow x d = elim (eqb_tells x n) as (λ _. not (eq (put V n v x) (old x)) ≡ true) [
    | inl p ↦ (let f : false ≡ true = sym was-same ∙ ap (λ z. not (eq (V z) (old z))) (sym p.1) ∙ d in cc)
    | inr p ↦ ap (λ z. not (eq z (old x))) (put-apart V n v x p.1) ∙ d
  ]

  pub differing-grow : (N : NetworkValue) (xs : List ℕ) → fanouts N (λ x. not (eq (V x) (old x))) xs ≤ fanouts N (λ x. not (eq (put V n v x) (old x))) xs
  differing-grow N xs = fanouts-grow N _ _ xs differ-grow

  -- a number that changed now brings its fanout
  pub differing-more : (N : NetworkValue) (xs : List ℕ) → eq v (V n) ≡ false → In n xs → fanouts N (λ x. not (eq (V x) (old x))) xs + length (fan N n) ≤ fanouts N (λ x. not (eq (put V n v x) (old x))) xs
  differing-more N xs changed i = fanouts-more N _ _ n xs differ-grow was-same (ap (λ z. not (eq z (old n))) (put-here V n v n refl) ∙ ap (λ z. not (eq v z)) (sym fresh) ∙ ap not changed) i

in-any : (n : ℕ) (xs : List ℕ) → list_any (eq_by_cmp nat_cmp n) xs ≡ true → In n xs
in-any n [] h = let z : false ≡ true = h in cc
in-any n (x ∷ xs) h = elim (eqb_tells n x) as (λ _. In n (x ∷ xs)) [
  | inl p ↦ inl p.1
  | inr p ↦ inr (in-any n xs (sym (ap (λ b. b || list_any (eq_by_cmp nat_cmp n) xs) (unsigned_tied n x ∙ p.0)) ∙ h))
]

pub live-key : (N : NetworkValue) (n : ℕ) → IsLive N n → In n (keys N.nodes)
unfolding entry_at
live-key N n live = in-any n (keys N.nodes) (sym (contains_key-keys N.nodes n) ∙ live)
