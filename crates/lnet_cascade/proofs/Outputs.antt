-- Outputs redirected one after the other.
use Rattle.std.proofs.Common.{◌≡◌, ℕ, zero, suc, List, [], ◌∷◌, map, length, refl, sym, ap, subst, ◌∙◌, ◌+◌, Bool, cond, inl, inr, None, Some, arith}
use Rattle.std.specs.Prelude.{slice_set, slice_get}
use Rattle.std.proofs.lemmas.Bool.Decides.{eqb_tells}
use Rattle.lnet_gates.specs.declared.signal.Signal.{Signal}
use Rattle.lnet_gates.specs.Operands.{flipped}
use Rattle.lnet_model.specs.Networks.{NetworkValue, IsLive, entry_at}
use Rattle.lnet_store.specs.StoreValues.{with_output}
use Rattle.lnet_substitution.specs.Replaced.{redirected}
use Rattle.lnet_cascade.specs.Redirections.{outputs_redirected}

-- f at the first k items
pub half : {A : Type 0} → (A → A) → ℕ → List A → List A
half f zero os = os
half f (suc k) [] = []
half f (suc k) (o ∷ os) = f o ∷ half f k os

half-here : {A : Type 0} (f : A → A) (k : ℕ) (os : List A) → slice_get (half f k os) k ≡ slice_get os k
unfolding half
half-here f zero os = refl
half-here f (suc k) [] = refl
half-here f (suc k) (o ∷ os) = half-here f k os

half-set : {A : Type 0} (f : A → A) (k : ℕ) (os : List A) (s : A) → slice_get os k ≡ Some s → slice_set (half f k os) k (f s) ≡ half f (suc k) os
unfolding half
half-set f k [] s h = cc
half-set f zero (o ∷ os) s h = let e : o ≡ s = cc in ap (λ z. f z ∷ os) (sym e)
half-set f (suc k) (o ∷ os) s h = ap (λ zs. f o ∷ zs) (half-set f k os s h)

half-length : {A : Type 0} (f : A → A) (k : ℕ) (os : List A) → length (half f k os) ≡ length os
unfolding half
half-length f zero os = refl
half-length f (suc k) [] = refl
half-length f (suc k) (o ∷ os) = ap suc (half-length f k os)

half-map : {A : Type 0} (f : A → A) (os : List A) → half f (length os) os ≡ map f os
unfolding half
half-map f [] = refl
half-map f (o ∷ os) = ap (λ zs. f o ∷ zs) (half-map f os)

unfoldable pub outputs_half : NetworkValue → ℕ → Signal → ℕ → NetworkValue
outputs_half N x t k = record N { outputs = half (redirected x t) k N.outputs }

pub half-entry : (N : NetworkValue) (x : ℕ) (t : Signal) (k q : ℕ) → entry_at (outputs_half N x t k) q ≡ entry_at N q
unfolding entry_at outputs_half
half-entry N x t k q = refl

pub half-start : (N : NetworkValue) (x : ℕ) (t : Signal) → N ≡ outputs_half N x t 0
unfolding outputs_half half
half-start N x t = refl

pub half-count : (N : NetworkValue) (x : ℕ) (t : Signal) (k : ℕ) → length (outputs_half N x t k).outputs ≡ length N.outputs
unfolding outputs_half
half-count N x t k = half-length (redirected x t) k N.outputs

pub half-all : (N : NetworkValue) (x : ℕ) (t : Signal) → outputs_half N x t (length N.outputs) ≡ outputs_redirected N x t
unfolding outputs_half outputs_redirected
half-all N x t = ap (λ (os : List Signal). record N { outputs = os }) (half-map (redirected x t) N.outputs)

pub half-next : (N : NetworkValue) (x : ℕ) (t s : Signal) (k : ℕ) → slice_get (outputs_half N x t k).outputs k ≡ Some s → with_output (outputs_half N x t k) k (redirected x t s) ≡ outputs_half N x t (k + 1)
unfolding outputs_half with_output
half-next N x t s k is =
    let f = redirected x t in
    let e : k + 1 ≡ suc k = omega arith in
    ap (λ (os : List Signal). record N { outputs = os }) (half-set f k N.outputs s (sym (half-here f k N.outputs) ∙ is) ∙ ap (λ z. half f z N.outputs) (sym e))

-- past the end nothing is left to redirect
past : {A : Type 0} (f : A → A) (k : ℕ) (os : List A) → slice_get (half f k os) k ≡ None → half f k os ≡ half f (suc k) os
unfolding half
past f zero [] h = refl
past f zero (o ∷ os) h = cc
past f (suc k) [] h = refl
past f (suc k) (o ∷ os) h = ap (λ zs. f o ∷ zs) (past f k os h)

pub half-past : (N : NetworkValue) (x : ℕ) (t : Signal) (k : ℕ) → slice_get (outputs_half N x t k).outputs k ≡ None → outputs_half N x t k ≡ outputs_half N x t (k + 1)
unfolding outputs_half
half-past N x t k h = let e : k + 1 ≡ suc k = omega arith in ap (λ (os : List Signal). record N { outputs = os }) (past (redirected x t) k N.outputs h ∙ ap (λ z. half (redirected x t) z N.outputs) (sym e))

pub redirected-is-live : (N : NetworkValue) (x : ℕ) (t s : Signal) → IsLive N t.node.0 → IsLive N s.node.0 → IsLive N (redirected x t s).node.0
redirected-is-live N x t s lt ls =
    let P : Bool → Type 0 = λ b. IsLive N (cond b (flipped s.complement t) s).node.0 in
    elim (eqb_tells s.node.0 x) as (λ _. IsLive N (redirected x t s).node.0) [ inl p ↦ subst P (sym p.0) lt | inr p ↦ subst P (sym p.0) ls ]
