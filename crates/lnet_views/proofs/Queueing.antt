-- The queue beside what is kept.
use Rattle.std.proofs.Common.{◌≡◌, ℕ, ◌<◌, Bool, true, false, List, length, Option, None, Some, refl, sym, ap, subst, ◌∙◌, inl, inr, arith, get_or, set, get_or-set_same, get_or-set_other}
use Rattle.std.specs.Prelude.{is_some}
use Rattle.std.proofs.lemmas.Bool.Decides.{eqb_tells}
use Rattle.lnet_gates.specs.declared.signal.Signal.{Signal}
use Rattle.lnet_gates.specs.Gates.{GateValue}
use Rattle.lnet_model.specs.Networks.{NetworkValue}
use Rattle.lnet_views.specs.Repair.{IsNext}
use Rattle.lnet_views.specs.Chains.{at, IsLowest}
use Rattle.lnet_views.specs.Keeping.{mark, height, IsTied, IsKept}

marked : (o : Option ℕ) → is_some o ≡ true → (l : ℕ) × (o ≡ Some l)
marked None e = let z : false ≡ true = e in cc
marked (Some l) e = (l, refl)

-- the lowest in the queue is the next by its level
pub lowest-next : (levels waits : List (Option ℕ)) (n : ℕ) → IsTied levels waits → IsLowest waits n → IsNext (height levels) (mark waits) n
lowest-next levels waits n tied L = record {
  waits = ap is_some L.waits;
  least = λ m t.
      let k = marked (at waits m) t in
      let a = L.least m k.0 k.1 in
      let b = tied n L.level L.waits in
      let c = tied m k.0 k.1 in
      omega arith;
}

-- what waits alone, at its level
pub tied-alone : (levels waits waits2 : List (Option ℕ)) (n l : ℕ) → ((m : ℕ) → at waits m ≡ None) → n < length waits → waits2 ≡ set waits n (Some l) → l ≡ height levels n → IsTied levels waits2
tied-alone levels waits waits2 n l idle inside is at-level m k e = elim (eqb_tells m n) as (λ _. height levels m ≡ k) [
  | inl p ↦ (let z : Some l ≡ Some k = sym (ap (λ xs. get_or xs n None) is ∙ get_or-set_same waits n (Some l) None inside) ∙ ap (λ x. get_or waits2 x None) (sym p.1) ∙ e in
      let same : l ≡ k = cc in ap (height levels) p.1 ∙ sym at-level ∙ same)
  | inr p ↦ (let z : None ≡ Some k = sym (ap (λ xs. get_or xs m None) is ∙ get_or-set_other waits n m (Some l) None p.1 ∙ idle m) ∙ e in cc)
]

pub kept-same : {V : Type 0} (eq : V → V → Bool) (first : ℕ → V) (gives : ℕ → GateValue → List (Signal × V) → V) (N : NetworkValue) (values values2 : List V) (levels levels2 : List (Option ℕ)) → values2 ≡ values → levels2 ≡ levels → IsKept eq first gives N values levels → IsKept eq first gives N values2 levels2
kept-same eq first gives N values values2 levels levels2 vs ls K = subst (λ xs. IsKept eq first gives N xs levels2) (sym vs) (subst (λ xs. IsKept eq first gives N values xs) (sym ls) K)
