-- What is named has a reference, and the other way round.
use Rattle.std.proofs.Common.{◌≡◌, ℕ, ◌<◌, cond, eqb, List, [], ◌∷◌, map, length, refl, sym, ap, inl, inr, arith}
use Rattle.std.specs.Prelude.{count_by}
use Rattle.std.proofs.lemmas.Bool.Decides.{eqb_tells}
use Rattle.std.proofs.lemmas.List.Sums.{sum_by-cons}
use Rattle.lnet_gates.specs.declared.signal.Signal.{Signal}
use Rattle.lnet_model.specs.Networks.{NetworkValue}
use Rattle.lnet_model.specs.Along.{In, nodes_read}
use Rattle.lnet_model.specs.Fanouts.{fan, references}
use Rattle.lnet_model.proofs.Stored.{no-parent, no-output}
use Rattle.lnet_views.proofs.Parents.{fan-parent}
use Rattle.lnet_substitution.specs.Substitutions.{IsNamed}

some-pair : (ps : List (ℕ × ℕ)) → 0 < length ps → (p : ℕ) × In p (map (λ r. r.0) ps)
some-pair [] h = absurd (omega arith)
some-pair (p ∷ ps) h = (p.0, inl refl)

pub some-output : (n : ℕ) (os : List Signal) → 0 < count_by (λ (s : Signal). eqb s.node.0 n) os → In n (nodes_read os)
some-output n [] h = absurd (omega arith)
some-output n (o ∷ os) h =
    let both = sum_by-cons (λ (s : Signal). cond (eqb s.node.0 n) 1 0) o os in
    elim (eqb_tells o.node.0 n) as (λ _. In n (nodes_read (o ∷ os))) [
      | inl p ↦ inl (sym p.1)
      | inr p ↦ inr (some-output n os (let none : ◌≡◌ {A = ℕ} (cond (eqb o.node.0 n) 1 0) 0 = ap (λ b. cond b 1 0) p.0 in omega (arith, h, both, none)))
    ]

pub referenced-named : (N : NetworkValue) (n : ℕ) → 0 < references N n → IsNamed N n
unfolding references
referenced-named N n h =
    elim (eqb_tells (length (fan N n)) 0) as (λ _. IsNamed N n) [
      | inl p ↦ inr (some-output n N.outputs (let none = p.1 in omega (arith, h, none)))
      | inr p ↦ (let some = p.1 in let r = some-pair (fan N n) (omega arith) in inl (r.0, fan-parent N n r.0 r.1))
    ]

pub unreferenced-unnamed : (N : NetworkValue) (n : ℕ) → references N n ≡ 0 → IsNamed N n → ⊥
unreferenced-unnamed N n none (inl p) = no-parent N n none p.0 p.1
unreferenced-unnamed N n none (inr i) = no-output N n none i

pub named-referenced : (N : NetworkValue) (n : ℕ) → IsNamed N n → 0 < references N n
named-referenced N n h = elim (eqb_tells (references N n) 0) as (λ _. 0 < references N n) [
  | inl p ↦ absurd (unreferenced-unnamed N n p.1 h)
  | inr p ↦ (let some = p.1 in omega arith)
]
