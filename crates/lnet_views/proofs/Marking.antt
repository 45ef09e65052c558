-- The marking of a node's parents.
use Rattle.std.proofs.Common.{◌≡◌, ◌≢◌, ℕ, ◌<◌, true, false, List, [], ◌∷◌, length, map, Option, refl, sym, ap, subst, ◌∙◌, inl, inr, arith}
use Rattle.std.specs.Prelude.{◌⊎◌}
use Rattle.std.proofs.lemmas.Bool.Decides.{eqb_tells}
use Rattle.lnet_model.specs.Networks.{NetworkValue, entry_at, IsLive}
use Rattle.lnet_model.specs.Along.{In}
use Rattle.lnet_model.specs.Fanouts.{IsParent}
use Rattle.lnet_views.specs.Keeping.{mark, IsMarking}
use Rattle.lnet_model.proofs.Along.{live_parent}

pub marking-start : (N : NetworkValue) (n : ℕ) (waits : List (Option ℕ)) (rest : List (ℕ × ℕ)) → ((p : ℕ) → In p (map (λ r. r.0) rest) → IsParent N n p) → ((p : ℕ) → IsParent N n p → In p (map (λ r. r.0) rest)) → IsMarking N n waits waits rest
marking-start N n waits rest each all = record {
  len = refl;
  kept = λ m t. t;
  todo = each;
  done = λ p i. inr (all p i);
  only = λ m t f. let z : true ≡ false = sym t ∙ f in cc;
}

pub marking-parent : (N : NetworkValue) (n : ℕ) (before waits : List (Option ℕ)) (p : ℕ × ℕ) (rest more : List (ℕ × ℕ)) → more ≡ p ∷ rest → IsMarking N n before waits more → IsParent N n p.0
marking-parent N n before waits p rest more is I = I.todo p.0 (subst (λ z. In p.0 (map (λ (r : ℕ × ℕ). r.0) z)) (sym is) (inl refl))

pub marking-inside : (N : NetworkValue) (n : ℕ) (before waits : List (Option ℕ)) (p : ℕ × ℕ) (rest more : List (ℕ × ℕ)) → ((m : ℕ) → IsLive N m → m < length before) → more ≡ p ∷ rest → IsMarking N n before waits more → p.0 < length waits
marking-inside N n before waits p rest more room is I =
    let h = room p.0 (live_parent (entry_at N) p.0 n (marking-parent N n before waits p rest more is I)) in
    let e = I.len in
    omega arith

module _ (N : NetworkValue) (n : ℕ) (before waits waits2 : List (Option ℕ)) (p : ℕ × ℕ) (rest more : List (ℕ × ℕ)) (len : length waits2 ≡ length waits) (here : mark waits2 p.0 ≡ true) (others : (m : ℕ) → m ≢ p.0 → mark waits2 m ≡ mark waits m) (is : more ≡ p ∷ rest) (I : IsMarking N n before waits more) where
  mark-here : (m : ℕ) → m ≡ p.0 → mark waits2 m ≡ true
  mark-here m e = ap (mark waits2) e ∙ here

  grows : (m : ℕ) → mark waits m ≡ true → mark waits2 m ≡ true
  grows m t = elim (eqb_tells m p.0) as (λ _. mark waits2 m ≡ true) [ inl e ↦ mark-here m e.1 | inr e ↦ others m e.1 ∙ t ]

  pub marking-step : IsMarking N n before waits2 rest
  marking-step = record {
    len = len ∙ I.len;
    kept = λ m t. grows m (I.kept m t);
    todo = λ m i. I.todo m (subst (λ z. In m (map (λ (r : ℕ × ℕ). r.0) z)) (sym is) (inr i));
    done = λ m i. elim (I.done m i) as (λ _. (mark waits2 m ≡ true) ⊎ In m (map (λ r. r.0) rest)) [
      | inl t ↦ inl (grows m t)
      | inr j ↦ elim (subst (λ z. In m (map (λ (r : ℕ × ℕ). r.0) z)) is j) as (λ _. (mark waits2 m ≡ true) ⊎ In m (map (λ r. r.0) rest)) [ inl e ↦ inl (mark-here m e) | inr k ↦ inr k ]
    ];
    only = λ m t f. elim (eqb_tells m p.0) as (λ _. IsParent N n m) [
      | inl e ↦ I.todo m (subst (λ z. In m (map (λ (r : ℕ × ℕ). r.0) z)) (sym is) (inl e.1))
      | inr e ↦ I.only m (sym (others m e.1) ∙ t) f
    ];
  }

pub marking-end : (N : NetworkValue) (n : ℕ) (before waits : List (Option ℕ)) (rest : List (ℕ × ℕ)) → rest ≡ [] → IsMarking N n before waits rest → (p : ℕ) → IsParent N n p → mark waits p ≡ true
marking-end N n before waits rest is I p i = elim (I.done p i) as (λ _. mark waits p ≡ true) [ inl t ↦ t | inr j ↦ absurd (subst (λ z. In p (map (λ (r : ℕ × ℕ). r.0) z)) is j) ]
