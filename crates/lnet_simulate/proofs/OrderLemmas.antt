-- The order of a cone, one number longer.
use Rattle.std.proofs.Common.{◌≡◌, ℕ, ◌<◌, ◌≤◌, ◌⊎◌, Bool, true, false, List, [], ◌∷◌, ◌++◌, length, get_or, set, refl, sym, subst, ◌∙◌, inl, inr, arith, length-set, get_or-set_other}
use Rattle.std.proofs.lemmas.Bool.Decides.{eqb_tells}
use Rattle.lnet_gates.specs.declared.signal.Node.{Node}
use Rattle.lnet_model.specs.Networks.{NetworkValue, entry_at}
use Rattle.lnet_model.specs.Along.{In, fanin_nodes}
use Rattle.lnet_model.specs.Dags.{numbers_of}
use Rattle.lnet_simulate.specs.Cones.{marked_at, IsBefore, IsListed, KeepsListed, InOrder, IsCone}
use Rattle.lnet_simulate.proofs.PathLemmas.{pushed-left, pushed-last, pushed-length}

before-more : (order : List Node) (n : Node) (i m : ℕ) → i ≤ length order → IsBefore order i m → IsBefore (order ++ n ∷ []) i m
before-more order n i m within (k, low, at) = (k, low, λ d. pushed-left order n k d (omega arith) ∙ at d)

pub kept-more : (order : List Node) (n : Node) → KeepsListed order (order ++ n ∷ [])
kept-more order n m (k, low, at) = let e = pushed-length order n in (k, omega arith, λ d. pushed-left order n k d low ∙ at d)

pub last-listed : (order : List Node) (n : Node) → IsListed (order ++ n ∷ []) n.0
last-listed order n = let e = pushed-length order n in (length order, omega arith, λ d. pushed-last order n (length order) d refl)

order-more : (N : NetworkValue) (order : List Node) (n : Node) → n.0 < numbers_of N → InOrder N order → ((m : ℕ) → In m (fanin_nodes (entry_at N n.0)) → IsListed order m) → InOrder N (order ++ n ∷ [])
order-more N order n low old fanins = record {
  below = λ i d within. below i d within (cases i (length order));
  after = λ i d m within reads. after i d m within reads (cases i (length order));
}
  where
    cases : (i k : ℕ) → (i < k) ⊎ (k ≤ i)
    cases i k = grind arith

    below : (i : ℕ) (d : Node) → i < length (order ++ n ∷ []) → (i < length order) ⊎ (length order ≤ i) → (get_or (order ++ n ∷ []) i d).0 < numbers_of N
    below i d within (inl lt) = subst (λ (q : Node). q.0 < numbers_of N) (sym (pushed-left order n i d lt)) (old.below i d lt)
    below i d within (inr ge) =
        let e = pushed-length order n in
        subst (λ (q : Node). q.0 < numbers_of N) (sym (pushed-last order n i d (omega arith))) low

    after : (i : ℕ) (d : Node) (m : ℕ) → i < length (order ++ n ∷ []) → In m (fanin_nodes (entry_at N (get_or (order ++ n ∷ []) i d).0)) → (i < length order) ⊎ (length order ≤ i) → IsBefore (order ++ n ∷ []) i m
    after i d m within reads (inl lt) =
        before-more order n i m (omega arith) (old.after i d m lt (subst (λ (q : Node). In m (fanin_nodes (entry_at N q.0))) (pushed-left order n i d lt) reads))
    after i d m within reads (inr ge) =
        let e = pushed-length order n in
        let last : i ≡ length order = omega arith in
        before-more order n i m (omega arith) (subst (λ (j : ℕ). IsBefore order j m) (sym last) (fanins m (subst (λ (q : Node). In m (fanin_nodes (entry_at N q.0))) (pushed-last order n i d last) reads)))

pub cone-more : (N : NetworkValue) (ms : List Bool) (order : List Node) (n : Node) → n.0 < numbers_of N → IsCone N ms order → ((m : ℕ) → In m (fanin_nodes (entry_at N n.0)) → marked_at ms m ≡ true) → IsCone N (set ms n.0 true) (order ++ n ∷ [])
cone-more N ms order n low old fanins = record {
  sized = length-set ms n.0 true ∙ old.sized;
  listed = λ m marked. elim (eqb_tells m n.0) as (λ _. IsListed (order ++ n ∷ []) m) [
    | inl p ↦ subst (IsListed (order ++ n ∷ [])) (sym p.1) (last-listed order n)
    | inr p ↦ kept-more order n m (old.listed m (sym (get_or-set_other ms n.0 m true false p.1) ∙ marked))
  ];
  ordered = order-more N order n low old.ordered (λ m reads. old.listed m (fanins m reads));
}
