-- Counting signals one after another.
use Rattle.std.proofs.Common.{◌≡◌, ◌≢◌, ℕ, zero, suc, ◌+◌, ◌-◌, ◌<◌, ◌≤◌, Bool, true, false, cond, eqb, List, [], ◌∷◌, length, take, get_or, refl, sym, subst, inl, inr, arith, get_or-set_same, get_or-set_other}
use Rattle.std.proofs.Math.ListN.{set}
use Rattle.std.proofs.lemmas.Bool.Decides.{eqb_tells}
use Rattle.std.proofs.lemmas.List.Sums.{sum_by_more, sum_by-take-le}
use Rattle.lnet_gates.specs.declared.signal.Signal.{Signal}
use Rattle.lnet_model.specs.Along.{In, nodes_read}
use Rattle.lnet_store.specs.Fields.{naming}

pub read-In : (ss : List Signal) (i : ℕ) (d : Signal) → i < length ss → In (get_or ss i d).node.0 (nodes_read ss)
read-In [] i d lt = absurd (omega arith)
read-In (s ∷ ss) zero d lt = inl refl
read-In (s ∷ ss) (suc i) d lt = inr (read-In ss i d (omega arith))

pub get-default : (xs : List ℕ) (i d e : ℕ) → i < length xs → get_or xs i d ≡ get_or xs i e
get-default [] i d e lt = absurd (omega arith)
get-default (x ∷ xs) zero d e lt = refl
get-default (x ∷ xs) (suc i) d e lt = get-default xs i d e (omega arith)

one : (b : Bool) → b ≡ true → cond {A = ℕ} b 1 0 ≡ 1
one true e = refl
one false e = cc

none : (b : Bool) → b ≡ false → cond {A = ℕ} b 1 0 ≡ 0
none true e = cc
none false e = refl

module _ (ss : List Signal) (i : ℕ) (d : Signal) (lt : i < length ss) where
  pub more-here : (k : ℕ) → (get_or ss i d).node.0 ≡ k → naming k (take (i + 1) ss) ≡ naming k (take i ss) + 1
  more-here k e =
      let step = sum_by_more (λ (s : Signal). cond (eqb s.node.0 k) 1 0) ss i d lt in
      elim (eqb_tells (get_or ss i d).node.0 k) as (λ _. naming k (take (i + 1) ss) ≡ naming k (take i ss) + 1) [
        | inl p ↦ (let h = one (eqb (get_or ss i d).node.0 k) p.0 in omega arith)
        | inr p ↦ absurd (p.1 e)
      ]

  pub more-apart : (k : ℕ) → ((get_or ss i d).node.0 ≢ k) → naming k (take (i + 1) ss) ≡ naming k (take i ss)
  more-apart k ne =
      let step = sum_by_more (λ (s : Signal). cond (eqb s.node.0 k) 1 0) ss i d lt in
      elim (eqb_tells (get_or ss i d).node.0 k) as (λ _. naming k (take (i + 1) ss) ≡ naming k (take i ss)) [
        | inl p ↦ absurd (ne p.1)
        | inr p ↦ (let h = none (eqb (get_or ss i d).node.0 k) p.0 in omega arith)
      ]

  pub one-more : (k : ℕ) → (get_or ss i d).node.0 ≡ k → naming k (take i ss) + 1 ≤ naming k ss
  one-more k e =
      let step = more-here k e in
      let le = sum_by-take-le (λ (s : Signal). cond (eqb s.node.0 k) 1 0) ss (i + 1) in
      omega arith

  module _ (old : ℕ → ℕ) (counts : List ℕ) (within : (get_or ss i d).node.0 < length counts) where
    pub counted-more : ((n : ℕ) → get_or counts n 0 ≡ old n + naming n (take i ss)) → (v : ℕ) → v ≡ get_or counts (get_or ss i d).node.0 0 → (n : ℕ) → get_or (set counts (get_or ss i d).node.0 (v + 1)) n 0 ≡ old n + naming n (take (i + 1) ss)
    counted-more so v is n = elim (eqb_tells n (get_or ss i d).node.0) as (λ _. get_or (set counts (get_or ss i d).node.0 (v + 1)) n 0 ≡ old n + naming n (take (i + 1) ss)) [
      | inl p ↦ (
          let k = (get_or ss i d).node.0 in
          let here = get_or-set_same counts (get_or ss i d).node.0 (v + 1) 0 within in
          let before = so (get_or ss i d).node.0 in
          let step = more-here (get_or ss i d).node.0 refl in
          subst (λ z. get_or (set counts (get_or ss i d).node.0 (v + 1)) z 0 ≡ old z + naming z (take (i + 1) ss)) (sym p.1) (omega arith)
          )
      | inr p ↦ (
          let there = get_or-set_other counts (get_or ss i d).node.0 n (v + 1) 0 p.1 in
          let before = so n in
          let step = more-apart n (λ e. p.1 (sym e)) in
          omega arith
          )
    ]

    pub counted-less : ((n : ℕ) → get_or counts n 0 + naming n (take i ss) ≡ old n) → (v : ℕ) → v ≡ get_or counts (get_or ss i d).node.0 0 → 1 ≤ v → (n : ℕ) → get_or (set counts (get_or ss i d).node.0 (v - 1)) n 0 + naming n (take (i + 1) ss) ≡ old n
    counted-less so v is some n = elim (eqb_tells n (get_or ss i d).node.0) as (λ _. get_or (set counts (get_or ss i d).node.0 (v - 1)) n 0 + naming n (take (i + 1) ss) ≡ old n) [
      | inl p ↦ (
          let here = get_or-set_same counts (get_or ss i d).node.0 (v - 1) 0 within in
          let before = so (get_or ss i d).node.0 in
          let step = more-here (get_or ss i d).node.0 refl in
          subst (λ z. get_or (set counts (get_or ss i d).node.0 (v - 1)) z 0 + naming z (take (i + 1) ss) ≡ old z) (sym p.1) (omega arith)
          )
      | inr p ↦ (
          let there = get_or-set_other counts (get_or ss i d).node.0 n (v - 1) 0 p.1 in
          let before = so n in
          let step = more-apart n (λ e. p.1 (sym e)) in
          omega arith
          )
    ]
