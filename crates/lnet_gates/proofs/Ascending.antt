-- Ascending lists of numbers, and that the numbers that pass a test are one.
use Rattle.std.proofs.Common.{◌≡◌, ℕ, zero, suc, ◌<◌, Bool, cond, ◌⊎◌, List, [], ◌∷◌, ◌++◌, refl, sym, inl, inr, arith}
use Rattle.lnet_gates.specs.LutForms.{passing}
use Rattle.lnet_gates.specs.Lawful.OperandLemmas.{by_test}
use Rattle.lnet_gates.specs.Lawful.NodeFunctions.{IsIn, in-split}

abbrev pub Ascends : List ℕ → Type 0
Ascends [] = Unit
Ascends (n ∷ ns) = ((m : ℕ) → IsIn m ns → n < m) × Ascends ns

-- two ascending lists of the same numbers are one
pub ascends-one : (ns ms : List ℕ) → Ascends ns → Ascends ms → ((k : ℕ) → IsIn k ns → IsIn k ms) → ((k : ℕ) → IsIn k ms → IsIn k ns) → ns ≡ ms
ascends-one [] [] a b there back = refl
ascends-one [] (m ∷ ms) a b there back = absurd (back m (inl refl))
ascends-one (n ∷ ns) [] a b there back = absurd (there n (inl refl))
ascends-one (n ∷ ns) (m ∷ ms) a b there back =
    let head : n ≡ m = heads (there n (inl refl)) (back m (inl refl)) in
    λ i. head i ∷ ascends-one ns ms a.1 b.1 (λ k h. tail m ms k (λ e. let lt : n < k = a.0 k h in absurd (omega arith)) (there k (inr h))) (λ k h. tail n ns k (λ e. let lt : m < k = b.0 k h in absurd (omega arith)) (back k (inr h))) i
  where
    heads : (n ≡ m) ⊎ IsIn n ms → (m ≡ n) ⊎ IsIn m ns → n ≡ m
    heads (inl e) h = e
    heads (inr h) (inl e) = sym e
    heads (inr h) (inr k) = let p : m < n = b.0 n h in let q : n < m = a.0 m k in absurd (omega arith)

    tail : (x : ℕ) (xs : List ℕ) (k : ℕ) → (k ≡ x → ⊥) → (k ≡ x) ⊎ IsIn k xs → IsIn k xs
    tail x xs k apart (inl e) = absurd (apart e)
    tail x xs k apart (inr h) = h

ascends-last : (ns : List ℕ) (n : ℕ) → Ascends ns → ((m : ℕ) → IsIn m ns → m < n) → Ascends (ns ++ n ∷ [])
ascends-last [] n a below = (λ m h. absurd h, tt)
ascends-last (x ∷ ns) n a below = (λ m h. from m (in-split m ns (n ∷ []) h), ascends-last ns n a.1 (λ m h. below m (inr h)))
  where
    from : (m : ℕ) → IsIn m ns ⊎ IsIn m (n ∷ []) → x < m
    from m (inl h) = a.0 m h
    from m (inr (inl e)) = let lt : x < n = below x (inl refl) in omega arith
    from m (inr (inr h)) = absurd h

passing-below : (p : ℕ → Bool) (b m : ℕ) → IsIn m (passing p b) → m < b
passing-below p zero m h = absurd h
passing-below p (suc n) m h = from (passing-below p n m) (in-split m (passing p n) (cond (p n) (n ∷ []) []) h) (by_test (λ ns. IsIn m ns → m < suc n) (p n) (n ∷ []) [] (λ _ i. here i) (λ _ i. absurd i))
  where
    here : (m ≡ n) ⊎ ⊥ → m < suc n
    here (inl e) = omega arith
    here (inr i) = absurd i

    from : (IsIn m (passing p n) → m < n) → IsIn m (passing p n) ⊎ IsIn m (cond (p n) (n ∷ []) []) → (IsIn m (cond (p n) (n ∷ []) []) → m < suc n) → m < suc n
    from before (inl i) last = let lt : m < n = before i in omega arith
    from before (inr i) last = last i

pub passing-ascends : (p : ℕ → Bool) (b : ℕ) → Ascends (passing p b)
passing-ascends p zero = tt
passing-ascends p (suc n) = by_test (λ ns. Ascends (passing p n ++ ns)) (p n) (n ∷ []) [] (λ _. ascends-last (passing p n) n (passing-ascends p n) (λ m h. passing-below p n m h)) (λ _. none (passing p n) (passing-ascends p n))
  where
    none : (ns : List ℕ) → Ascends ns → Ascends (ns ++ [])
    none [] a = tt
    none (x ∷ ns) a = (λ m h. from m (in-split m ns [] h), none ns a.1)
      where
        from : (m : ℕ) → IsIn m ns ⊎ ⊥ → x < m
        from m (inl h) = a.0 m h
        from m (inr h) = absurd h
