-- Signals of a list, one after another.
use Rattle.std.proofs.Common.{◌≡◌, ℕ, zero, suc, ◌+◌, ◌<◌, ◌⊎◌, List, [], ◌∷◌, take, length, get_or, sym, subst, inl, inr, arith}
use Rattle.lnet_gates.specs.declared.signal.Signal.{Signal}
use Rattle.lnet_model.specs.Along.{In, nodes_read}

-- what one more signal adds
pub read-more : (n : ℕ) (ss : List Signal) (i : ℕ) (d : Signal) → i < length ss → In n (nodes_read (take (i + 1) ss)) → In n (nodes_read (take i ss)) ⊎ ((get_or ss i d).node.0 ≡ n)
read-more n ss i d lt h = more ss i lt (let e : i + 1 ≡ suc i = omega arith in subst (λ z. In n (nodes_read (take z ss))) e h)
  where
    more : (ss : List Signal) (i : ℕ) → i < length ss → In n (nodes_read (take (suc i) ss)) → In n (nodes_read (take i ss)) ⊎ ((get_or ss i d).node.0 ≡ n)
    more [] i lt h = absurd (omega arith)
    more (s ∷ ss) zero lt (inl e) = inr (sym e)
    more (s ∷ ss) zero lt (inr j) = absurd j
    more (s ∷ ss) (suc i) lt (inl e) = inl (inl e)
    more (s ∷ ss) (suc i) lt (inr j) = elim (more ss i (omega arith) j) [ inl k ↦ inl (inr k) | inr k ↦ inr k ]

-- the node of a signal of the list is read
pub read-at : (n : ℕ) (ss : List Signal) (i : ℕ) (d : Signal) → i < length ss → (get_or ss i d).node.0 ≡ n → In n (nodes_read ss)
read-at n [] i d lt e = absurd (omega arith)
read-at n (s ∷ ss) zero d lt e = inl (sym e)
read-at n (s ∷ ss) (suc i) d lt e = inr (read-at n ss i d (omega arith) e)

-- what is read stays so with one more signal, and that one is read
pub read-before : (n : ℕ) (ss : List Signal) (i : ℕ) → In n (nodes_read (take i ss)) → In n (nodes_read (take (suc i) ss))
read-before n ss zero h = absurd h
read-before n [] (suc i) h = h
read-before n (s ∷ ss) (suc i) (inl e) = inl e
read-before n (s ∷ ss) (suc i) (inr j) = inr (read-before n ss i j)

pub read-last : (n : ℕ) (ss : List Signal) (i : ℕ) (d : Signal) → i < length ss → n ≡ (get_or ss i d).node.0 → In n (nodes_read (take (suc i) ss))
read-last n [] i d lt e = absurd (omega arith)
read-last n (s ∷ ss) zero d lt e = inl e
read-last n (s ∷ ss) (suc i) d lt e = inr (read-last n ss i d (omega arith) e)
