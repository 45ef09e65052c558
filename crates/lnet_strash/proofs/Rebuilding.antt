-- The chains of the numbers below one, as they are made anew, and chains in longer lists.
use Rattle.std.proofs.Common.{◌≡◌, ◌≢◌, ℕ, ◌+◌, ◌<◌, ◌≤◌, Bool, true, false, List, length, Option, None, Some, option_map, sym, ap, ◌∙◌, inl, inr, arith, set}
use Rattle.std.specs.Prelude.{nat_lt, if◌then◌else◌}
use Rattle.std.proofs.lemmas.Bool.{lt-ltb, cases_lt}
use Rattle.lnet_gates.specs.Gates.{KeyValue}
use Rattle.lnet_strash.specs.Keys.{chain_of}
use Rattle.lnet_strash.specs.Standing.{Standing, at}
use Rattle.lnet_strash.specs.Chains.{link, home_of, home_below, AreChains, IsTable}
use Rattle.lnet_strash.proofs.Links.{chains-like, put-chains}

not-below : (m n : ℕ) → n ≤ m → nat_lt m n ≡ false
not-below m n h = grind arith

choose : (b c : Bool) (o : Option ℕ) → b ≡ c → (if b then o else None) ≡ (if c then o else None)
choose b c o e = ap (λ z. if z then o else None) e

module _ (chains : ℕ) (t : Standing) (n : ℕ) where
  idle : home_below n chains t n ≡ None
  idle = choose (nat_lt n n) false (home_of chains t n) (not-below n n (omega arith))

  here : home_below (n + 1) chains t n ≡ home_of chains t n
  here = choose (nat_lt n (n + 1)) true (home_of chains t n) (lt-ltb n (n + 1) (omega arith))

  other : (m : ℕ) → m ≢ n → home_below (n + 1) chains t m ≡ home_below n chains t m
  other m ne = choose (nat_lt m (n + 1)) (nat_lt m n) (home_of chains t m) (elim (cases_lt m n) as (λ _. nat_lt m (n + 1) ≡ nat_lt m n) [
    | inl lt ↦ lt-ltb m (n + 1) (omega arith) ∙ sym (lt-ltb m n lt)
    | inr ge ↦ not-below m (n + 1) (omega arith) ∙ sym (not-below m n ge)
  ])

-- number n, whose node stands under k, enters
pub enters : (heads next : List (Option ℕ)) (t : Standing) (n : ℕ) (e : KeyValue × Bool) → AreChains heads next (home_below n (length heads) t) → n < length next → at t n ≡ Some e → chain_of (length heads) e.0 < length heads → AreChains (set heads (chain_of (length heads) e.0) (Some n)) (set next n (link heads (chain_of (length heads) e.0))) (home_below (n + 1) (length heads) t)
enters heads next t n e C long is low =
    put-chains heads next (home_below n (length heads) t) (home_below (n + 1) (length heads) t) n (chain_of (length heads) e.0) C long low (idle (length heads) t n)
    (here (length heads) t n ∙ ap (option_map (λ (s : KeyValue × Bool). chain_of (length heads) s.0)) is)
    (other (length heads) t n)

-- longer lists with the same places hold the same table
pub table-like : (heads next next' : List (Option ℕ)) (t t' : Standing) → IsTable heads next t → ((n : ℕ) → link next' n ≡ link next n) → length next ≤ length next' → ((n : ℕ) → at t' n ≡ at t n) → length t' ≤ length next' → length t' < 4294967296 → IsTable heads next' t'
table-like heads next next' t t' T links long places fits few = record {
  some = T.some;
  links = fits;
  few = few;
  chains = chains-like heads next next' (home_of (length heads) t) (home_of (length heads) t') T.chains links long (λ n. ap (option_map (λ (s : KeyValue × Bool). chain_of (length heads) s.0)) (places n));
  differ = record { one = λ m n k p q e f. T.differ.one m n k p q (sym (places m) ∙ e) (sym (places n) ∙ f) };
}
