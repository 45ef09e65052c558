-- The entries of all keys as one key comes or goes.
use Rattle.std.proofs.Common.{◌≡◌, ◌≢◌, ℕ, ◌<◌, Bool, length, Option, None, Some, refl, sym, ap, ◌∙◌, inl, inr, set, true≢false}
use Rattle.std.specs.Prelude.{IsSome}
use Rattle.std.proofs.lemmas.Bool.Decides.{eqb_tells}
use Rattle.lnet_gates.specs.declared.signal.Node.{Node}
use Rattle.lnet_gates.specs.Gates.{KeyValue}
use Rattle.lnet_strash.specs.Standing.{Standing, KeysDiffer, at, entry}
use Rattle.lnet_strash.proofs.Links.{not-some}
use Rattle.lnet_strash.proofs.Tables.{at-other, at-same, key-is, place-inside}
use Rattle.lnet_strash.proofs.Entries.{entry-at, no-entry, entry-like}

-- a node that is the entry of no key stands under none
pub stands-nowhere : (t : Standing) → KeysDiffer t → (n : Node) → ((k : KeyValue) (p : Bool) → entry t k ≢ Some (n, p)) → at t n.0 ≡ None
stands-nowhere t D n free = go (at t n.0) refl
  where
    go : (o : Option (KeyValue × Bool)) → at t n.0 ≡ o → at t n.0 ≡ None
    go None e = e
    go (Some s) e = absurd (free s.0 s.1 (entry-at t D s.0 n.0 s.1 e))

-- one key more
module _ (t : Standing) (n : ℕ) (k : KeyValue) (p : Bool) (inside : n < length t) (D : KeysDiffer (set t n (Some (k, p)))) where
  pub entry-inserted : entry (set t n (Some (k, p))) k ≡ Some (record { 0 = n }, p)
  entry-inserted = entry-at (set t n (Some (k, p))) D k n p (at-same t n (Some (k, p)) inside)

  pub entries-inserted : KeysDiffer t → at t n ≡ None → (j : KeyValue) → j ≢ k → entry (set t n (Some (k, p))) j ≡ entry t j
  entries-inserted E free j ne = entry-like (set t n (Some (k, p))) t D E j there back
    where
      there : (m : ℕ) (q : Bool) → at (set t n (Some (k, p))) m ≡ Some (j, q) → at t m ≡ Some (j, q)
      there m q e = elim (eqb_tells m n) as (λ _. at t m ≡ Some (j, q)) [
        | inl a ↦ absurd (ne (sym (key-is k (k, p) (j, q) (sym (at-same t n (Some (k, p)) inside) ∙ ap (at (set t n (Some (k, p)))) (sym a.1) ∙ e))))
        | inr a ↦ sym (at-other t n (Some (k, p)) m a.1) ∙ e
      ]

      back : (m : ℕ) (q : Bool) → at t m ≡ Some (j, q) → at (set t n (Some (k, p))) m ≡ Some (j, q)
      back m q e = elim (eqb_tells m n) as (λ _. at (set t n (Some (k, p))) m ≡ Some (j, q)) [
        | inl a ↦ absurd (not-some (j, q) (at t m) (ap (at t) a.1 ∙ free) e)
        | inr a ↦ at-other t n (Some (k, p)) m a.1 ∙ e
      ]

-- one key less
module _ (t : Standing) (n : ℕ) (k : KeyValue) (p : Bool) (D : KeysDiffer t) (stands : at t n ≡ Some (k, p)) where
  inside : n < length t
  inside = place-inside t n (k, p) stands

  empty : (m : ℕ) → m ≡ n → at (set t n None) m ≡ None
  empty m same = ap (at (set t n None)) same ∙ at-same t n None inside

  pub entry-removed : entry (set t n None) k ≡ None
  entry-removed = no-entry (set t n None) k (λ m q e. elim (eqb_tells m n) as (λ _. ⊥) [
    | inl a ↦ not-some (k, q) (at (set t n None) m) (empty m a.1) e
    | inr a ↦ a.1 (D.one m n k q p (sym (at-other t n None m a.1) ∙ e) stands)
  ])

  pub entries-removed : KeysDiffer (set t n None) → (j : KeyValue) → j ≢ k → entry (set t n None) j ≡ entry t j
  entries-removed E j ne = entry-like (set t n None) t E D j there back
    where
      there : (m : ℕ) (q : Bool) → at (set t n None) m ≡ Some (j, q) → at t m ≡ Some (j, q)
      there m q e = elim (eqb_tells m n) as (λ _. at t m ≡ Some (j, q)) [
        | inl a ↦ absurd (not-some (j, q) (at (set t n None) m) (empty m a.1) e)
        | inr a ↦ sym (at-other t n None m a.1) ∙ e
      ]

      back : (m : ℕ) (q : Bool) → at t m ≡ Some (j, q) → at (set t n None) m ≡ Some (j, q)
      back m q e = elim (eqb_tells m n) as (λ _. at (set t n None) m ≡ Some (j, q)) [
        | inl a ↦ absurd (ne (key-is j (j, q) (k, p) (sym e ∙ ap (at t) a.1 ∙ stands)))
        | inr a ↦ at-other t n None m a.1 ∙ e
      ]

-- the node of a key that has one
pub entry-present : (t : Standing) (k : KeyValue) → IsSome (entry t k) → (n : Node) × (p : Bool) × (entry t k ≡ Some (n, p))
entry-present t k some = go (entry t k) refl some
  where
    go : (o : Option (Node × Bool)) → entry t k ≡ o → IsSome o → (n : Node) × (p : Bool) × (entry t k ≡ Some (n, p))
    go None e h = absurd (true≢false (sym h))
    go (Some s) e h = (s.0, s.1, e)
