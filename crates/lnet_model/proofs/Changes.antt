-- What stands where after a change, and what a new number does.
use Rattle.std.proofs.Common.{◌≡◌, ◌≢◌, ◌<◌, ℕ, true, false, List, [], ◌∷◌, map, IsSome, None, Some, refl, sym, ap, subst, ◌∙◌, inl, inr}
use Rattle.std.proofs.lemmas.Bool.Decides.{eqb_tells}
use Rattle.lnet_gates.specs.declared.signal.Signal.{Signal}
use Rattle.lnet_model.specs.Networks.{Entry, Constant, NetworkValue, entry_at, fanins_of, IsLive}
use Rattle.lnet_model.specs.Along.{In, fanin_nodes, IsWalk, end_of, Acyclic, IsClosed, over}
use Rattle.lnet_model.specs.Changes.{with_entry, without, AreLive}
use Rattle.lnet_model.specs.Dags.{AreBelow, NUMBERS}
use Rattle.lnet_model.proofs.Along.{Step}
use Rattle.lnet_model.proofs.Map.{insert_here, insert_apart, remove_here, remove_apart}
use Rattle.lnet_model.proofs.Over.{over-apart}

pub with_entry-here : (N : NetworkValue) (k : ℕ) (e : Entry) → entry_at (with_entry N k e) k ≡ Some e
unfolding entry_at with_entry
with_entry-here N k e = insert_here N.nodes k e

pub with_entry-apart : (N : NetworkValue) (k : ℕ) (e : Entry) (q : ℕ) → q ≢ k → entry_at (with_entry N k e) q ≡ entry_at N q
unfolding entry_at with_entry
with_entry-apart N k e q ne = insert_apart N.nodes k e q ne

pub without-here : (N : NetworkValue) (k : ℕ) → entry_at (without N k) k ≡ None
unfolding entry_at without
without-here N k = remove_here N.nodes k

pub without-apart : (N : NetworkValue) (k q : ℕ) → q ≢ k → entry_at (without N k) q ≡ entry_at N q
unfolding entry_at without
without-apart N k q ne = remove_apart N.nodes k q ne

one-entry : {e f : Entry} → Some e ≡ Some f → e ≡ f
one-entry e = cc

-- where something else is entered the constant stands at 0 alone, as before
pub entered-constants : (N : NetworkValue) (k : ℕ) (e : Entry) → (e ≡ Constant → ⊥) → ((n : ℕ) → entry_at N n ≡ Some Constant → n ≡ 0) → (n : ℕ) → entry_at (with_entry N k e) n ≡ Some Constant → n ≡ 0
entered-constants N k e apart old n at = elim (eqb_tells n k) as (λ _. n ≡ 0) [
  | inl p ↦ absurd (apart (one-entry (sym (ap (entry_at (with_entry N k e)) p.1 ∙ with_entry-here N k e) ∙ at)))
  | inr p ↦ old n (sym (with_entry-apart N k e n p.1) ∙ at)
]

pub with-below : (N : NetworkValue) (k : ℕ) (e : Entry) → k < NUMBERS → AreBelow N NUMBERS → AreBelow (with_entry N k e) NUMBERS
with-below N k e lt below n h = elim (eqb_tells n k) as (λ _. n < NUMBERS) [
  | inl p ↦ subst (λ z. z < NUMBERS) (sym p.1) lt
  | inr p ↦ below n (subst IsSome (with_entry-apart N k e n p.1) h)
]

-- ---- a new number k, whose fanins are live

module _ (N : NetworkValue) (k : ℕ) (e : Entry) (closed : IsClosed N) (free : entry_at N k ≡ None) (live : AreLive N (map (λ (s : Signal). s.node.0) (fanins_of e))) where
  live_apart : (m : ℕ) → IsLive N m → m ≢ k
  live_apart m h is = let none : false ≡ true = subst IsSome (ap (entry_at N) is ∙ free) h in cc

  -- each fanin was live before
  fanin_live : (n m : ℕ) → In m (fanin_nodes (entry_at (with_entry N k e) n)) → IsLive N m
  fanin_live n m i =
      elim (eqb_tells n k) as (λ _. IsLive N m) [
        | inl p ↦ live m (subst (λ o. In m (fanin_nodes o)) (ap (entry_at (with_entry N k e)) p.1 ∙ with_entry-here N k e) i)
        | inr p ↦ closed n m (subst (λ o. In m (fanin_nodes o)) (with_entry-apart N k e n p.1) i)
      ]

  -- so a walk that doesn't begin at k was one before
  old_walk : (n : ℕ) (ns : List ℕ) → n ≢ k → IsWalk (entry_at (with_entry N k e)) n ns → IsWalk (entry_at N) n ns
  old_walk n [] ne w = subst IsSome (with_entry-apart N k e n ne) w
  old_walk n (m ∷ ns) ne w =
      (subst IsSome (with_entry-apart N k e n ne) w.0, subst (λ o. In m (fanin_nodes o)) (with_entry-apart N k e n ne) w.1, old_walk m ns (live_apart m (fanin_live n m w.1)) w.2)

  -- the end of a walk of two or more nodes is a fanin
  end_live : (n m : ℕ) (ns : List ℕ) → IsWalk (entry_at (with_entry N k e)) n (m ∷ ns) → IsLive N (end_of m ns)
  end_live n m [] w = fanin_live n m w.1
  end_live n m (l ∷ ns) w = end_live m l ns w.2

  pub add-Acyclic : Acyclic N → Acyclic (with_entry N k e)
  add-Acyclic acyclic n m ns w is = acyclic n m ns (old_walk n (m ∷ ns) (live_apart n (subst (IsLive N) is (end_live n m ns w))) w) is

  pub add-IsClosed : IsClosed (with_entry N k e)
  add-IsClosed n m i = let ne = live_apart m (fanin_live n m i) in subst IsSome (sym (with_entry-apart N k e m ne)) (fanin_live n m i)

  pub add-over : {A : Type 0} (step : Step A) (none : A) → Acyclic N → (n : ℕ) → n ≢ k → over (with_entry N k e) step none n ≡ over N step none n
  add-over step none acyclic = over-apart (with_entry N k e) N k step none (add-Acyclic acyclic) acyclic (with_entry-apart N k e) (λ n ne i. live_apart k (closed n k i) refl)
