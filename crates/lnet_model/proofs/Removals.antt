-- What goes makes no cycle, and what no gate reads changes nothing elsewhere as it goes.
use Rattle.std.proofs.Common.{◌≡◌, ◌≢◌, ℕ, true, false, List, [], ◌∷◌, IsSome, None, Some, refl, sym, ap, subst, ◌∙◌}
use Rattle.lnet_model.specs.Networks.{NetworkValue, entry_at, IsLive}
use Rattle.lnet_model.specs.Along.{In, fanin_nodes, IsWalk, Acyclic, IsClosed, over}
use Rattle.lnet_model.specs.Changes.{without}
use Rattle.lnet_model.specs.Fanouts.{IsParent}
use Rattle.lnet_model.proofs.Along.{Step}
use Rattle.lnet_model.proofs.Over.{over-apart}
use Rattle.lnet_model.proofs.Changes.{without-here, without-apart}

-- what is live after k went isn't k
pub left-apart : (N : NetworkValue) (k n : ℕ) → IsLive (without N k) n → n ≢ k
left-apart N k n live e = let none : false ≡ true = subst IsSome (ap (entry_at (without N k)) e ∙ without-here N k) live in cc

pub left-live : (N : NetworkValue) (k n : ℕ) → IsLive (without N k) n → IsLive N n
left-live N k n live = subst IsSome (without-apart N k n (left-apart N k n live)) live

-- a walk of what is left was one before
pub walk-before : (N : NetworkValue) (k n : ℕ) (ns : List ℕ) → IsWalk (entry_at (without N k)) n ns → IsWalk (entry_at N) n ns
walk-before N k n [] w = left-live N k n w
walk-before N k n (m ∷ ns) w = (left-live N k n w.0, subst (λ o. In m (fanin_nodes o)) (without-apart N k n (left-apart N k n w.0)) w.1, walk-before N k m ns w.2)

pub remove-Acyclic : (N : NetworkValue) (k : ℕ) → Acyclic N → Acyclic (without N k)
remove-Acyclic N k acyclic n m ns w is = acyclic n m ns (walk-before N k n (m ∷ ns) w) is

-- where no gate reads k, what is left still has its fanins
pub remove-IsClosed : (N : NetworkValue) (k : ℕ) → IsClosed N → ((p : ℕ) → IsParent N k p → ⊥) → IsClosed (without N k)
remove-IsClosed N k closed unread n m i = subst IsSome (sym (without-apart N k m apart)) (closed n m here)
  where
    live_of : (n m : ℕ) → In m (fanin_nodes (entry_at (without N k) n)) → IsLive (without N k) n
    live_of n m = elim (entry_at (without N k) n) as (λ o. In m (fanin_nodes o) → IsSome o) [ None ↦ λ h. absurd h | Some e ↦ λ _. refl ]

    here : In m (fanin_nodes (entry_at N n))
    here = subst (λ o. In m (fanin_nodes o)) (without-apart N k n (left-apart N k n (live_of n m i))) i

    apart : m ≢ k
    apart e = unread n (subst (λ z. In z (fanin_nodes (entry_at N n))) e here)

pub remove-over : {A : Type 0} (N : NetworkValue) (k : ℕ) (step : Step A) (none : A) → Acyclic N → ((p : ℕ) → IsParent N k p → ⊥) → (n : ℕ) → n ≢ k → over (without N k) step none n ≡ over N step none n
remove-over N k step none acyclic unread n ne = over-apart (without N k) N k step none (remove-Acyclic N k acyclic) acyclic (without-apart N k) (λ q _ i. unread q i) n ne
