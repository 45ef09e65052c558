-- Walks of a network without cycles are no longer than its live nodes are many.
use Rattle.std.proofs.Common.{◌≡◌, ℕ, List, [], ◌∷◌, IsSome, sym, subst, inl, inr, arith}
use Rattle.lnet_model.specs.Networks.{NetworkValue, Lookup, entry_at, live_count}
use Rattle.lnet_model.specs.Along.{In, IsWalk, end_of, NoCycle, Acyclic}
use Rattle.lnet_model.proofs.Along.{Short}
use Rattle.lnet_model.proofs.Map.{Apart, count_apart}

-- a walk that meets x has a part that ends there
walk_to : (g : Lookup) (n m x : ℕ) (ns : List ℕ) → IsWalk g n (m ∷ ns) → In x (m ∷ ns) → (ps : List ℕ) × IsWalk g n (m ∷ ps) × (end_of m ps ≡ x)
walk_to g n m x [] w (inl e) = ([], w, sym e)
walk_to g n m x [] w (inr i) = absurd i
walk_to g n m x (k ∷ ks) w (inl e) = ([], (w.0, w.1, w.2.0), sym e)
walk_to g n m x (k ∷ ks) w (inr i) = let r = walk_to g m k x ks w.2 i in (k ∷ r.0, (w.0, w.1, r.1), r.2)

walk_apart : (g : Lookup) → NoCycle g → (n : ℕ) (ns : List ℕ) → IsWalk g n ns → Apart (n ∷ ns)
walk_apart g acyclic n [] w = (λ i. i, tt)
walk_apart g acyclic n (m ∷ ns) w = (λ i. let r = walk_to g n m n ns w i in acyclic n m r.0 r.1 r.2, walk_apart g acyclic m ns w.2)

walk_live : (g : Lookup) (n : ℕ) (ns : List ℕ) → IsWalk g n ns → (x : ℕ) → In x (n ∷ ns) → IsSome (g x)
walk_live g n [] w x (inl e) = subst (λ z. IsSome (g z)) (sym e) w
walk_live g n [] w x (inr i) = absurd i
walk_live g n (m ∷ ns) w x (inl e) = subst (λ z. IsSome (g z)) (sym e) w.0
walk_live g n (m ∷ ns) w x (inr i) = walk_live g m ns w.2 x i

pub short_walks : (N : NetworkValue) → Acyclic N → (n : ℕ) → Short (entry_at N) (live_count N) n
unfolding entry_at live_count
short_walks N acyclic n ns w =
    let few = count_apart (n ∷ ns) N.nodes (walk_apart _ acyclic n ns w) (walk_live _ n ns w) in
    omega arith
