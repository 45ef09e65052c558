-- As many numbers are live as there are numbers below a bound, at most.
use Rattle.std.proofs.Common.{ℕ, suc, ◌+◌, ◌<◌, ◌≤◌, List, [], ◌∷◌, length, IsSome, refl, sym, subst, ◌∙◌, inl, inr, arith, T}
use Rattle.std.specs.Ordering.{nat_cmp}
use Rattle.std.specs.FinMap.{entries, get-entries, entries_sorted, len-entries}
use Rattle.std.specs.FinMap.Entries.{is_sorted}
use Rattle.lnet_model.specs.Networks.{Entry, NetworkValue, entry_at, live_count}
use Rattle.lnet_model.specs.Levels.{level}
use Rattle.lnet_model.specs.Dags.{AreBelow}
use Rattle.lnet_model.proofs.Levels.{level-small}
use Rattle.lnet_views.proofs.Parents.{InPairs, first, second, above, found}

between : (es : List (ℕ × Entry)) (a b : ℕ) → T (is_sorted nat_cmp es) → a ≤ b → ((e : ℕ × Entry) → InPairs e es → a ≤ e.0) → ((e : ℕ × Entry) → InPairs e es → e.0 < b) → length es + a ≤ b
between [] a b s h low high = let k = h in omega arith
between (e ∷ es) a b s h low high =
    let l = low e (inl refl) in
    let u = high e (inl refl) in
    let k = between es (suc e.0) b (second _ _ s) (omega arith) (λ f i. let t = above e.0 es (first _ _ s) f i in omega arith) (λ f i. high f (inr i)) in
    omega arith

pub live-below : (N : NetworkValue) (r : ℕ) → AreBelow N r → live_count N ≤ r
unfolding live_count entry_at
live-below N r below =
    let k = between (entries N.nodes) 0 r (entries_sorted N.nodes) (omega arith) (λ e i. omega arith) (λ e i. below e.0 (subst IsSome (sym (get-entries N.nodes e.0 ∙ found (entries N.nodes) (entries_sorted N.nodes) e i)) refl)) in
    let l = len-entries N.nodes in
    omega arith

-- so no level is above the bound
pub level-low : (N : NetworkValue) (r : ℕ) → AreBelow N r → (n : ℕ) → level N n ≤ r
level-low N r below n = let h = level-small N n in let k = live-below N r below in omega arith
