-- The entries of a map rise in their numbers.
use Rattle.std.proofs.Common.{◌≡◌, ℕ, suc, ◌<◌, ◌≤◌, Bool, true, false, ◌&&◌, List, [], ◌∷◌, arith, T}
use Rattle.std.specs.Cmp.{ranks}
use Rattle.std.specs.Ordering.{nat_cmp, is_lt, MatchOrdering}
use Rattle.std.specs.declared.cmp.Ordering.TheVariants.{Less, Equal, Greater}
use Rattle.std.specs.FinMap.{FinMap, entries, entries_sorted}
use Rattle.std.specs.FinMap.Entries.{below_all, is_sorted}
use Rattle.lnet_model.specs.Networks.{Entry}
use Rattle.lnet_model.proofs.Rising.{Rising}

first : (a b : Bool) → T (a && b) → T a
first true b p = tt
first false b p = p

second : (a b : Bool) → T (a && b) → T b
second true b p = p
second false b p = absurd p

lt-from : (x y : ℕ) → T (is_lt (nat_cmp x y)) → x < y
lt-from x y h = elim (nat_cmp x y) as (λ r. MatchOrdering r (x < y) (x ≡ y) (y < x) → T (is_lt r) → x < y) [
  | Less ↦ λ m h. m
  | Equal ↦ λ m h. absurd h
  | Greater ↦ λ m h. absurd h
] (ranks x y) h

rising-from : (x a : ℕ) (es : List (ℕ × Entry)) → a ≤ suc x → T (below_all nat_cmp x es) → T (is_sorted nat_cmp es) → Rising a es
rising-from x a [] h below sorted = tt
rising-from x a (e ∷ es) h below sorted =
    let lt = lt-from x e.0 (first _ _ below) in
    let le : suc e.0 ≤ suc e.0 = omega arith in
    (omega arith, rising-from e.0 (suc e.0) es le (first _ _ sorted) (second _ _ sorted))

rising : (es : List (ℕ × Entry)) → T (is_sorted nat_cmp es) → Rising 0 es
rising [] sorted = tt
rising (e ∷ es) sorted = let le : suc e.0 ≤ suc e.0 = omega arith in (omega arith, rising-from e.0 (suc e.0) es le (first _ _ sorted) (second _ _ sorted))

pub entries-rising : (m : FinMap nat_cmp Entry) → Rising 0 (entries m)
entries-rising m = rising (entries m) (entries_sorted m)
