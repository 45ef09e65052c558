-- The 24 orders, checked by computation: they are all, they ascend, and each is undone by another.
use Rattle.std.proofs.Common.{◌≡◌, ℕ, ◌+◌, ◌*◌, ◌^◌, ◌<◌, Bool, true, false, cond, List, [], ◌∷◌, length, refl, arith, suc, zero, not, get_or, ltb, eqb}
use mathlib.Core.Bool.{◌&&◌}
use Rattle.std.proofs.lemmas.Bool.{agree_below, agree_below_at, and_parts, eqb-true, ltb-true, false≢true, lt-ltb}
use Rattle.lnet_tables.specs.Bits.{is_set, moved, with_bit, number_by}
use Rattle.lnet_npn.specs.declared.transforms.Transform.{Transform}
use Rattle.lnet_npn.specs.declared.exchanges.Arrangement.{Arrangement}
use Rattle.lnet_npn.specs.declared.exchanges.TheConstants.{ARRANGEMENTS}
use Rattle.lnet_npn.specs.Transforms.{is_order, source_of, undone, place_in, turned}

unfoldable pub orders_of : List Arrangement → List (List ℕ)
orders_of [] = []
orders_of (a ∷ all) = a.order ∷ orders_of all

orders_from : (all : List Arrangement) (k : ℕ) (d : Arrangement) → k < length all → (get_or all k d).order ≡ get_or (orders_of all) k []
unfolding orders_of
orders_from [] k d lt = absurd (omega arith)
orders_from (a ∷ all) zero d lt = refl
orders_from (a ∷ all) (suc k) d lt = orders_from all k d (omega arith)

-- the k-th order
unfoldable pub order_at : ℕ → List ℕ
order_at k = get_or (orders_of ARRANGEMENTS) k []

pub order_is : (k : ℕ) (d : Arrangement) → k < 24 → (get_or ARRANGEMENTS k d).order ≡ order_at k
unfolding order_at
order_is k d lt = orders_from ARRANGEMENTS k d lt

-- ---- all orders are listed
same_list : List ℕ → List ℕ → Bool
same_list [] [] = true
same_list [] (y ∷ ys) = false
same_list (x ∷ xs) [] = false
same_list (x ∷ xs) (y ∷ ys) = eqb x y && same_list xs ys

same_is : (xs ys : List ℕ) → same_list xs ys ≡ true → xs ≡ ys
unfolding same_list
same_is [] [] h = refl
same_is [] (y ∷ ys) h = absurd (false≢true h)
same_is (x ∷ xs) [] h = absurd (false≢true h)
same_is (x ∷ xs) (y ∷ ys) h =
    let p = and_parts _ _ h in
    let e : x ≡ y = eqb-true _ _ p.0 in
    let s : xs ≡ ys = same_is xs ys p.1 in
    cc

listed : List (List ℕ) → List ℕ → Bool
listed [] o = false
listed (p ∷ ps) o = cond (same_list p o) true (listed ps o)

listed_from : (p o : List ℕ) (ps : List (List ℕ)) (b : Bool) → same_list p o ≡ b → cond b true (listed ps o) ≡ true
    → (listed ps o ≡ true → (k : ℕ) × (k < length ps) × (get_or ps k [] ≡ o))
    → (k : ℕ) × (k < suc (length ps)) × (get_or (p ∷ ps) k [] ≡ o)
listed_from p o ps true e h more = (0, omega arith, same_is p o e)
listed_from p o ps false e h more = let m = more h in let lt : m.0 < length ps = m.1 in (suc m.0, omega arith, m.2)

listed_at : (ps : List (List ℕ)) (o : List ℕ) → listed ps o ≡ true → (k : ℕ) × (k < length ps) × (get_or ps k [] ≡ o)
unfolding listed
listed_at [] o h = absurd (false≢true h)
listed_at (p ∷ ps) o h = listed_from p o ps (same_list p o) refl h (listed_at ps o)

known : ℕ → ℕ → ℕ → ℕ → Bool
known a b c d = cond (is_order (a ∷ b ∷ c ∷ d ∷ [])) (listed (orders_of ARRANGEMENTS) (a ∷ b ∷ c ∷ d ∷ [])) true

known3 : ℕ → ℕ → ℕ → Bool
known3 a b c = agree_below (known a b c) (λ d. true) 4

known2 : ℕ → ℕ → Bool
known2 a b = agree_below (known3 a b) (λ d. true) 4

known1 : ℕ → Bool
known1 a = agree_below (known2 a) (λ d. true) 4

all_known : agree_below known1 (λ a. true) 4 ≡ true
unfolding known1 known2 known3 known is_order listed orders_of same_list
all_known = refl

known_at : (a b c d : ℕ) → a < 4 → b < 4 → c < 4 → d < 4 → known a b c d ≡ true
unfolding known1 known2 known3
known_at a b c d la lb lc ld =
    let one : known1 a ≡ true = agree_below_at known1 (λ x. true) 4 a all_known la in
    let two : known2 a b ≡ true = agree_below_at (known2 a) (λ x. true) 4 b one lb in
    let three : known3 a b c ≡ true = agree_below_at (known3 a b) (λ x. true) 4 c two lc in
    agree_below_at (known a b c) (λ x. true) 4 d three ld

four_items : (o : List ℕ) → length o ≡ 4 → o ≡ get_or o 0 0 ∷ get_or o 1 0 ∷ get_or o 2 0 ∷ get_or o 3 0 ∷ []
four_items [] h = absurd (omega arith)
four_items (a ∷ []) h = absurd (omega arith)
four_items (a ∷ (b ∷ [])) h = absurd (omega arith)
four_items (a ∷ (b ∷ (c ∷ []))) h = absurd (omega arith)
four_items (a ∷ (b ∷ (c ∷ (d ∷ [])))) h = refl
four_items (a ∷ (b ∷ (c ∷ (d ∷ (e ∷ es))))) h = absurd (omega arith)

pub record Below4 (o : List ℕ) : Type 0 where
  pub long : length o ≡ 4
  pub at : (i : ℕ) → i < 4 → get_or o i 0 < 4

pub order_below : (o : List ℕ) → is_order o ≡ true → Below4 o
unfolding is_order
order_below o h =
    let p = and_parts _ _ h in
    let q = and_parts _ _ p.1 in
    let r = and_parts _ _ q.0 in
    let s = and_parts _ _ r.1 in
    let t = and_parts _ _ s.1 in
    record { long = eqb-true _ _ p.0; at = go (ltb-true _ _ r.0) (ltb-true _ _ s.0) (ltb-true _ _ t.0) (ltb-true _ _ t.1) } where
      go : get_or o 0 0 < 4 → get_or o 1 0 < 4 → get_or o 2 0 < 4 → get_or o 3 0 < 4 → (i : ℕ) → i < 4 → get_or o i 0 < 4
      go a b c d zero lt = a
      go a b c d (suc zero) lt = b
      go a b c d (suc (suc zero)) lt = c
      go a b c d (suc (suc (suc zero))) lt = d
      go a b c d (suc (suc (suc (suc i)))) lt = absurd (omega arith)

find_order : (o p : List ℕ) → o ≡ p → is_order o ≡ true → cond (is_order p) (listed (orders_of ARRANGEMENTS) p) true ≡ true → listed (orders_of ARRANGEMENTS) o ≡ true
find_order o p e y h = rw e (rw (rw e at y) at h)

pub order_known : (o : List ℕ) → is_order o ≡ true → (k : ℕ) × (k < 24) × (order_at k ≡ o)
unfolding order_at known orders_of
order_known o h =
    let b : Below4 o = order_below o h in
    let k : known (get_or o 0 0) (get_or o 1 0) (get_or o 2 0) (get_or o 3 0) ≡ true =
    known_at _ _ _ _ (b.at 0 (omega arith)) (b.at 1 (omega arith)) (b.at 2 (omega arith)) (b.at 3 (omega arith)) in
    listed_at (orders_of ARRANGEMENTS) o (find_order o _ (four_items o b.long) h k)

-- ---- what holds of each order, of all flips, and of all rows
-- the row that a transform with this order and these flips reads
abbrev pub source_at : List ℕ → ℕ → ℕ → ℕ
source_at o f x = source_of (record { order = o; flips = f; out = false }) x

pub source_is : (t : Transform) (x : ℕ) → source_of t x ≡ source_at t.order t.flips x
unfolding source_of
source_is t x = refl

undoes : List ℕ → ℕ → ℕ → Bool
undoes o f x = eqb (source_at o f (source_at (undone o) (moved f (undone o) 4) x)) x

splits : List ℕ → ℕ → ℕ → Bool
splits o f x = eqb (source_at o f x) (turned f (moved x o 4))

doubles_at : List ℕ → ℕ → ℕ → ℕ → Bool
doubles_at o i f x =
    cond (ltb f (2 ^ i)) (eqb (source_at o f (with_bit x (get_or o i 0) (not (is_set x (get_or o i 0))))) (source_at o (f + 2 ^ i) x)) true

doubles : List ℕ → ℕ → ℕ → Bool
doubles o f x = agree_below (λ i. doubles_at o i f x) (λ i. true) 4

row_fine : List ℕ → ℕ → ℕ → Bool
row_fine o f x = undoes o f x && (splits o f x && doubles o f x)

flips_fine : List ℕ → ℕ → Bool
flips_fine o f = agree_below (row_fine o f) (λ x. true) 16

order_fine : List ℕ → Bool
order_fine o = is_order (undone o) && agree_below (flips_fine o) (λ f. true) 16

all_fine : agree_below (λ k. order_fine (order_at k)) (λ k. true) 24 ≡ true
unfolding order_fine flips_fine row_fine undoes splits doubles doubles_at order_at orders_of is_order undone place_in source_of turned with_bit is_set number_by
all_fine = refl

fine_at : (o : List ℕ) → is_order o ≡ true → order_fine o ≡ true
fine_at o h =
    let m = order_known o h in
    rw (← m.2) (agree_below_at (λ k. order_fine (order_at k)) (λ k. true) 24 m.0 all_fine m.1)

row_at : (o : List ℕ) (f x : ℕ) → is_order o ≡ true → f < 16 → x < 16 → row_fine o f x ≡ true
unfolding order_fine flips_fine
row_at o f x h lf lx =
    let one : flips_fine o f ≡ true = agree_below_at (flips_fine o) (λ f. true) 16 f (and_parts _ _ (fine_at o h)).1 lf in
    agree_below_at (row_fine o f) (λ x. true) 16 x one lx

pub undone_order : (o : List ℕ) → is_order o ≡ true → is_order (undone o) ≡ true
unfolding order_fine
undone_order o h = (and_parts _ _ (fine_at o h)).0

pub undone_row : (o : List ℕ) (f x : ℕ) → is_order o ≡ true → f < 16 → x < 16 → source_at o f (source_at (undone o) (moved f (undone o) 4) x) ≡ x
unfolding row_fine undoes
undone_row o f x h lf lx = eqb-true _ _ (and_parts _ _ (row_at o f x h lf lx)).0

pub split_row : (o : List ℕ) (f x : ℕ) → is_order o ≡ true → f < 16 → x < 16 → source_at o f x ≡ turned f (moved x o 4)
unfolding row_fine splits
split_row o f x h lf lx = eqb-true _ _ (and_parts _ _ (and_parts _ _ (row_at o f x h lf lx)).1).0

pub doubled_row : (o : List ℕ) (i f x : ℕ) → is_order o ≡ true → i < 4 → f < 2 ^ i → f < 16 → x < 16
    → source_at o f (with_bit x (get_or o i 0) (not (is_set x (get_or o i 0)))) ≡ source_at o (f + 2 ^ i) x
unfolding row_fine doubles doubles_at
doubled_row o i f x h li lf l16 lx =
    let d : doubles o f x ≡ true = (and_parts _ _ (and_parts _ _ (row_at o f x h l16 lx)).1).1 in
    let e : doubles_at o i f x ≡ true = agree_below_at (λ i. doubles_at o i f x) (λ i. true) 4 i d li in
    eqb-true _ _ (rw (lt-ltb f (2 ^ i) lf) at e)

-- ---- the orders ascend
abbrev pub order_rank : List ℕ → ℕ
order_rank o = get_or o 3 0 + 4 * (get_or o 2 0 + 4 * (get_or o 1 0 + 4 * get_or o 0 0))

ascends : ℕ → ℕ → Bool
ascends j k = cond (ltb j k) (ltb (order_rank (order_at j)) (order_rank (order_at k))) true

ascends_to : ℕ → Bool
ascends_to j = agree_below (ascends j) (λ k. true) 24

ascend : agree_below ascends_to (λ j. true) 24 ≡ true
unfolding ascends_to ascends order_at orders_of
ascend = refl

pub ascending : (j k : ℕ) → j < k → k < 24 → order_rank (order_at j) < order_rank (order_at k)
unfolding ascends_to ascends
ascending j k lt below =
    let one : ascends_to j ≡ true = agree_below_at ascends_to (λ j. true) 24 j ascend (omega arith) in
    let two : ascends j k ≡ true = agree_below_at (ascends j) (λ k. true) 24 k one below in
    ltb-true _ _ (rw (lt-ltb j k lt) at two)
