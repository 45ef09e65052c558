-- All tables of a class have one least table.
use Rattle.std.proofs.Common.{◌≡◌, ℕ, ◌<◌, ◌≤◌, Bool, true, false, List, [], ◌∷◌, length, refl, sym, ◌∙◌, ap, arith, get_or, suc, zero}
use Rattle.std.proofs.lemmas.Bool.{agree_below, agree_below_at}
use Rattle.lnet_tables.specs.Bits.{Rows, row, by_rows, is_set, number_by, bit_xor2}
use Rattle.lnet_tables.specs.Inverse.{row_inside}
use Rattle.lnet_tables.proofs.RowNumbers.{number_below}
use Rattle.lnet_tables.proofs.Ops.{same_rows}
use Rattle.lnet_tables.proofs.Rowwise.{rows_long}
use Rattle.lnet_npn.specs.declared.transforms.Transform.{Transform}
use Rattle.lnet_npn.specs.Transforms.{is_order, source_of, IsTransform, inverse_of, transformed, number_of, IsOfClass, IsLeastOf}
use Rattle.lnet_npn.proofs.Orders.{order_below, order_known, order_at, orders_of}
use Rattle.lnet_npn.proofs.Images.{set_inside, same_number, source_below, transformed_back, inverse_lawful}

-- ---- one transform after another
-- the order of first s, then t
after_order : List ℕ → List ℕ → List ℕ
after_order s t = get_or t (get_or s 0 0) 0 ∷ get_or t (get_or s 1 0) 0 ∷ get_or t (get_or s 2 0) 0 ∷ get_or t (get_or s 3 0) 0 ∷ []

-- the transform that first s and then t make
pub after : Transform → Transform → Transform
after s t = record {
  order = after_order s.order t.order;
  flips = number_by (λ i. bit_xor2 (is_set s.flips i) (is_set t.flips (get_or s.order i 0))) 4;
  out = bit_xor2 t.out s.out;
}

order_test : ℕ → ℕ → Bool
order_test j k = is_order (after_order (order_at j) (order_at k))

order_tests : ℕ → Bool
order_tests j = agree_below (order_test j) (λ k. true) 24

orders_checked : agree_below order_tests (λ j. true) 24 ≡ true
unfolding order_tests order_test after_order order_at orders_of
orders_checked = refl

after_is_order : (s t : List ℕ) → is_order s ≡ true → is_order t ≡ true → is_order (after_order s t) ≡ true
unfolding order_tests order_test
after_is_order s t hs ht =
    let m = order_known s hs in
    let n = order_known t ht in
    let one : order_tests m.0 ≡ true = agree_below_at order_tests (λ j. true) 24 m.0 orders_checked m.1 in
    let two : is_order (after_order (order_at m.0) (order_at n.0)) ≡ true = agree_below_at (order_test m.0) (λ k. true) 24 n.0 one n.1 in
    ap (λ o. is_order (after_order o t)) (sym m.2) ∙ ap (λ o. is_order (after_order (order_at m.0) o)) (sym n.2) ∙ two

pub after_lawful : (s t : Transform) → IsTransform s → IsTransform t → IsTransform (after s t)
unfolding after
after_lawful s t hs ht = record { order = after_is_order s.order t.order hs.order ht.order; flips = number_below _ 4 }

after_place : (s t : List ℕ) (i : ℕ) → i < 4 → get_or (after_order s t) i 0 ≡ get_or t (get_or s i 0) 0
unfolding after_order
after_place s t zero lt = refl
after_place s t (suc zero) lt = refl
after_place s t (suc (suc zero)) lt = refl
after_place s t (suc (suc (suc zero))) lt = refl
after_place s t (suc (suc (suc (suc i)))) lt = absurd (omega arith)

three_bits : (a b x : Bool) → bit_xor2 (bit_xor2 a b) x ≡ bit_xor2 a (bit_xor2 b x)
three_bits true true true = refl
three_bits true true false = refl
three_bits true false x = refl
three_bits false b x = refl

after_source : (s t : Transform) (x : ℕ) → IsTransform s → source_of (after s t) x ≡ source_of s (source_of t x)
unfolding after source_of
after_source s t x hs =
    same_number _ _ 4 (λ i lt.
    let o : get_or s.order i 0 < 4 = (order_below s.order hs.order).at i lt in
    ap (λ b. bit_xor2 b (is_set x (get_or (after_order s.order t.order) i 0))) (set_inside _ 4 i lt)
    ∙ ap (λ k. bit_xor2 (bit_xor2 (is_set s.flips i) (is_set t.flips (get_or s.order i 0))) (is_set x k)) (after_place s.order t.order i lt)
    ∙ three_bits (is_set s.flips i) (is_set t.flips (get_or s.order i 0)) _
    ∙ ap (bit_xor2 (is_set s.flips i)) (sym (set_inside _ 4 (get_or s.order i 0) o)))

pub after_makes : (s t : Transform) (a : Rows) → IsTransform s → transformed t (transformed s a) ≡ transformed (after s t) a
unfolding after
after_makes s t a hs =
    same_rows 4 _ _ (λ x lt.
    ap (bit_xor2 t.out) (row_inside 4 _ (source_of t x) (source_below t x))
    ∙ sym (three_bits t.out s.out (row a (source_of s (source_of t x))))
    ∙ ap (λ y. bit_xor2 (bit_xor2 t.out s.out) (row a y)) (sym (after_source s t x hs)))

-- ---- classes
pub in_class : (a b c : Rows) → IsOfClass a b → IsOfClass b c → IsOfClass a c
in_class a b c p q = record {
  by = after p.by q.by;
  lawful = after_lawful p.by q.by p.lawful q.lawful;
  makes = q.makes ∙ ap (transformed q.by) p.makes ∙ after_makes p.by q.by a p.lawful;
}

pub class_back : (a b : Rows) → a.vars ≡ 4 → length a.bits ≡ 16 → IsOfClass a b → IsOfClass b a
class_back a b v long p = record {
  by = inverse_of p.by;
  lawful = inverse_lawful p.by p.lawful;
  makes = sym (ap (transformed (inverse_of p.by)) p.makes ∙ transformed_back p.by a p.lawful v long);
}

least_under : (a b l m : Rows) → IsOfClass a b → IsLeastOf a l → IsLeastOf b m → number_of l ≤ number_of m
least_under a b l m p hl hm =
    let q : IsOfClass a m = in_class a b m p hm.here in
    rw q.makes (hl.least q.by q.lawful)

-- a table that a transform makes is told by its number
table_told : (a b : Transform) (x y : Rows) → number_of (transformed a x) ≡ number_of (transformed b y) → transformed a x ≡ transformed b y
table_told a b x y e =
    same_rows 4 _ _ (λ r lt.
    sym (row_inside 4 _ r lt) ∙ sym (set_inside (row (transformed a x)) 16 r lt)
    ∙ ap (λ n. is_set n r) e
    ∙ set_inside (row (transformed b y)) 16 r lt ∙ row_inside 4 _ r lt)

-- the tables of a class have one least table
pub one_least : (a b l m : Rows) → a.vars ≡ 4 → length a.bits ≡ 16 → IsOfClass a b → IsLeastOf a l → IsLeastOf b m → l ≡ m
one_least a b l m v long p hl hm =
    let up : number_of l ≤ number_of m = least_under a b l m p hl hm in
    let down : number_of m ≤ number_of l = least_under b a m l (class_back a b v long p) hm hl in
    let e : number_of l ≡ number_of m = omega arith in
    hl.here.makes ∙ table_told hl.here.by hm.here.by a b (ap number_of (sym hl.here.makes) ∙ e ∙ ap number_of hm.here.makes) ∙ sym hm.here.makes

-- the same for a table that a transform makes of one of four variables
pub least_shared : (a l : Rows) (n : ℕ) → a ≡ by_rows 4 (is_set n) → IsLeastOf a l → (t : Transform) (m : Rows) → IsTransform t → IsLeastOf (transformed t a) m → l ≡ m
least_shared a l n e hl t m h hm =
    one_least a (transformed t a) l m (ap (λ (r : Rows). r.vars) e) (ap (λ (r : Rows). length r.bits) e ∙ rows_long 4 (is_set n))
    (record { by = t; lawful = h; makes = refl }) hl hm
