-- A table transformed by steps: its flips first, then its order, then the complement of its value.
use Rattle.std.proofs.Common.{◌≡◌, ℕ, ◌<◌, true, false, List, ◌++◌, length, replicate, sym, ◌∙◌, ap, arith, get_or}
use Rattle.std.proofs.lemmas.List.{get_or_append_left}
use Rattle.lnet_tables.specs.Bits.{Rows, row, by_rows, is_set, moved, bit_xor2, permute_rows, not_rows}
use Rattle.lnet_tables.specs.Inverse.{row_inside}
use Rattle.lnet_tables.proofs.RowNumbers.{number_below}
use Rattle.lnet_tables.proofs.Ops.{same_rows}
use Rattle.lnet_tables.proofs.Agree.{not_by}
use Rattle.lnet_npn.specs.declared.transforms.Transform.{Transform}
use Rattle.lnet_npn.specs.Transforms.{source_of, turned, IsTransform, transformed, number_of}
use Rattle.lnet_npn.proofs.Images.{set_inside, same_number}
use Rattle.lnet_npn.proofs.Orders.{source_is, split_row}

turned_below : (f x : ℕ) → turned f x < 16
unfolding turned
turned_below f x = number_below _ 4

pub ordered_rows : (t : Transform) (a : Rows) (w : ℕ) (p : List ℕ) → IsTransform t
    → ((x : ℕ) → x < 16 → is_set w x ≡ is_set (number_of a) (turned t.flips x))
    → ((i : ℕ) → i < 4 → get_or p i 0 ≡ get_or t.order i 0)
    → permute_rows (by_rows 4 (is_set w)) p ≡ by_rows 4 (λ x. row a (source_of t x))
ordered_rows t a w p h flips order =
    same_rows 4 _ _ (λ x lt.
    let m : moved x p 4 ≡ moved x t.order 4 = same_number _ _ 4 (λ i l. ap (is_set x) (order i l)) in
    row_inside 4 (is_set w) (moved x p 4) (number_below _ 4)
    ∙ ap (is_set w) m
    ∙ flips (moved x t.order 4) (number_below _ 4)
    ∙ set_inside (row a) 16 (turned t.flips (moved x t.order 4)) (turned_below _ _)
    ∙ ap (row a) (sym (source_is t x ∙ split_row t.order t.flips x h.order h.flips lt)))

pub padded_same : (order p : List ℕ) → length order ≡ 4 → p ≡ order ++ replicate 6 0 → (i : ℕ) → i < 4 → get_or p i 0 ≡ get_or order i 0
padded_same order p long e i lt = ap (λ (l : List ℕ). get_or l i 0) e ∙ get_or_append_left order (replicate 6 0) 0 i (omega arith)

pub plain_is : (t : Transform) (a : Rows) → t.out ≡ false → by_rows 4 (λ x. row a (source_of t x)) ≡ transformed t a
plain_is t a e = ap (λ b. by_rows 4 (λ x. bit_xor2 b (row a (source_of t x)))) (sym e)

pub complement_is : (t : Transform) (a : Rows) → t.out ≡ true → not_rows (by_rows 4 (λ x. row a (source_of t x))) ≡ transformed t a
complement_is t a e = not_by 4 _ ∙ ap (λ b. by_rows 4 (λ x. bit_xor2 b (row a (source_of t x)))) (sym e)
