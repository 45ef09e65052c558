-- The function of a recipe, by the operands' values.
use Rattle.std.proofs.Common.{◌≡◌, ℕ, suc, ◌+◌, ◌*◌, ◌/◌, ◌%◌, ◌^◌, ◌<◌, Bool, true, false, cond, List, [], ◌∷◌, map, length, eqb, refl, sym, ap, subst, ◌∙◌, add-zero, arith}
use Rattle.std.specs.List.{range_with_len}
use Rattle.std.specs.Int.{bit_at}
use Rattle.std.proofs.lemmas.Nat.Bits.{bit_at-suc, bit_at_lowest}
use Rattle.lnet_tables.specs.Bits.{Rows, row, is_set}
use Rattle.lnet_tables.specs.Inverse.{row_inside}
use Rattle.lnet_tables.specs.Recipes.{RecipeValue, run, lit_value, leaf_values, root_value, sim}
use Rattle.lnet_gates.specs.declared.gate.Op.{Op}
use Rattle.lnet_gates.specs.Gates.{row_of, operate}
use Rattle.lnet_gates.specs.Plans.{operands_at, op_rows}
use Rattle.lnet_gates.specs.Lawful.LutTables.{row-below}

low-bit : (b : Bool) (x : ℕ) → eqb ((cond b 1 0 + 2 * x) % 2) 1 ≡ b
low-bit true x = let e : (1 + 2 * x) % 2 ≡ 1 = omega arith in ap (λ y. eqb y 1) e
low-bit false x = let e : (0 + 2 * x) % 2 ≡ 0 = omega arith in ap (λ y. eqb y 1) e

high-bits : (b : Bool) (x : ℕ) → (cond b 1 0 + 2 * x) / 2 ≡ x
high-bits true x = omega arith
high-bits false x = omega arith

first-set : (b : Bool) (bs : List Bool) → is_set (row_of (b ∷ bs)) 0 ≡ b
unfolding is_set
first-set b bs = ap (λ x. eqb x 1) (bit_at_lowest (row_of (b ∷ bs))) ∙ low-bit b (row_of bs)

rest-set : (b : Bool) (bs : List Bool) (i : ℕ) → is_set (row_of (b ∷ bs)) (i + 1) ≡ is_set (row_of bs) i
unfolding is_set
rest-set b bs i =
    let e : i + 1 ≡ suc i = omega arith in
    ap (λ z. eqb (bit_at (row_of (b ∷ bs)) z) 1) e
    ∙ ap (λ x. eqb x 1) (bit_at-suc (row_of (b ∷ bs)) i)
    ∙ ap (λ z. eqb (bit_at z i) 1) (high-bits b (row_of bs))

read-from : (f : ℕ → Bool) (a : ℕ) (bs : List Bool) → ((i : ℕ) → f (a + i) ≡ is_set (row_of bs) i) → map f (range_with_len a (length bs)) ≡ bs
read-from f a [] h = refl
read-from f a (b ∷ bs) h =
    let first : f a ≡ b = ap f (sym (add-zero a)) ∙ h 0 ∙ first-set b bs in
    let rest : map f (range_with_len (a + 1) (length bs)) ≡ bs =
    read-from f (a + 1) bs (λ i. (let e : a + 1 + i ≡ a + (i + 1) = omega arith in ap f e) ∙ h (i + 1) ∙ rest-set b bs i) in
    λ i. first i ∷ rest i

-- the operands at the row of these values are these values
pub operands-of-row : (bs : List Bool) → operands_at (length bs) (row_of bs) ≡ bs
operands-of-row bs = read-from (is_set (row_of bs)) 0 bs (λ i. let e : 0 + i ≡ i = omega arith in ap (is_set (row_of bs)) e)

root-on : (r : RecipeValue) (bs : List Bool) → r.leaves ≡ length bs → root_value r (row_of bs) ≡ lit_value (run r.steps (false ∷ bs)) r.root
unfolding leaf_values
root-on r bs leaves = ap (λ vs. lit_value (run r.steps (false ∷ vs)) r.root) (ap (λ n. operands_at n (row_of bs)) leaves ∙ operands-of-row bs)

-- a recipe whose table is the operation's computes the operation
pub recipe-computes : (op : Op) (r : RecipeValue) (bs : List Bool) → r.leaves ≡ length bs → sim r ≡ op_rows op (length bs) → lit_value (run r.steps (false ∷ bs)) r.root ≡ operate op bs
recipe-computes op r bs leaves table =
    let inside : row_of bs < 2 ^ length bs = row-below bs in
    sym (root-on r bs leaves)
    ∙ sym (row_inside r.leaves (root_value r) (row_of bs) (subst (λ n. row_of bs < 2 ^ n) (sym leaves) inside))
    ∙ ap (λ (t : Rows). row t (row_of bs)) table
    ∙ row_inside (length bs) (λ k. operate op (operands_at (length bs) k)) (row_of bs) inside
    ∙ ap (operate op) (operands-of-row bs)
