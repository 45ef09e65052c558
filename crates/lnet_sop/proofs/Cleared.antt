-- The bits of a number with one of them cleared, and cubes without one of their literals at a row.
use Rattle.std.proofs.Common.{◌≡◌, ℕ, zero, suc, ◌+◌, ◌-◌, ◌*◌, ◌/◌, ◌%◌, ◌^◌, ◌<◌, ◌≤◌, Bool, true, false, cond, refl, sym, ◌∙◌, ap, subst, arith, ◌==◌, inl, inr, add-mul}
use Rattle.std.specs.Prelude.{◌&&◌}
use Rattle.std.specs.Int.{bit_at}
use mathlib.Core.Bool.{beq}
use Rattle.std.proofs.lemmas.Nat.{div-add-mod', mod_below, pow_pos}
use Rattle.std.proofs.lemmas.Nat.Bits.{bit_at_cat_low, bit_at_cat_high, bit_at_lowest, bit_at-suc}
use Rattle.std.proofs.lemmas.Bool.{cases_lt, cases_eq, false≢true, eqb-true}
use Rattle.lnet_tables.specs.Bits.{is_set, with_bit}
use Rattle.lnet_tables.proofs.RowNumbers.{bit_within}
use Rattle.lnet_sop.specs.declared.cover.Cube.{Cube}
use Rattle.lnet_sop.specs.Covers.{agrees, holds, IsCube}
use Rattle.lnet_sop.specs.Irredundant.{without}
use Rattle.lnet_sop.proofs.Without.{cleared_le}
use Rattle.lnet_sop.proofs.CubeRows.{holds_like, holds_more, and_true}

-- a is the number above bit i, l the number below it
cleared_form : (k i : ℕ) → with_bit k i false ≡ (k / 2 ^ i - bit_at k i) * 2 ^ i + k % 2 ^ i
unfolding with_bit
cleared_form k i =
    let a : ℕ = k / 2 ^ i in
    let b : a ≡ (a - bit_at k i) + bit_at k i = omega arith in
    let e : a * 2 ^ i ≡ (a - bit_at k i) * 2 ^ i + bit_at k i * 2 ^ i = ap (λ x. x * 2 ^ i) b ∙ add-mul (a - bit_at k i) (bit_at k i) (2 ^ i) in
    omega (arith, e, div-add-mod' k (2 ^ i))

bit_high : (a i l j : ℕ) → l < 2 ^ i → i ≤ j → bit_at (a * 2 ^ i + l) j ≡ bit_at a (j - i)
bit_high a i l j lt le = bit_at_cat_high a i l j lt le

pub bit_cleared : (k i : ℕ) → bit_at (with_bit k i false) i ≡ 0
bit_cleared k i =
    let z : i - i ≡ 0 = omega arith in
    ap (λ x. bit_at x i) (cleared_form k i) ∙ bit_high (k / 2 ^ i - bit_at k i) i (k % 2 ^ i) i (mod_below k (2 ^ i) (pow_pos i)) (omega arith)
    ∙ ap (λ j. bit_at (k / 2 ^ i - bit_at k i) j) z ∙ bit_at_lowest (k / 2 ^ i - bit_at k i) ∙ omega arith

later : (a m : ℕ) → bit_at (a - a % 2) (suc m) ≡ bit_at a (suc m)
later a m = bit_at-suc (a - a % 2) m ∙ ap (λ x. bit_at x m) (let e : (a - a % 2) / 2 ≡ a / 2 = omega arith in e) ∙ sym (bit_at-suc a m)

pub bit_kept : (k i j : ℕ) → (j ≡ i → ⊥) → bit_at (with_bit k i false) j ≡ bit_at k j
bit_kept k i j ne =
    let l : ℕ = k % 2 ^ i in
    let a : ℕ = k / 2 ^ i in
    let whole : k ≡ a * 2 ^ i + l = sym (div-add-mod' k (2 ^ i)) in
    elim (cases_lt j i) [
      | inl low ↦ ap (λ x. bit_at x j) (cleared_form k i) ∙ bit_at_cat_low (a - bit_at k i) i l j low ∙ sym (ap (λ x. bit_at x j) whole ∙ bit_at_cat_low a i l j low)
      | inr high ↦
          let s : j - i ≡ suc (j - i - 1) = let d : i < j = elim (cases_lt i j) [ inl x ↦ x | inr y ↦ absurd (ne (omega arith)) ] in omega arith in
          let lt : l < 2 ^ i = mod_below k (2 ^ i) (pow_pos i) in
          ap (λ x. bit_at x j) (cleared_form k i) ∙ bit_high (a - bit_at k i) i l j lt high ∙ ap (λ m. bit_at (a - bit_at k i) m) s
          ∙ later a (j - i - 1) ∙ sym (ap (λ x. bit_at x j) whole ∙ bit_high a i l j lt high ∙ ap (λ m. bit_at a m) s)
    ]

pub set_cleared : (k i : ℕ) → is_set (with_bit k i false) i ≡ false
unfolding is_set
set_cleared k i = ap (λ x. x == 1) (bit_cleared k i)

pub set_kept : (k i j : ℕ) → (j ≡ i → ⊥) → is_set (with_bit k i false) j ≡ is_set k j
unfolding is_set
set_kept k i j ne = ap (λ x. x == 1) (bit_kept k i j ne)

-- a set bit makes the number greater
pub cleared_less : (k i : ℕ) → is_set k i ≡ true → with_bit k i false < k
unfolding is_set with_bit
cleared_less k i h = go (bit_at k i) refl h where
  go : (b : ℕ) → b ≡ bit_at k i → (b == 1) ≡ true → (k - bit_at k i * 2 ^ i) + 0 * 2 ^ i < k
  go b e t =
      let one : bit_at k i ≡ 1 = sym e ∙ eqb-true b 1 t in
      let some : 1 * 2 ^ i ≤ k = subst (λ (x : ℕ). x * 2 ^ i ≤ k) one (bit_within k i) in
      subst (λ (x : ℕ). (k - x * 2 ^ i) + 0 * 2 ^ i < k) (sym one) (omega (arith, some, pow_pos i))

-- ---- cubes
pub without_cube : (n i : ℕ) (c : Cube) → IsCube n c → IsCube n (without i c)
without_cube n i c h = record {
  care = omega (arith, cleared_le c.care i, h.care);
  value = omega (arith, cleared_le c.value i, h.value);
  within = λ j s. elim (cases_eq j i) [
    | inl e ↦ absurd (false≢true (sym (set_cleared c.value i) ∙ ap (λ k. is_set (with_bit c.value i false) k) (sym e) ∙ s))
    | inr ne ↦ set_kept c.care i j ne ∙ h.within j (sym (set_kept c.value i j ne) ∙ s)
  ];
}

agrees_kept : (c : Cube) (i r j : ℕ) → (j ≡ i → ⊥) → agrees c r j ≡ agrees (without i c) r j
agrees_kept c i r j ne =
    sym (ap (λ t. cond t (beq (is_set (with_bit c.value i false) j) (is_set r j)) true) (set_kept c.care i j ne)
    ∙ ap (λ t. cond (is_set c.care j) (beq t (is_set r j)) true) (set_kept c.value i j ne))

swap_and : (x a b : Bool) → ((x && b) && a) ≡ ((x && a) && b)
swap_and true true true = refl
swap_and true true false = refl
swap_and true false true = refl
swap_and true false false = refl
swap_and false a b = refl

-- a cube holds where its literal and the cube without it do
pub holds_without : (n i : ℕ) (c : Cube) (r : ℕ) → i < n → is_set c.care i ≡ true → holds n c r ≡ (holds n (without i c) r && beq (is_set c.value i) (is_set r i))
holds_without zero i c r lt s = absurd (omega arith)
holds_without (suc n) i c r lt s =
    let d : Cube = without i c in
    elim (cases_lt i n) [
      | inl l ↦
          holds_more n c r ∙ ap (λ t. t && agrees c r n) (holds_without n i c r l s)
          ∙ ap (λ t. (holds n d r && beq (is_set c.value i) (is_set r i)) && t) (agrees_kept c i r n (λ e. absurd (omega arith)))
          ∙ swap_and (holds n d r) (agrees d r n) (beq (is_set c.value i) (is_set r i)) ∙ ap (λ t. t && beq (is_set c.value i) (is_set r i)) (sym (holds_more n d r))
      | inr g ↦
          let same : n ≡ i = omega arith in
          subst (λ (k : ℕ). is_set c.care k ≡ true → holds (suc n) c r ≡ (holds (suc n) (without k c) r && beq (is_set c.value k) (is_set r k))) same
          (λ t.
          let off : agrees (without n c) r n ≡ true = ap (λ b. cond b (beq (is_set (with_bit c.value n false) n) (is_set r n)) true) (set_cleared c.care n) in
          let on : agrees c r n ≡ beq (is_set c.value n) (is_set r n) = ap (λ b. cond b (beq (is_set c.value n) (is_set r n)) true) t in
          holds_more n c r ∙ ap (λ b. holds n c r && b) on
          ∙ ap (λ b. b && beq (is_set c.value n) (is_set r n)) (holds_like n c (without n c) r r (λ j l. agrees_kept c n r j (λ e. absurd (omega arith)))
          ∙ sym (holds_more n (without n c) r ∙ ap (λ b. holds n (without n c) r && b) off ∙ and_true (holds n (without n c) r))))
          s
    ]
