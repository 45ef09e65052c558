-- Two bits of a row's number exchanged, within one word.
use Rattle.std.proofs.Common.{◌≡◌, ℕ, ◌+◌, ◌-◌, ◌*◌, ◌^◌, ◌/◌, ◌%◌, ◌<◌, Bool, true, false, cond, refl, sym, ◌∙◌, ap, arith, suc, zero, inl, inr, ◌==◌, not, bit_and, bit_or, max, eqb, leb, ltb}
use mathlib.Core.Bool.{◌&&◌, ◌||◌}
use Rattle.std.specs.Int.{bit_not, w64}
use Rattle.std.proofs.lemmas.Nat.{or_lt, and_le_l}
use Rattle.std.proofs.lemmas.Nat.Bits.{bit_at-lt, bit_at_or}
use Rattle.std.proofs.lemmas.Bool.{cases_lt, agree_below, agree_below_at, and_parts, eqb-true, lt-ltb, le-leb, lt-leb, false≢true}
use Rattle.lnet_tables.specs.Bits.{is_set, with_bit, swapped}
use Rattle.lnet_tables.proofs.Ops.{set_and, set_not}
use Rattle.lnet_tables.proofs.WordBits.{shl_low, shl_high, shr_bit}

test_or : (x y z : ℕ) → x < 2 → y < 2 → z ≡ max x y → (z == 1) ≡ ((x == 1) || (y == 1))
test_or zero zero z hx hy e = rw e refl
test_or zero (suc zero) z hx hy e = rw e refl
test_or (suc zero) zero z hx hy e = rw e refl
test_or (suc zero) (suc zero) z hx hy e = rw e refl
test_or (suc (suc x)) y z hx hy e = absurd (omega arith)
test_or x (suc (suc y)) z hx hy e = absurd (omega arith)

pub set_or : (a b i : ℕ) → is_set (bit_or a b) i ≡ (is_set a i || is_set b i)
unfolding is_set
set_or a b i = test_or _ _ _ (bit_at-lt a i) (bit_at-lt b i) (bit_at_or a b i)

pub set_shl : (n d b : ℕ) → b < 64 → is_set (n * 2 ^ d % 18446744073709551616) b ≡ (leb d b && is_set n (b - d))
unfolding is_set
set_shl n d b h =
    elim (cases_lt b d) [
      | inl lt ↦ rw (lt-leb d b lt, shl_low n d b h lt) refl
      | inr ge ↦ rw (le-leb d b ge, shl_high n d b h ge) refl
    ]

pub set_shr : (n d b : ℕ) → is_set (n / 2 ^ d) b ≡ is_set n (b + d)
unfolding is_set
set_shr n d b = ap (λ k. k == 1) (shr_bit n d b)

-- where the row at place b of the answer comes from
unfoldable pub spot : ℕ → ℕ → ℕ → Bool
spot i j b =
    let d : ℕ = 2 ^ j - 2 ^ i in
    let fell : Bool = leb d b && (is_set (b - d) i && not (is_set (b - d) j)) in
    cond (is_set b i && not (is_set b j))
    (ltb (b + d) 64 && (eqb (swapped b i j) (b + d) && not fell))
    (cond fell (eqb (swapped b i j) (b - d)) (eqb (swapped b i j) b))

unfoldable pub spots : ℕ → ℕ → Bool
spots i j = cond (ltb i j) (agree_below (spot i j) (λ b. true) 64) true

unfoldable pub all_spots : ℕ → Bool
all_spots i = agree_below (spots i) (λ j. true) 6

checked : agree_below all_spots (λ i. true) 6 ≡ true
unfolding all_spots spots spot is_set with_bit swapped
checked = refl

pub spot_at : (i j b : ℕ) → i < j → j < 6 → b < 64 → spot i j b ≡ true
unfolding all_spots spots
spot_at i j b lt six h =
    let one : all_spots i ≡ true = agree_below_at all_spots (λ k. true) 6 i checked (omega arith) in
    let two : spots i j ≡ true = agree_below_at (spots i) (λ k. true) 6 j one six in
    let three : cond (ltb i j) (agree_below (spot i j) (λ k. true) 64) true ≡ true = two in
    agree_below_at (spot i j) (λ k. true) 64 b (rw (lt-ltb i j lt) at three) h

and_false : (x : Bool) → (x && false) ≡ false
and_false true = refl
and_false false = refl

and_true : (x : Bool) → (x && true) ≡ x
and_true true = refl
and_true false = refl

or_false : (x : Bool) → (x || false) ≡ x
or_false true = refl
or_false false = refl

not_not : (x : Bool) → not (not x) ≡ x
not_not true = refl
not_not false = refl

turn_and : (l g m : Bool) → (l && (g && m)) ≡ ((l && m) && g)
turn_and true true m = sym (and_true m)
turn_and true false m = sym (and_false m)
turn_and false g m = refl

-- the parts of the answer's word at one place: a row that comes from above, from below, or stays
choose : (u f t1 t2 t3 t4 w g v s : Bool) → cond u (t1 && (t2 && not f)) (cond f t3 t4) ≡ true
    → (t2 ≡ true → s ≡ v) → (t3 ≡ true → s ≡ g) → (t4 ≡ true → s ≡ w)
    → (((w && not (u || f)) || (f && g)) || (v && u)) ≡ s
choose true true t1 t2 t3 t4 w g v s h a b c = absurd (false≢true (and_parts _ _ (and_parts _ _ h).1).1)
choose true false t1 t2 t3 t4 w g v s h a b c = rw (and_false w, and_true v) (sym (a (and_parts _ _ (and_parts _ _ h).1).0))
choose false true t1 t2 t3 t4 w g v s h a b c = rw (and_false w, and_false v, or_false g) (sym (b h))
choose false false t1 t2 t3 t4 w g v s h a b c = rw (and_true w, and_false v, or_false w, or_false w) (sym (c h))

pub record Rising (i j up : ℕ) : Type 0 where
  pub at : (x : ℕ) → x < 64 → is_set up x ≡ (is_set x i && not (is_set x j))
  pub fits : up < 2 ^ 64
  pub order : i < j
  pub inside : j < 6

moved_up : (word up d b : ℕ) → b < 64 → is_set (bit_and word up * 2 ^ d % 18446744073709551616) b
    ≡ ((leb d b && is_set up (b - d)) && is_set word (b - d))
moved_up word up d b lt = set_shl (bit_and word up) d b lt ∙ ap (λ t. leb d b && t) (set_and word up (b - d)) ∙ turn_and (leb d b) (is_set word (b - d)) (is_set up (b - d))

abbrev pub swap_code : ℕ → ℕ → ℕ → ℕ
swap_code word up d =
    bit_or (bit_or (bit_and word (bit_not w64 (bit_or up (up * 2 ^ d % 18446744073709551616)))) (bit_and word up * 2 ^ d % 18446744073709551616))
    (bit_and (word / 2 ^ d) up)

code_at : (word up d b : ℕ) → b < 64 → up < 2 ^ 64
    → is_set (swap_code word up d) b
    ≡ (((is_set word b && not (is_set up b || (leb d b && is_set up (b - d)))) || ((leb d b && is_set up (b - d)) && is_set word (b - d))) || (is_set word (b + d) && is_set up b))
code_at word up d b lt fits =
    let f : is_set (up * 2 ^ d % 18446744073709551616) b ≡ (leb d b && is_set up (b - d)) = set_shl up d b lt in
    let both : bit_or up (up * 2 ^ d % 18446744073709551616) < 2 ^ 64 = or_lt 64 up (up * 2 ^ d % 18446744073709551616) fits (omega arith) in
    rw (set_or, set_or, set_and, set_and, set_not (bit_or up (up * 2 ^ d % 18446744073709551616)) b both lt, set_or up (up * 2 ^ d % 18446744073709551616) b, f, moved_up word up d b lt, set_shr word d b) refl

pub swap_at : (word up i j b : ℕ) → Rising i j up → b < 64 → is_set (swap_code word up (2 ^ j - 2 ^ i)) b ≡ is_set word (swapped b i j)
unfolding spot
swap_at word up i j b h lt =
    let d : ℕ = 2 ^ j - 2 ^ i in
    let c : spot i j b ≡ true = spot_at i j b h.order h.inside lt in
    code_at word up d b lt h.fits
    ∙ rw (h.at b lt, h.at (b - d) (omega arith))
    (choose (is_set b i && not (is_set b j)) (leb d b && (is_set (b - d) i && not (is_set (b - d) j)))
    (ltb (b + d) 64) (eqb (swapped b i j) (b + d)) (eqb (swapped b i j) (b - d)) (eqb (swapped b i j) b)
    (is_set word b) (is_set word (b - d)) (is_set word (b + d)) (is_set word (swapped b i j)) c
    (λ e. ap (is_set word) (eqb-true _ _ e)) (λ e. ap (is_set word) (eqb-true _ _ e)) (λ e. ap (is_set word) (eqb-true _ _ e)))

-- the code's distance and rows
pub rising_at : (i j a b x : ℕ) → ((r : ℕ) → r < 64 → is_set a r ≡ not (is_set r i)) → ((r : ℕ) → r < 64 → is_set b r ≡ not (is_set r j)) → a < 2 ^ 64 → x < 64
    → is_set (bit_and (bit_not w64 a) b) x ≡ (is_set x i && not (is_set x j))
rising_at i j a b x ha hb fits lt = set_and (bit_not w64 a) b x ∙ rw (set_not a x fits lt, ha x lt, hb x lt, not_not (is_set x i)) refl

pub rising_fits : (a b : ℕ) → bit_and (bit_not w64 a) b < 2 ^ 64
rising_fits a b = omega (arith, and_le_l (bit_not w64 a) b)
