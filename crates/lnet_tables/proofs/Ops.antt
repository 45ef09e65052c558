-- Whole-table operations, word by word.
use Rattle.std.proofs.Common.{◌≡◌, ℕ, ◌+◌, ◌-◌, ◌^◌, ◌/◌, ◌%◌, ◌<◌, ◌≤◌, Bool, true, false, List, map, length, refl, sym, ◌∙◌, ap, arith, ◌==◌, suc, zero, get_or, inl, inr, not, min, lit<, subst, nat_lt, le-ltb, lt-ltb, replicate}
use Rattle.std.specs.Prelude.{bit_and, bit_xor}
use Rattle.std.specs.Int.{bit_not, w64}
use mathlib.Core.Bool.{◌&&◌}
use Rattle.std.proofs.lemmas.Nat.{and_le_l, xor_lt}
use Rattle.std.proofs.lemmas.Nat.Bits.{bit_at_not, bit_at_ones, bit_at-zero, bit_at-lt, bit_at_and, bit_at_xor}
use Rattle.std.proofs.lemmas.Simd.{get_or-zip2, length-zip2}
use lib.Lanes.{zip2}
use Rattle.std.proofs.lemmas.Bool.{cases_lt, and_right}
use Rattle.std.proofs.lemmas.List.{get_or_past, get_or-map, get_or-replicate}
use Rattle.std.proofs.lemmas.List.FromFn.{get_or-map-range_with_len, length-map-range_with_len, fill_by_all}
use Rattle.lnet_tables.specs.Bits.{Rows, tabulate, row, by_rows, is_set, bit_xor2}
use Rattle.lnet_tables.specs.Words.{word_bit, Fit}
use Rattle.lnet_tables.specs.Inverse.{any_row}

-- tables with one value at each row are one
pub same_rows : (n : ℕ) (f g : ℕ → Bool) → ((r : ℕ) → r < 2 ^ n → f r ≡ g r) → by_rows n f ≡ by_rows n g
unfolding tabulate
same_rows n f g h =
    let e : tabulate f (2 ^ n) ≡ tabulate g (2 ^ n) =
    fill_by_all g (tabulate f (2 ^ n)) (2 ^ n) false (length-map-range_with_len f 0 (2 ^ n)) (λ k lt. get_or-map-range_with_len f 0 (2 ^ n) k k false lt (omega arith) ∙ h k lt) in
    ap (λ (b : List Bool). let t : Rows = record { vars = n; bits = b } in t) e

-- the test of one bit of a result by the tests of the operands' bits
test_and : (x y z : ℕ) → x < 2 → y < 2 → z ≡ min x y → (z == 1) ≡ ((x == 1) && (y == 1))
test_and zero zero z hx hy e = rw e refl
test_and zero (suc zero) z hx hy e = rw e refl
test_and (suc zero) zero z hx hy e = rw e refl
test_and (suc zero) (suc zero) z hx hy e = rw e refl
test_and (suc (suc x)) y z hx hy e = absurd (omega arith)
test_and x (suc (suc y)) z hx hy e = absurd (omega arith)

pub set_and : (a b i : ℕ) → is_set (bit_and a b) i ≡ (is_set a i && is_set b i)
unfolding is_set
set_and a b i = test_and _ _ _ (bit_at-lt a i) (bit_at-lt b i) (bit_at_and a b i)

test_xor : (x y z : ℕ) → x < 2 → y < 2 → z ≡ (x + y) % 2 → (z == 1) ≡ bit_xor2 (x == 1) (y == 1)
test_xor zero zero z hx hy e = rw e refl
test_xor zero (suc zero) z hx hy e = rw e refl
test_xor (suc zero) zero z hx hy e = rw e refl
test_xor (suc zero) (suc zero) z hx hy e = rw e refl
test_xor (suc (suc x)) y z hx hy e = absurd (omega arith)
test_xor x (suc (suc y)) z hx hy e = absurd (omega arith)

pub set_xor : (a b i : ℕ) → is_set (bit_xor a b) i ≡ bit_xor2 (is_set a i) (is_set b i)
unfolding is_set
set_xor a b i = test_xor _ _ _ (bit_at-lt a i) (bit_at-lt b i) (bit_at_xor a b i)

-- an operation on bits, done on all words
pub record Wordwise (f : Bool → Bool → Bool) (g : ℕ → ℕ → ℕ) : Type 0 where
  pub bits : (a b i : ℕ) → is_set (g a b) i ≡ f (is_set a i) (is_set b i)
  pub zeros : f false false ≡ false
  pub small : (a b : ℕ) → a < 2 ^ 64 → b < 2 ^ 64 → g a b < 2 ^ 64

pub record Each (g : ℕ → ℕ → ℕ) (a b c : List ℕ) : Type 0 where
  pub long : length c ≡ 16
  pub at : (k : ℕ) → k < 16 → get_or c k 0 ≡ g (get_or a k 0) (get_or b k 0)

unset : (f : Bool → Bool → Bool) (g : ℕ → ℕ → ℕ) → Wordwise f g → (i : ℕ) → is_set 0 i ≡ f (is_set 0 i) (is_set 0 i)
unfolding is_set
unset f g w i = rw bit_at-zero (sym w.zeros)

pub bit_each : (f : Bool → Bool → Bool) (g : ℕ → ℕ → ℕ) → Wordwise f g → (a b c : List ℕ) → length a ≡ 16 → length b ≡ 16 → Each g a b c
    → (r : ℕ) → word_bit c r ≡ f (word_bit a r) (word_bit b r)
unfolding word_bit
bit_each f g w a b c ha hb e r =
    elim (cases_lt (r / 64) 16) [
      | inl lt ↦ rw (e.at (r / 64) lt) (w.bits _ _ _)
      | inr ge ↦ rw (get_or_past c (r / 64) 0 (omega (arith, e.long)), get_or_past a (r / 64) 0 (omega (arith, ha)), get_or_past b (r / 64) 0 (omega (arith, hb))) (unset f g w (r % 64))
    ]

pub fit_each : (f : Bool → Bool → Bool) (g : ℕ → ℕ → ℕ) → Wordwise f g → (v : ℕ) (a b c : List ℕ) → Fit v a → Fit v b → Each g a b c → Fit v c
fit_each f g w v a b c ha hb e = record {
  few = ha.few;
  sixteen = e.long;
  words = λ i. elim (cases_lt i 16) [
    | inl lt ↦ rw (e.at i lt) (w.small _ _ (ha.words i) (hb.words i))
    | inr ge ↦ rw (get_or_past c i 0 (omega (arith, e.long))) (lit< tt)
  ];
  clear = λ r ge. bit_each f g w a b c ha.sixteen hb.sixteen e r ∙ rw (ha.clear r ge, hb.clear r ge) w.zeros;
}

pub rows_each : (f : Bool → Bool → Bool) (g : ℕ → ℕ → ℕ) → Wordwise f g → (v : ℕ) (a b c : List ℕ) → Fit v a → Fit v b → Each g a b c
    → by_rows v (word_bit c) ≡ by_rows v (λ r. f (row (by_rows v (word_bit a)) r) (row (by_rows v (word_bit b)) r))
rows_each f g w v a b c ha hb e = same_rows v _ _ (λ r lt. bit_each f g w a b c ha.sixteen hb.sixteen e r ∙ rw (any_row v a ha r, any_row v b hb r) refl)

pub by_and : Wordwise (λ x y. x && y) bit_and
by_and = record { bits = set_and; zeros = refl; small = λ a b ha hb. omega (arith, and_le_l a b) }

pub by_xor : Wordwise bit_xor2 bit_xor
by_xor = record { bits = set_xor; zeros = refl; small = λ a b ha hb. xor_lt 64 a b ha hb }

-- the operator on two vectors of sixteen words
pub each_zip : (g : ℕ → ℕ → ℕ) (a b : List ℕ) → length a ≡ 16 → length b ≡ 16 → Each g a b (zip2 g a b)
each_zip g a b ha hb = record {
  long = length-zip2 g a b (ha ∙ sym hb) ∙ ha;
  at = λ k lt. get_or-zip2 g a b k 0 0 0 (omega arith) (omega arith);
}

-- the same at a struct's fields, where `s` and `t` are the views
zip_at : (f : Bool → Bool → Bool) (g : ℕ → ℕ → ℕ) → Wordwise f g → (v : ℕ) (a b : List ℕ) (s t : Rows)
    → by_rows v (word_bit a) ≡ s → by_rows v (word_bit b) ≡ t → Fit v a → Fit v b
    → Fit v (zip2 g a b) × (by_rows v (word_bit (zip2 g a b)) ≡ by_rows s.vars (λ r. f (row s r) (row t r)))
zip_at f g w v a b s t es et ha hb =
    let e : Each g a b (zip2 g a b) = each_zip g a b ha.sixteen hb.sixteen in
    (fit_each f g w v a b _ ha hb e, rw (← es, ← et) (rows_each f g w v a b _ ha hb e))

pub zip_fields : (f : Bool → Bool → Bool) (g : ℕ → ℕ → ℕ) → Wordwise f g → (va vb : ℕ) (a b : List ℕ) (s t : Rows)
    → by_rows va (word_bit a) ≡ s → by_rows vb (word_bit b) ≡ t → s.vars ≡ t.vars → Fit va a → Fit vb b
    → Fit va (zip2 g a b) × (by_rows va (word_bit (zip2 g a b)) ≡ by_rows s.vars (λ r. f (row s r) (row t r)))
zip_fields f g w va vb a b s t es et ev ha hb =
    let e : va ≡ vb = ap (λ (x : Rows). x.vars) es ∙ ev ∙ sym (ap (λ (x : Rows). x.vars) et) in
    let P : ℕ → Type 0 = λ n. by_rows n (word_bit b) ≡ t → Fit n b → Fit va (zip2 g a b) × (by_rows va (word_bit (zip2 g a b)) ≡ by_rows s.vars (λ r. f (row s r) (row t r))) in
    subst P e (λ et' hb'. zip_at f g w va a b s t es et' ha hb') et hb

and_true : (b : Bool) → (b && true) ≡ b
and_true true = refl
and_true false = refl

-- any words, under a mask
pub mask_fields : (v : ℕ) (ws os : List ℕ) → v ≤ 10 → length ws ≡ 16 → length os ≡ 16 → ((k : ℕ) → get_or ws k 0 < 2 ^ 64) → ((r : ℕ) → word_bit os r ≡ nat_lt r (2 ^ v))
    → Fit v (zip2 bit_and ws os) × (by_rows v (word_bit (zip2 bit_and ws os)) ≡ by_rows v (word_bit ws))
mask_fields v ws os few long long' small mask =
    let e : Each bit_and ws os (zip2 bit_and ws os) = each_zip bit_and ws os long long' in
    let at : (r : ℕ) → word_bit (zip2 bit_and ws os) r ≡ (word_bit ws r && word_bit os r) = bit_each _ _ by_and ws os _ long long' e in (
      record {
        few = few;
        sixteen = e.long;
        words = λ i. elim (cases_lt i 16) [
          | inl lt ↦ rw (e.at i lt) (omega (arith, small i, and_le_l (get_or ws i 0) (get_or os i 0)))
          | inr ge ↦ rw (get_or_past (zip2 bit_and ws os) i 0 (omega (arith, e.long))) (lit< tt)
        ];
        clear = λ r ge. at r ∙ and_right _ _ (mask r ∙ le-ltb r (2 ^ v) ge);
      },
      same_rows v _ _ (λ r lt. at r ∙ rw (mask r, lt-ltb r (2 ^ v) lt) (and_true _)),
    )

-- all words turned
test_not : (x z : ℕ) → x < 2 → z ≡ 1 - x → (z == 1) ≡ not (x == 1)
test_not zero z h e = rw e refl
test_not (suc zero) z h e = rw e refl
test_not (suc (suc x)) z h e = absurd (omega arith)

pub set_not : (n i : ℕ) → n < 2 ^ 64 → i < 64 → is_set (bit_not w64 n) i ≡ not (is_set n i)
unfolding is_set
set_not n i hn hi = test_not _ _ (bit_at-lt n i) (bit_at_not w64 n i hn hi)

pub bit_map_not : (ws : List ℕ) → length ws ≡ 16 → ((k : ℕ) → get_or ws k 0 < 2 ^ 64) → (r : ℕ) → r < 1024
    → word_bit (map (bit_not w64) ws) r ≡ not (word_bit ws r)
unfolding word_bit
bit_map_not ws long small r lt =
    rw (get_or-map (bit_not w64) ws (r / 64) 0 0 (omega arith)) (set_not _ _ (small (r / 64)) (omega arith))

pub bit_replicate : (r : ℕ) → r < 1024 → word_bit (replicate 16 18446744073709551615) r ≡ true
unfolding word_bit is_set
bit_replicate r lt = rw (get_or-replicate {A = ℕ} 16 (r / 64) 18446744073709551615 0 (omega arith)) (rw (bit_at_ones 64 (r % 64) (omega arith)) refl)

pub bit_zeros : (r : ℕ) → word_bit (replicate 16 0) r ≡ false
unfolding word_bit is_set
bit_zeros r =
    elim (cases_lt (r / 64) 16) [
      | inl lt ↦ rw (get_or-replicate {A = ℕ} 16 (r / 64) 0 0 lt, bit_at-zero) refl
      | inr ge ↦ rw (get_or_past {X = ℕ} (replicate 16 0) (r / 64) 0 ge, bit_at-zero) refl
    ]
