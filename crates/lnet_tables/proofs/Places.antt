-- The places of the set bits of a number, and rows spread over them.
use Rattle.std.proofs.Common.{◌≡◌, ℕ, ◌+◌, ◌-◌, ◌*◌, ◌^◌, ◌/◌, ◌%◌, ◌<◌, Bool, true, false, cond, List, [], ◌∷◌, ◌++◌, length, refl, sym, ◌∙◌, ap, arith, suc, bit_and, add-one, append_assoc, replicate, set, length-append, append-nil}
use mathlib.Core.Bool.{◌&&◌}
use Rattle.std.specs.Int.{bit_at}
use Rattle.std.proofs.Math.Seq.{set-append_seam}
use Rattle.std.proofs.lemmas.Nat.{and_le_r, pow_below}
use Rattle.std.proofs.lemmas.Nat.Bits.{shr_and_one}
use Rattle.lnet_tables.specs.Bits.{is_set, bit_of, number_by}
use Rattle.lnet_tables.specs.Kept.{places, rank, spread, padded}
use Rattle.lnet_tables.specs.Inverse.{bit_of_set}
use Rattle.lnet_tables.proofs.RowNumbers.{number_more, number_below}

pub rank_none : (m : ℕ) → rank m 0 ≡ 0
unfolding places
rank_none m = refl

one_or_none : (b : Bool) (n : ℕ) → length (cond b (n ∷ []) []) ≡ bit_of b
one_or_none true n = refl
one_or_none false n = refl

pub places_next : (m n : ℕ) → places m (suc n) ≡ places m n ++ cond (is_set m n) (n ∷ []) []
unfolding places
places_next m n = refl

pub places_more : (m n : ℕ) → places m (n + 1) ≡ places m n ++ cond (is_set m n) (n ∷ []) []
unfolding places
places_more m n = rw add-one refl

pub rank_more : (m n : ℕ) → rank m (n + 1) ≡ rank m n + bit_at m n
rank_more m n =
    ap length (places_more m n) ∙ length-append (places m n) (cond (is_set m n) (n ∷ []) []) ∙ rw (one_or_none (is_set m n) n, bit_of_set m n) refl

and_bit : (x y : ℕ) (a : Bool) → bit_and x 1 ≡ y → bit_and x (bit_of a) ≡ bit_of a * y
and_bit x y true h = h ∙ omega arith
and_bit x y false h = omega (arith, and_le_r x 0)

both_bits : (a b : Bool) → bit_of a * bit_of b ≡ bit_of (a && b)
both_bits true b = omega arith
both_bits false b = omega arith

-- the code's bit
pub spread_step : (r m k i : ℕ) → bit_and (r / 2 ^ k) (bit_and (m / 2 ^ i) 1) ≡ bit_of (is_set m i && is_set r k)
spread_step r m k i =
    rw (shr_and_one m i, ← bit_of_set m i)
    (and_bit (r / 2 ^ k) (bit_at r k) (is_set m i) (shr_and_one r k) ∙ rw (← bit_of_set r k) (both_bits (is_set m i) (is_set r k)))

pub spread_none : (r m : ℕ) → spread r m 0 ≡ 0
unfolding number_by
spread_none r m = refl

pub small_shift : (b : Bool) (i : ℕ) → i < 10 → bit_of b * 2 ^ i % 65536 ≡ bit_of b * 2 ^ i
small_shift true i h = let p : 2 ^ i < 2 ^ 10 = pow_below i 10 h in omega arith
small_shift false i h = omega arith

pub spread_more : (r m k i : ℕ) → i < 10 → k ≡ rank m i
    → spread r m i + bit_and (r / 2 ^ k) (bit_and (m / 2 ^ i) 1) * 2 ^ i % 65536 ≡ spread r m (i + 1)
spread_more r m k i h e =
    rw (spread_step r m k i, small_shift (is_set m i && is_set r k) i h, e) (sym (number_more (λ j. is_set m j && is_set r (rank m j)) i))

pub spread_below : (r m n : ℕ) → spread r m n < 2 ^ n
spread_below r m n = number_below (λ j. is_set m j && is_set r (rank m j)) n

pub padded_none : (m : ℕ) → padded (places m 0) ≡ replicate 10 0
unfolding padded places
padded_none m = refl

padded_push : (ks : List ℕ) (i : ℕ) → length ks < 10 → set (padded ks) (length ks) i ≡ padded (ks ++ i ∷ [])
unfolding padded
padded_push ks i h =
    let n : 10 - length ks ≡ suc (9 - length ks) = omega arith in
    let l : length (ks ++ i ∷ []) ≡ suc (length ks) = length-append ks (i ∷ []) ∙ omega arith in
    let d : 10 - length (ks ++ i ∷ []) ≡ 9 - length ks = omega arith in
    rw (n, d) (set-append_seam ks 0 (replicate (9 - length ks) 0) i ∙ sym (append_assoc ks (i ∷ []) (replicate (9 - length ks) 0)))

pub places_set : (m i : ℕ) → is_set m i ≡ true → places m (i + 1) ≡ places m i ++ i ∷ []
places_set m i h = places_more m i ∙ rw h refl

pub places_unset : (m i : ℕ) → is_set m i ≡ false → places m (i + 1) ≡ places m i
places_unset m i h = places_more m i ∙ rw h (simp append-nil)

pub padded_more : (m i k : ℕ) → is_set m i ≡ true → k ≡ rank m i → k < 10 → set (padded (places m i)) k i ≡ padded (places m (i + 1))
padded_more m i k h e lt = rw (places_set m i h, e) (padded_push (places m i) i (rw (← e) lt))

pub rank_set : (m i : ℕ) → is_set m i ≡ true → rank m i + 1 ≡ rank m (i + 1)
rank_set m i h = sym (ap length (places_set m i h) ∙ length-append (places m i) (i ∷ []))
