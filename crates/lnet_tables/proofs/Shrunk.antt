-- A table is its shrunk table of the variables that are kept.
use Rattle.std.proofs.Common.{◌≡◌, ℕ, ◌+◌, ◌-◌, ◌*◌, ◌^◌, ◌<◌, ◌≤◌, Bool, true, false, cond, List, [], ◌∷◌, ◌++◌, length, refl, sym, ◌∙◌, ap, arith, suc, zero, inl, inr, replicate, get_or, ltb, lt-ltb, le-ltb}
use mathlib.Core.Bool.{◌&&◌}
use Rattle.std.specs.Int.{bit_at}
use Rattle.std.proofs.lemmas.Nat.Bits.{same_from_bits, bit_at_above}
use Rattle.std.proofs.lemmas.Bool.{cases_Bool, cases_lt, cases_eq, not-false}
use Rattle.std.proofs.Math.Seq.{get_or-append_seam}
use Rattle.std.proofs.lemmas.List.{get_or_append_left, length-append}
use Rattle.lnet_tables.specs.Bits.{Rows, row, is_set, bit_of, number_by, with_bit, depends_on, support_of, cofactor_rows, moved}
use Rattle.lnet_tables.specs.Kept.{places, rank, spread, padded, shrink_rows}
use Rattle.lnet_tables.specs.Inverse.{bit_of_set, row_inside, bit_inside, bit_outside}
use Rattle.lnet_tables.proofs.RowNumbers.{number_suc, number_below, bit_within}
use Rattle.lnet_tables.proofs.Places.{places_next}
use Rattle.lnet_tables.proofs.Depends.{number_bit, support_bit}
use Rattle.lnet_tables.proofs.Equal.{equal_rows_decides}

-- ---- numbers by their bits
pub number_same : (f g : ℕ → Bool) (n : ℕ) → ((i : ℕ) → i < n → f i ≡ g i) → number_by f n ≡ number_by g n
unfolding number_by
number_same f g zero h = refl
number_same f g (suc n) h =
    let e : number_by f n ≡ number_by g n = number_same f g n (λ i lt. h i (omega arith)) in
    number_suc f n ∙ rw (e, h n (omega arith)) (sym (number_suc g n))

pub number_self : (r n : ℕ) → r < 2 ^ n → number_by (is_set r) n ≡ r
number_self r n h =
    same_from_bits _ _ (λ i. elim (cases_lt i n) [
      | inl lt ↦ bit_inside (is_set r) n i lt ∙ bit_of_set r i
      | inr ge ↦ bit_outside (is_set r) n i ge ∙ sym (bit_at_above r n i h ge)
    ])

-- one bit changed
pub number_put : (f g : ℕ → Bool) (n j : ℕ) → j < n → ((i : ℕ) → i < n → (i ≡ j → ⊥) → f i ≡ g i)
    → number_by f n + bit_of (g j) * 2 ^ j ≡ number_by g n + bit_of (f j) * 2 ^ j
number_put f g zero j lt h = absurd (omega arith)
number_put f g (suc n) j lt h =
    elim (cases_eq j n) [
      | inl e ↦
          let s : number_by f n ≡ number_by g n = number_same f g n (λ i l. h i (omega arith) (λ k. absurd (omega arith))) in
          rw (number_suc f n, number_suc g n, s, e) (omega arith)
      | inr ne ↦
          let s : number_by f n + bit_of (g j) * 2 ^ j ≡ number_by g n + bit_of (f j) * 2 ^ j =
          number_put f g n j (omega arith) (λ i l k. h i (omega arith) k) in
          rw (number_suc f n, number_suc g n, h n (omega arith) (λ k. ne (sym k))) (omega arith)
    ]

pub put_number : (f g : ℕ → Bool) (n j : ℕ) → j < n → ((i : ℕ) → i < n → (i ≡ j → ⊥) → f i ≡ g i)
    → with_bit (number_by f n) j (g j) ≡ number_by g n
unfolding with_bit
put_number f g n j lt h =
    let b : bit_at (number_by f n) j ≡ bit_of (f j) = bit_inside f n j lt in
    let w : bit_at (number_by f n) j * 2 ^ j ≤ number_by f n = bit_within (number_by f n) j in
    rw b (omega (arith, number_put f g n j lt h, rw b at w))

-- ---- a variable on which the function does not depend
pub put_self : (q j : ℕ) → with_bit q j (is_set q j) ≡ q
unfolding with_bit
put_self q j = rw (bit_of_set q j) (omega (arith, bit_within q j))

same_cofactors : (a : Rows) (j : ℕ) → depends_on a j ≡ false → cofactor_rows a j false ≡ cofactor_rows a j true
unfolding depends_on
same_cofactors a j h = (equal_rows_decides (cofactor_rows a j false) (cofactor_rows a j true)).0 (not-false _ h)

either : (a : Rows) (q j : ℕ) → q < 2 ^ a.vars → depends_on a j ≡ false → row a (with_bit q j false) ≡ row a (with_bit q j true)
either a q j lt h =
    sym (row_inside a.vars (λ r. row a (with_bit r j false)) q lt) ∙ ap (λ (t : Rows). row t q) (same_cofactors a j h)
    ∙ row_inside a.vars (λ r. row a (with_bit r j true)) q lt

any_value : (a : Rows) (q j : ℕ) (v w : Bool) → row a (with_bit q j false) ≡ row a (with_bit q j true) → row a (with_bit q j v) ≡ row a (with_bit q j w)
any_value a q j true true h = refl
any_value a q j true false h = sym h
any_value a q j false true h = h
any_value a q j false false h = refl

pub unchanged : (a : Rows) (q j : ℕ) (v : Bool) → q < 2 ^ a.vars → depends_on a j ≡ false → row a (with_bit q j v) ≡ row a q
unchanged a q j v lt h = any_value a q j v (is_set q j) (either a q j lt h) ∙ ap (row a) (put_self q j)

-- ---- all such variables set to false
part : ℕ → ℕ → ℕ → ℕ → Bool
part m r j i = cond (ltb i j) (is_set m i && is_set r i) (is_set r i)

part_start : (m r n : ℕ) → r < 2 ^ n → number_by (part m r 0) n ≡ r
unfolding part is_set
part_start m r n h = number_same (part m r 0) (is_set r) n (λ i lt. rw (le-ltb i 0 (omega arith)) refl) ∙ number_self r n h

part_end : (m r n : ℕ) → number_by (part m r n) n ≡ number_by (λ i. is_set m i && is_set r i) n
unfolding part is_set
part_end m r n = number_same (part m r n) (λ i. is_set m i && is_set r i) n (λ i lt. rw (lt-ltb i n lt) refl)

part_other : (m r j i : ℕ) → (i ≡ j → ⊥) → part m r j i ≡ part m r (suc j) i
unfolding part
part_other m r j i ne =
    elim (cases_lt i j) [
      | inl lt ↦ rw (lt-ltb i j lt, lt-ltb i (suc j) (omega arith)) refl
      | inr ge ↦
          let above : suc j ≤ i = omega (arith, ne) in
          rw (le-ltb i j ge, le-ltb i (suc j) above) refl
    ]

part_kept : (m r j : ℕ) → is_set m j ≡ true → part m r j j ≡ part m r (suc j) j
unfolding part
part_kept m r j h = rw (le-ltb j j (omega arith), lt-ltb j (suc j) (omega arith), h) refl

part_same : (m r j : ℕ) → is_set m j ≡ true → (i : ℕ) → part m r (suc j) i ≡ part m r j i
part_same m r j h i =
    elim (cases_eq i j) [
      | inl e ↦ rw e (sym (part_kept m r j h))
      | inr ne ↦ sym (part_other m r j i ne)
    ]

part_next : (a : Rows) (r j : ℕ) → j < a.vars
    → row a (number_by (part (support_of a) r (suc j)) a.vars) ≡ row a (number_by (part (support_of a) r j) a.vars)
part_next a r j lt =
    let m : ℕ = support_of a in
    elim (cases_Bool (is_set m j)) [
      | inl used ↦ ap (row a) (number_same (part m r (suc j)) (part m r j) a.vars (λ i l. part_same m r j used i))
      | inr unused ↦
          ap (row a) (sym (put_number (part m r j) (part m r (suc j)) a.vars j lt (λ i l ne. part_other m r j i ne)))
          ∙ unchanged a (number_by (part m r j) a.vars) j (part m r (suc j) j) (number_below (part m r j) a.vars) (sym (support_bit a j lt) ∙ unused)
    ]

part_row : (a : Rows) (r j : ℕ) → r < 2 ^ a.vars → j ≤ a.vars → row a (number_by (part (support_of a) r j) a.vars) ≡ row a r
part_row a r zero lt le = ap (row a) (part_start (support_of a) r a.vars lt)
part_row a r (suc j) lt le = part_next a r j (omega arith) ∙ part_row a r j lt (omega arith)

-- ---- the places of the kept variables
pub rank_next : (m n : ℕ) → rank m n ≤ rank m (suc n)
rank_next m n = rw (places_next m n, length-append (places m n) (cond (is_set m n) (n ∷ []) [])) (omega arith)

pub place_at : (m n i : ℕ) → is_set m i ≡ true → i < n → (rank m i < rank m n) × (get_or (places m n) (rank m i) 0 ≡ i)
place_at m zero i h lt = absurd (omega arith)
place_at m (suc n) i h lt =
    elim (cases_eq i n) [
      | inl e ↦
          let p : places m (suc n) ≡ places m n ++ n ∷ [] = places_next m n ∙ rw (← e, h) refl in
          let l : length (places m n ++ n ∷ []) ≡ length (places m n) + 1 = length-append (places m n) (n ∷ []) in
          rw e (rw p (omega arith, get_or-append_seam (places m n) n [] 0))
      | inr ne ↦
          let b : (rank m i < rank m n) × (get_or (places m n) (rank m i) 0 ≡ i) = place_at m n i h (omega (arith, ne)) in (
            omega (arith, b.0, rank_next m n),
            ap (λ ks. get_or ks (rank m i) 0) (places_next m n) ∙ get_or_append_left (places m n) (cond (is_set m n) (n ∷ []) []) 0 (rank m i) b.0 ∙ b.1,
          )
    ]

padded_at : (ks : List ℕ) (j : ℕ) → j < length ks → get_or (padded ks) j 0 ≡ get_or ks j 0
unfolding padded
padded_at ks j h = get_or_append_left ks (replicate (10 - length ks) 0) 0 j h

moved_bit : (m r n i : ℕ) → i < n → is_set m i ≡ true → is_set (moved r (padded (places m n)) (rank m n)) (rank m i) ≡ is_set r i
moved_bit m r n i lt h =
    let b : (rank m i < rank m n) × (get_or (places m n) (rank m i) 0 ≡ i) = place_at m n i h lt in
    number_bit (λ j. is_set r (get_or (padded (places m n)) j 0)) (rank m n) (rank m i) b.0
    ∙ ap (is_set r) (padded_at (places m n) (rank m i) b.0 ∙ b.1)

pub both_when : (x y z : Bool) → (x ≡ true → y ≡ z) → (x && y) ≡ (x && z)
both_when true y z h = h refl
both_when false y z h = refl

spread_moved : (m r n : ℕ) → spread (moved r (padded (places m n)) (rank m n)) m n ≡ number_by (λ i. is_set m i && is_set r i) n
spread_moved m r n = number_same _ (λ i. is_set m i && is_set r i) n (λ i lt. both_when (is_set m i) _ (is_set r i) (moved_bit m r n i lt))

-- a row of the table is the row of the shrunk one at the values of the kept variables
pub shrunk_row : (a : Rows) (r : ℕ) → r < 2 ^ a.vars
    → row a r ≡ row (shrink_rows a) (moved r (padded (places (support_of a) a.vars)) (rank (support_of a) a.vars))
shrunk_row a r lt =
    let m : ℕ = support_of a in
    let q : ℕ = moved r (padded (places m a.vars)) (rank m a.vars) in
    sym (row_inside (rank m a.vars) (λ k. row a (spread k m a.vars)) q (number_below (λ i. is_set r (get_or (padded (places m a.vars)) i 0)) (rank m a.vars))
    ∙ ap (row a) (spread_moved m r a.vars ∙ sym (part_end m r a.vars)) ∙ part_row a r a.vars lt (omega arith))
