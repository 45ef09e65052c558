-- The table of the arrangements and that of the flips, checked by computation.
use Rattle.std.proofs.Common.{◌≡◌, ℕ, ◌+◌, ◌<◌, Bool, true, false, List, [], ◌∷◌, length, refl, arith, suc, zero, not, get_or, ltb, eqb, zero-add}
use mathlib.Core.Bool.{◌&&◌}
use Rattle.std.proofs.lemmas.Bool.{agree_below, agree_below_at, and_parts, eqb-true, ltb-true, false≢true}
use Rattle.lnet_tables.specs.Bits.{is_set, moved, with_bit, number_by}
use Rattle.lnet_npn.specs.declared.exchanges.Exchange.{Exchange}
use Rattle.lnet_npn.specs.declared.exchanges.Arrangement.{Arrangement}
use Rattle.lnet_npn.specs.declared.exchanges.TheConstants.{ARRANGEMENTS, FLIPS}
use Rattle.lnet_npn.specs.Exchanges.{fetched, falls, IsExchange, IsArrangement}
use Rattle.lnet_npn.specs.Transforms.{is_order}

lawful : Exchange → Bool
lawful e =
    ltb e.distance 16
    && (agree_below (λ x. is_set e.rows x && falls e x) (λ x. false) 16 && agree_below (λ x. ltb (fetched e x) 16) (λ x. true) 16)

lawful_is : (e : Exchange) → lawful e ≡ true → IsExchange e
unfolding lawful
lawful_is e h =
    let p = and_parts _ _ h in
    let q = and_parts _ _ p.1 in
    record {
      near = ltb-true _ _ p.0;
      apart = λ x lt. agree_below_at (λ x. is_set e.rows x && falls e x) (λ x. false) 16 x q.0 lt;
      inside = λ x lt. ltb-true _ _ (agree_below_at (λ x. ltb (fetched e x) 16) (λ x. true) 16 x q.1 lt);
    }

three : List ℕ → Exchange → Exchange → Exchange → Bool
three o a b c =
    is_order o && (lawful a && (lawful b && (lawful c && agree_below (λ x. eqb (fetched a (fetched b (fetched c x))) (moved x o 4)) (λ x. true) 16)))

fits : List ℕ → List Exchange → Bool
fits o [] = false
fits o (a ∷ []) = false
fits o (a ∷ (b ∷ [])) = false
fits o (a ∷ (b ∷ (c ∷ []))) = three o a b c
fits o (a ∷ (b ∷ (c ∷ (d ∷ es)))) = false

each_of : (a b c d : Exchange) (i : ℕ) → i < 3 → IsExchange a → IsExchange b → IsExchange c → IsExchange (get_or (a ∷ b ∷ c ∷ []) i d)
each_of a b c d zero lt x y z = x
each_of a b c d (suc zero) lt x y z = y
each_of a b c d (suc (suc zero)) lt x y z = z
each_of a b c d (suc (suc (suc i))) lt x y z = absurd (omega arith)

fits_is : (o : List ℕ) (es : List Exchange) → fits o es ≡ true → IsArrangement (record { order = o; exchanges = es })
unfolding fits three
fits_is o [] h = absurd (false≢true h)
fits_is o (a ∷ []) h = absurd (false≢true h)
fits_is o (a ∷ (b ∷ [])) h = absurd (false≢true h)
fits_is o (a ∷ (b ∷ (c ∷ []))) h =
    let p = and_parts _ _ h in
    let q = and_parts _ _ p.1 in
    let r = and_parts _ _ q.1 in
    let s = and_parts _ _ r.1 in
    record {
      order = p.0;
      exchange = λ i d lt. each_of a b c d i lt (lawful_is a q.0) (lawful_is b r.0) (lawful_is c s.0);
      rows = λ x d lt. eqb-true _ _ (agree_below_at (λ x. eqb (fetched a (fetched b (fetched c x))) (moved x o 4)) (λ x. true) 16 x s.1 lt);
    }
fits_is o (a ∷ (b ∷ (c ∷ (d ∷ es)))) h = absurd (false≢true h)

all_fit : List Arrangement → Bool
all_fit [] = true
all_fit (a ∷ all) = fits a.order a.exchanges && all_fit all

checked : all_fit ARRANGEMENTS ≡ true
unfolding all_fit fits three lawful is_order fetched is_set number_by
checked = refl

fit_at : (all : List Arrangement) → all_fit all ≡ true → (k : ℕ) (d : Arrangement) → k < length all → IsArrangement (get_or all k d)
unfolding all_fit
fit_at [] h k d lt = absurd (omega arith)
fit_at (a ∷ all) h zero d lt = fits_is a.order a.exchanges (and_parts _ _ h).0
fit_at (a ∷ all) h (suc k) d lt = fit_at all (and_parts _ _ h).1 k d (omega arith)

pub arrangement_at : (k : ℕ) (d : Arrangement) → k < 24 → IsArrangement (get_or ARRANGEMENTS k d)
arrangement_at k d lt = fit_at ARRANGEMENTS checked k d lt

-- a flip takes each row to the one with that variable complemented
flips_fit : List Exchange → ℕ → Bool
flips_fit [] i = true
flips_fit (e ∷ es) i = (lawful e && agree_below (λ x. eqb (fetched e x) (with_bit x i (not (is_set x i)))) (λ x. true) 16) && flips_fit es (i + 1)

flips_checked : flips_fit FLIPS 0 ≡ true
unfolding flips_fit lawful fetched is_set with_bit
flips_checked = refl

pub record IsFlip (e : Exchange) (i : ℕ) : Type 0 where
  pub lawful : IsExchange e
  pub rows : (x : ℕ) → x < 16 → fetched e x ≡ with_bit x i (not (is_set x i))

flips_from : (es : List Exchange) (i : ℕ) → flips_fit es i ≡ true → (v : ℕ) (d : Exchange) → v < length es → IsFlip (get_or es v d) (i + v)
unfolding flips_fit
flips_from [] i h v d lt = absurd (omega arith)
flips_from (e ∷ es) i h zero d lt =
    let p = and_parts _ _ (and_parts _ _ h).0 in
    let z : i + 0 ≡ i = omega arith in
    rw z (record {
      lawful = lawful_is e p.0;
      rows = λ x b. eqb-true _ _ (agree_below_at (λ x. eqb (fetched e x) (with_bit x i (not (is_set x i)))) (λ x. true) 16 x p.1 b);
    })
flips_from (e ∷ es) i h (suc v) d lt =
    let z : i + suc v ≡ (i + 1) + v = omega arith in
    rw z (flips_from es (i + 1) (and_parts _ _ h).1 v d (omega arith))

pub flip_at : (v : ℕ) (d : Exchange) → v < 4 → IsFlip (get_or FLIPS v d) v
flip_at v d lt = rw zero-add at (flips_from FLIPS 0 flips_checked v d lt)
