-- Words of rows: one variable read from another, and the rows at which a table changes with a variable.
use Rattle.std.proofs.Common.{◌≡◌, ℕ, ◌+◌, ◌^◌, ◌<◌, ◌≤◌, ◌↔◌, Bool, true, false, not, nat_eq, bit_and, bit_or, refl, sym, ap, subst, ◌∙◌, inl, inr, arith, ◌==◌, nat_lt, pow_mono}
use mathlib.Core.Bool.{◌&&◌, ◌||◌}
use lib.Bits.{bit_xor}
use Rattle.std.specs.Int.{bit_at, bit_not, w64}
use Rattle.std.proofs.lemmas.Nat.{and_le_r}
use Rattle.std.proofs.lemmas.Nat.Bits.{bit_at-zero, bit_at_above, bit_at_ones, same_from_bits}
use Rattle.std.proofs.lemmas.Bool.{cases_lt, eq-eqb, eqb-true, lt-ltb}
use Rattle.lnet_tables.specs.Bits.{is_set, with_bit, bit_of, bit_xor2}
use Rattle.lnet_tables.specs.Inverse.{bit_of_set}
use Rattle.lnet_tables.proofs.Ops.{set_and, set_not, set_xor}
use Rattle.lnet_tables.proofs.Swap.{set_or}
use Rattle.lnet_gates.specs.Gates.{flip}
use Rattle.lnet_gates.specs.Lawful.OperandLemmas.{untrue}
use Rattle.lnet_gates.specs.Lawful.NodeFunctions.{by_node}

-- ---- one variable read from another

choose : (P : Bool → Bool) (c b : Bool) → ((P c && not b) || (P (not c) && not (not b))) ≡ P (flip c b)
choose P true true = left (P true) (P false)
  where
    left : (x y : Bool) → ((x && false) || (y && true)) ≡ y
    left true true = refl
    left true false = refl
    left false true = refl
    left false false = refl
choose P true false = right (P true) (P false)
  where
    right : (x y : Bool) → ((x && true) || (y && false)) ≡ x
    right true true = refl
    right true false = refl
    right false true = refl
    right false false = refl
choose P false true = left (P false) (P true)
  where
    left : (x y : Bool) → ((x && false) || (y && true)) ≡ y
    left true true = refl
    left true false = refl
    left false true = refl
    left false false = refl
choose P false false = right (P false) (P true)
  where
    right : (x y : Bool) → ((x && true) || (y && false)) ≡ x
    right true true = refl
    right true false = refl
    right false true = refl
    right false false = refl

pub tied-row : (t low high rows i s r : ℕ) (c : Bool) → r < 64 → rows < 2 ^ 64
    → ((q : ℕ) → q < 64 → is_set low q ≡ is_set t (with_bit q i c))
    → ((q : ℕ) → q < 64 → is_set high q ≡ is_set t (with_bit q i (not c)))
    → ((q : ℕ) → q < 64 → is_set rows q ≡ not (is_set q s))
    → is_set (bit_or (bit_and low rows) (bit_and high (bit_not w64 rows))) r ≡ is_set t (with_bit r i (flip c (is_set r s)))
tied-row t low high rows i s r c lt fits at_low at_high at_rows =
    rw (set_or, set_and, set_and, set_not rows r fits lt, at_low r lt, at_high r lt, at_rows r lt) (choose (λ v. is_set t (with_bit r i v)) c (is_set r s))

-- ---- whether a table changes

both : (x y m : Bool) → (bit_xor2 x y && m) ≡ false → m ≡ true → x ≡ y
both true true m h k = refl
both false false m h k = refl
both true false true h k = cc
both true false false h k = cc
both false true true h k = cc
both false true false h k = cc

neither : (x y m : Bool) → (m ≡ true → x ≡ y) → (bit_xor2 x y && m) ≡ false
neither true true m h = refl
neither false false m h = refl
neither true false true h = untrue true refl (h refl)
neither true false false h = refl
neither false true true h = untrue true refl (sym (h refl))
neither false true false h = refl

no-rows : (z r : ℕ) → z ≡ 0 → is_set z r ≡ false
unfolding is_set
no-rows z r e = rw (e, bit_at-zero r) refl

all-clear : (z : ℕ) → z < 2 ^ 64 → ((r : ℕ) → r < 64 → is_set z r ≡ false) → z ≡ 0
all-clear z fits clear = same_from_bits z 0 (λ i. elim (cases_lt i 64) as (λ _. bit_at z i ≡ bit_at 0 i) [
  | inl lt ↦ sym (bit_of_set z i) ∙ ap bit_of (clear i lt) ∙ sym (bit_at-zero i)
  | inr ge ↦ bit_at_above z 64 i fits ge ∙ sym (bit_at-zero i)
])

is-not : (b : Bool) → not b ≡ false → b ≡ true
is-not true h = refl
is-not false h = cc

pub unchanged-rows : (t low high among i : ℕ) → among < 2 ^ 64
    → ((q : ℕ) → q < 64 → is_set low q ≡ is_set t (with_bit q i false))
    → ((q : ℕ) → q < 64 → is_set high q ≡ is_set t (with_bit q i true))
    → (not (nat_eq (bit_and (bit_xor low high) among) 0) ≡ false) ↔ ((r : ℕ) → r < 64 → is_set among r ≡ true → is_set t (with_bit r i false) ≡ is_set t (with_bit r i true))
unchanged-rows t low high among i fits at_low at_high = (
  λ h r lt live.
      let none : bit_and (bit_xor low high) among ≡ 0 = eqb-true (bit_and (bit_xor low high) among) 0 (is-not (nat_eq (bit_and (bit_xor low high) among) 0) h) in
      sym (at_low r lt) ∙ both (is_set low r) (is_set high r) (is_set among r) (sym (at r) ∙ no-rows (bit_and (bit_xor low high) among) r none) live ∙ at_high r lt,
  λ same.
      ap not (eq-eqb (bit_and (bit_xor low high) among) 0 (all-clear (bit_and (bit_xor low high) among) (let le : bit_and (bit_xor low high) among ≤ among = and_le_r (bit_xor low high) among in omega arith)
      (λ r lt. at r ∙ neither (is_set low r) (is_set high r) (is_set among r) (λ live. at_low r lt ∙ same r lt live ∙ sym (at_high r lt))))),
)
  where
    at : (r : ℕ) → is_set (bit_and (bit_xor low high) among) r ≡ (bit_xor2 (is_set low r) (is_set high r) && is_set among r)
    at r = set_and (bit_xor low high) among r ∙ ap (λ x. x && is_set among r) (set_xor low high r)

-- ---- the rows where some variables are false

pub all-rows : (r : ℕ) → r < 64 → is_set 18446744073709551615 r ≡ true
unfolding is_set
all-rows r lt = ap (λ k. k == 1) (bit_at_ones 64 r lt)

and-left : (x y : Bool) → (x && y) ≡ true → x ≡ true
and-left true y h = refl
and-left false y h = cc

and-right : (x y : Bool) → (x && not y) ≡ true → y ≡ false
and-right true true h = cc
and-right true false h = refl
and-right false y h = cc

and-both : (x y : Bool) → x ≡ true → y ≡ false → (x && not y) ≡ true
and-both true false h k = refl
and-both true true h k = cc
and-both false y h k = cc

-- where a variable is to be false too
pub rows-more : (P : ℕ → Type 0) (rows low i r : ℕ) → r < 64 → P i
    → ((q : ℕ) → q < 64 → is_set low q ≡ not (is_set q i))
    → (is_set rows r ≡ true) ↔ ((k : ℕ) → k < i → P k → is_set r k ≡ false)
    → (is_set (bit_and rows low) r ≡ true) ↔ ((k : ℕ) → k < i + 1 → P k → is_set r k ≡ false)
rows-more P rows low i r lt here at_low known = (
  λ h k below p. by_node k i
      (λ e. ap (is_set r) e ∙ and-right (is_set rows r) (is_set r i) (sym at ∙ h))
      (λ ne. known.0 (and-left (is_set rows r) (not (is_set r i)) (sym at ∙ h)) k (omega arith) p),
  λ all. at ∙ and-both (is_set rows r) (is_set r i) (known.1 (λ k below p. all k (omega arith) p)) (all i (omega arith) here),
)
  where
    at : is_set (bit_and rows low) r ≡ (is_set rows r && not (is_set r i))
    at = set_and rows low r ∙ ap (λ x. is_set rows r && x) (at_low r lt)

pub rows-same : (P : ℕ → Type 0) (rows i r : ℕ) → (P i → ⊥)
    → (is_set rows r ≡ true) ↔ ((k : ℕ) → k < i → P k → is_set r k ≡ false)
    → (is_set rows r ≡ true) ↔ ((k : ℕ) → k < i + 1 → P k → is_set r k ≡ false)
rows-same P rows i r not_here known = (
  λ h k below p. by_node k i (λ e. absurd (not_here (subst P e p))) (λ ne. known.0 h k (omega arith) p),
  λ all. known.1 (λ k below p. all k (omega arith) p),
)

-- ---- the first rows of a table

and-true : (x : Bool) → (x && true) ≡ x
and-true true = refl
and-true false = refl

pub first-kept : (x mask n r : ℕ) → n ≤ 6 → r < 2 ^ n → ((q : ℕ) → q < 64 → is_set mask q ≡ nat_lt q (2 ^ n)) → is_set (bit_and x mask) r ≡ is_set x r
first-kept x mask n r few lt at_mask =
    let most : 2 ^ n ≤ 2 ^ 6 = pow_mono {i = n} {j = 6} few in
    set_and x mask r ∙ ap (λ b. is_set x r && b) (at_mask r (omega arith) ∙ lt-ltb r (2 ^ n) lt) ∙ and-true (is_set x r)
