-- The lanes at which a node and a signal differ, and the first assignment under which they do.
use Rattle.std.proofs.Common.{◌≡◌, ◌≢◌, ℕ, zero, suc, ◌+◌, ◌-◌, ◌*◌, ◌^◌, ◌<◌, ◌≤◌, Bool, true, false, List, [], ◌∷◌, length, Option, None, Some, IfNone, get_or, nat_lt, bit_and, refl, sym, ap, subst, ◌∙◌, inl, inr, arith, ◌==◌}
use mathlib.Core.Bool.{◌&&◌}
use lib.Bits.{bit_xor}
use Rattle.std.specs.Int.{bit_at, trailing_zeros, w64}
use Rattle.std.proofs.lemmas.Bool.{cases_lt, lt-ltb, ltb-true}
use Rattle.std.proofs.lemmas.Nat.Bits.{bit_at-trailing_zeros}
use Rattle.lnet_tables.specs.Bits.{is_set, bit_xor2, number_by}
use Rattle.lnet_tables.proofs.Ops.{set_and, set_xor}
use Rattle.lnet_tables.proofs.Depends.{number_bit}
use Rattle.lnet_tables.proofs.RowNumbers.{number_below}
use Rattle.lnet_gates.specs.declared.signal.Signal.{Signal}
use Rattle.lnet_gates.specs.Gates.{flip}
use Rattle.lnet_model.specs.Networks.{NetworkValue}
use Rattle.lnet_model.specs.Dags.{IsStored}
use Rattle.lnet_model.specs.Values.{node_value, signal_value}
use Rattle.lnet_simulate.specs.Assignments.{AgreeUnder, DifferFirst, numbered}
use Rattle.lnet_simulate.specs.Comparing.{AgreeBelow, differ_under}
use Rattle.lnet_simulate.specs.Lanes.{lane, lane_of, IsRight}
use Rattle.lnet_simulate.proofs.LaneLemmas.{no-lane}
use Rattle.lnet_simulate.proofs.ValueLemmas.{same-values}

-- ---- one lane of a block

pub differ-lane : (N : NetworkValue) (inputs ws : List ℕ) (n : ℕ) (s : Signal) (block j used word : ℕ) → IsStored N → length inputs ≡ length N.inputs → j < 64
    → ((i k : ℕ) → i < length inputs → k < 64 → is_set (get_or inputs i 0) k ≡ is_set (64 * block + k) i)
    → IsRight N inputs ws n → IsRight N inputs ws s.node.0
    → is_set word j ≡ lane_of ws j s
    → is_set used j ≡ nat_lt j (2 ^ length N.inputs)
    → is_set (bit_and (bit_xor (get_or ws n 0) word) used) j ≡ (differ_under N n s (numbered (64 * block + j)) && nat_lt j (2 ^ length N.inputs))
differ-lane N inputs ws n s block j used word stored sized lt at_inputs right_n right_s at_word at_used =
    set_and (bit_xor (get_or ws n 0) word) used j
    ∙ ap (λ b. b && is_set used j) (set_xor (get_or ws n 0) word j)
    ∙ ap (λ b. bit_xor2 (is_set (get_or ws n 0) j) (is_set word j) && b) at_used
    ∙ ap (λ b. bit_xor2 b (is_set word j) && nat_lt j (2 ^ length N.inputs)) (right_n j lt ∙ same n)
    ∙ ap (λ b. bit_xor2 (node_value N (numbered (64 * block + j)) n) b && nat_lt j (2 ^ length N.inputs)) (at_word ∙ ap (flip s.complement) (right_s j lt ∙ same s.node.0))
  where
    same : (m : ℕ) → node_value N (lane inputs j) m ≡ node_value N (numbered (64 * block + j)) m
    same m = same-values N (lane inputs j) (numbered (64 * block + j)) stored (λ k low. at_inputs k j (omega arith) lt) m

-- ---- the lanes of a block

xor-same : (x y m : Bool) → (bit_xor2 x y && m) ≡ false → m ≡ true → x ≡ y
xor-same true true m h k = refl
xor-same false false m h k = refl
xor-same true false true h k = cc
xor-same true false false h k = cc
xor-same false true true h k = cc
xor-same false true false h k = cc

xor-apart : (x y m : Bool) → (bit_xor2 x y && m) ≡ true → (x ≢ y) × (m ≡ true)
xor-apart true true m h = absurd (let z : false ≡ true = h in cc)
xor-apart false false m h = absurd (let z : false ≡ true = h in cc)
xor-apart true false true h = ((λ e. let z : true ≡ false = e in cc), refl)
xor-apart true false false h = absurd (let z : false ≡ true = h in cc)
xor-apart false true true h = ((λ e. let z : false ≡ true = e in cc), refl)
xor-apart false true false h = absurd (let z : false ≡ true = h in cc)

lane-true : (w j : ℕ) → bit_at w j ≡ 1 → is_set w j ≡ true
unfolding is_set
lane-true w j h = ap (λ k. k == 1) h

lane-false : (w j : ℕ) → bit_at w j ≡ 0 → is_set w j ≡ false
unfolding is_set
lane-false w j h = ap (λ k. k == 1) h

module _ (N : NetworkValue) (n : ℕ) (s : Signal) (block w : ℕ) (lanes : (j : ℕ) → j < 64 → is_set w j ≡ (differ_under N n s (numbered (64 * block + j)) && nat_lt j (2 ^ length N.inputs))) (before : (k : ℕ) → k < 64 * block → k < 2 ^ length N.inputs → AgreeUnder N n s (numbered k)) where
  -- a lane that is false
  agree-at : (k : ℕ) → 64 * block ≤ k → k < 64 * block + 64 → k < 2 ^ length N.inputs → is_set w (k - 64 * block) ≡ false → AgreeUnder N n s (numbered k)
  agree-at k from to inside clear =
      let e : 64 * block + (k - 64 * block) ≡ k = omega arith in
      let lt : k - 64 * block < 64 = omega arith in
      let low : k - 64 * block < 2 ^ length N.inputs = omega arith in
      subst (λ (q : ℕ). AgreeUnder N n s (numbered q)) e
      (xor-same (node_value N (numbered (64 * block + (k - 64 * block))) n) (signal_value N (numbered (64 * block + (k - 64 * block))) s) (nat_lt (k - 64 * block) (2 ^ length N.inputs))
      (sym (lanes (k - 64 * block) lt) ∙ clear) (lt-ltb (k - 64 * block) (2 ^ length N.inputs) low))

  -- no lane is true
  pub block-agrees : w ≡ 0 → (k : ℕ) → k < 64 * (block + 1) → k < 2 ^ length N.inputs → AgreeUnder N n s (numbered k)
  block-agrees none k below inside = elim (cases_lt k (64 * block)) as (λ _. AgreeUnder N n s (numbered k)) [
    | inl lt ↦ before k lt inside
    | inr ge ↦ agree-at k ge (omega arith) inside (ap (λ (v : ℕ). is_set v (k - 64 * block)) none ∙ no-lane (k - 64 * block))
  ]

  -- a lane is true
  pub block-differs : w < 2 ^ 64 → w ≢ 0 → ((j : ℕ) → j < 64 → j < 2 ^ length N.inputs → 64 * block + j < 2 ^ length N.inputs) → DifferFirst N n s (64 * block + trailing_zeros w64 w)
  block-differs fits some within =
      let t = bit_at-trailing_zeros w64 w (let ne = some in omega arith) fits in
      let lt : trailing_zeros w64 w < 64 = t.0 in
      let apart = xor-apart (node_value N (numbered (64 * block + trailing_zeros w64 w)) n) (signal_value N (numbered (64 * block + trailing_zeros w64 w)) s) (nat_lt (trailing_zeros w64 w) (2 ^ length N.inputs)) (sym (lanes (trailing_zeros w64 w) lt) ∙ lane-true w (trailing_zeros w64 w) t.1) in
      let inside : 64 * block + trailing_zeros w64 w < 2 ^ length N.inputs = within (trailing_zeros w64 w) lt (ltb-true (trailing_zeros w64 w) (2 ^ length N.inputs) apart.1) in
      record {
        within = inside;
        differ = apart.0;
        least = λ k below. elim (cases_lt k (64 * block)) as (λ _. AgreeUnder N n s (numbered k)) [
          | inl low ↦ before k low (omega arith)
          | inr ge ↦ agree-at k ge (omega arith) (omega arith) (lane-false w (k - 64 * block) (t.2 (k - 64 * block) (omega arith)))
        ];
      }

-- ---- the two nodes

pub all-pair : {X : Type 0} (P : X → Type 0) (x y : X) → P x → P y → (k : ℕ) (d : X) → k < 2 → P (get_or (x ∷ y ∷ []) k d)
all-pair P x y px py zero d low = px
all-pair P x y px py (suc zero) d low = py
all-pair P x y px py (suc (suc k)) d low = absurd (omega arith)

pub if-none : {A : Type 0} (r : Option A) (P Q : Type 0) → (P → Q) → IfNone r P → IfNone r Q
if-none None P Q f p = f p
if-none (Some x) P Q f p = p

-- ---- all assignments

pub all-agree : (N : NetworkValue) (n : ℕ) (s : Signal) → IsStored N → AgreeBelow N n s (2 ^ length N.inputs) → (a : ℕ → Bool) → AgreeUnder N n s a
all-agree N n s stored agree a =
    same n ∙ agree (number_by a (length N.inputs)) (number_below a (length N.inputs)) ∙ ap (flip s.complement) (sym (same s.node.0))
  where
    same : (m : ℕ) → node_value N a m ≡ node_value N (numbered (number_by a (length N.inputs))) m
    same m = same-values N a (numbered (number_by a (length N.inputs))) stored (λ i low. sym (number_bit a (length N.inputs) i low)) m
