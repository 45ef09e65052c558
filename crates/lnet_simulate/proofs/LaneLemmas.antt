-- Lanes of words: what the operations on words make of each lane.
use Rattle.std.proofs.Common.{◌≡◌, ◌≢◌, ℕ, suc, ◌+◌, ◌-◌, ◌*◌, ◌^◌, ◌/◌, ◌%◌, ◌<◌, ◌≤◌, ◌⊎◌, Bool, true, false, not, cond, List, [], ◌∷◌, length, map, drop, get_or, refl, sym, ap, subst, ◌∙◌, inl, inr, arith, eqb, ◌==◌, nat_lt, bit_and, bit_or, add-one, drop-cons, lit<}
use mathlib.Core.Bool.{◌&&◌, ◌||◌}
use lib.Bits.{bit_xor}
use Rattle.std.specs.Int.{bit_not, w64}
use Rattle.std.proofs.lemmas.Nat.{pow-add}
use Rattle.std.proofs.lemmas.List.{drop_all}
use Rattle.std.proofs.lemmas.Nat.Bits.{bit_at_ones, bit_at-zero}
use Rattle.std.proofs.lemmas.Bool.{eq-eqb, eqb-true, ne_eqb, lt-ltb, le-ltb, cases_lt, and_from, and_left, and_right}
use Rattle.std.proofs.lemmas.Bool.Decides.{eqb_tells}
use Rattle.lnet_tables.specs.Bits.{is_set}
use Rattle.lnet_tables.proofs.Ops.{set_and, set_not, set_xor}
use Rattle.lnet_tables.proofs.Swap.{set_or}
use Rattle.lnet_gates.specs.declared.signal.Signal.{Signal}
use Rattle.lnet_gates.specs.declared.gate.Op.{Op}
use Rattle.lnet_gates.specs.declared.gate.Op.TheVariants.{And, Xor, Maj, Lut}
use Rattle.lnet_gates.specs.Gates.{GateValue, flip, row_of, operate, apply}

pub no-lane : (j : ℕ) → is_set 0 j ≡ false
unfolding is_set
no-lane j = rw bit_at-zero refl

pub each-lane : (j : ℕ) → j < 64 → is_set 18446744073709551615 j ≡ true
unfolding is_set
each-lane j lt = ap (λ k. k == 1) (bit_at_ones 64 j lt)

-- ---- the lanes at which the fanins have a row's values

two_more : (n : ℕ) → 2 ^ suc n ≡ 2 * 2 ^ n
two_more n = ap (λ k. 2 ^ k) (sym (add-one n)) ∙ pow-add 2 n 1 ∙ omega arith

same-tests : (a b c d : ℕ) → (a ≡ b → c ≡ d) → (c ≡ d → a ≡ b) → eqb a b ≡ eqb c d
same-tests a b c d to back = elim (eqb_tells a b) as (λ _. eqb a b ≡ eqb c d) [
  | inl p ↦ p.0 ∙ sym (eq-eqb c d (to p.1))
  | inr p ↦ p.0 ∙ sym (ne_eqb c d (λ e. p.1 (back e)))
]

and-false : (w : Bool) → (w && false) ≡ false
and-false true = refl
and-false false = refl

and-true : (w : Bool) → (w && true) ≡ w
and-true true = refl
and-true false = refl

and-and : (a b c : Bool) → ((a && b) && c) ≡ (a && (b && c))
and-and true b c = refl
and-and false b c = refl

-- the row and the values agree in their first place and in the rest
pub first-place : (t b : Bool) (rest x : ℕ) → eqb (rest % 2) 1 ≡ t → (cond t b (not b) && eqb (rest / 2) x) ≡ eqb rest (cond b 1 0 + 2 * x)
first-place true true rest x is = let one = eqb-true (rest % 2) 1 is in same-tests (rest / 2) x rest (1 + 2 * x) (λ e. omega arith) (λ e. omega arith)
first-place true false rest x is = let one = eqb-true (rest % 2) 1 is in sym (ne_eqb rest (0 + 2 * x) (λ e. omega arith))
first-place false true rest x is =
    let none : rest % 2 ≢ 1 = (λ e. let z : false ≡ true = sym is ∙ eq-eqb (rest % 2) 1 e in cc) in
    sym (ne_eqb rest (1 + 2 * x) (λ e. none (omega arith)))
first-place false false rest x is =
    let none : rest % 2 ≢ 1 = (λ e. let z : false ≡ true = sym is ∙ eq-eqb (rest % 2) 1 e in cc) in
    same-tests (rest / 2) x rest (0 + 2 * x) (λ e. let lt : rest % 2 < 2 = omega arith in omega arith) (λ e. omega arith)

-- the values of the signals from a place on
pub rest-values : (f : Signal → Bool) (ss : List Signal) (i : ℕ) (d : Signal) → i < length ss → row_of (map f (drop i ss)) ≡ cond (f (get_or ss i d)) 1 0 + 2 * row_of (map f (drop (i + 1) ss))
rest-values f ss i d low = ap (λ (ts : List Signal). row_of (map f ts)) (drop-cons ss i d low) ∙ ap (λ (k : ℕ). cond (f (get_or ss i d)) 1 0 + 2 * row_of (map f (drop k ss))) (sym (add-one i))

-- one fanin more
pub row-step : (f : Signal → Bool) (ss : List Signal) (i : ℕ) (d : Signal) (word value rest row j : ℕ) (t : Bool)
    → i < length ss → j < 64 → value < 2 ^ 64
    → eqb (rest % 2) 1 ≡ t
    → is_set value j ≡ f (get_or ss i d)
    → (is_set word j && eqb rest (row_of (map f (drop i ss)))) ≡ eqb row (row_of (map f ss))
    → (is_set (bit_and word (cond t value (bit_not w64 value))) j && eqb (rest / 2) (row_of (map f (drop (i + 1) ss)))) ≡ eqb row (row_of (map f ss))
row-step f ss i d word value rest row j t low lt fits is at before =
    ap (λ b. b && eqb (rest / 2) (row_of (map f (drop (i + 1) ss)))) (set_and word (cond t value (bit_not w64 value)) j ∙ ap (λ b. is_set word j && b) (chosen t ∙ ap (λ b. cond t b (not b)) at))
    ∙ and-and (is_set word j) (cond t (f (get_or ss i d)) (not (f (get_or ss i d)))) (eqb (rest / 2) (row_of (map f (drop (i + 1) ss))))
    ∙ ap (λ b. is_set word j && b) (first-place t (f (get_or ss i d)) rest (row_of (map f (drop (i + 1) ss))) is ∙ ap (eqb rest) (sym (rest-values f ss i d low)))
    ∙ before
  where
    chosen : (t : Bool) → is_set (cond t value (bit_not w64 value)) j ≡ cond t (is_set value j) (not (is_set value j))
    chosen true = refl
    chosen false = set_not value j fits lt

-- the row's part that is left, below the rows of the fanins that are left
pub half-low : (rest n i : ℕ) → i < n → rest < 2 ^ (n - i) → rest / 2 < 2 ^ (n - (i + 1))
half-low rest n i low h =
    let e : n - i ≡ suc (n - (i + 1)) = omega arith in
    let k : rest < 2 * 2 ^ (n - (i + 1)) = subst (λ (m : ℕ). rest < m) (ap (λ (m : ℕ). 2 ^ m) e ∙ two_more (n - (i + 1))) h in
    omega arith

-- no fanin left
pub row-end : (f : Signal → Bool) (ss : List Signal) (i : ℕ) (word rest row j : ℕ) → length ss ≤ i → rest < 2 ^ (length ss - i)
    → (is_set word j && eqb rest (row_of (map f (drop i ss)))) ≡ eqb row (row_of (map f ss)) → is_set word j ≡ eqb row (row_of (map f ss))
row-end f ss i word rest row j past low at =
    let e : length ss - i ≡ 0 = omega arith in
    let small : rest < 1 = subst (λ (m : ℕ). rest < 2 ^ m) e low in
    let none : rest ≡ 0 = omega arith in
    let nothing : row_of (map f (drop i ss)) ≡ 0 = ap (λ (ts : List Signal). row_of (map f ts)) (drop_all i ss past) in
    sym (and-true (is_set word j)) ∙ ap (λ b. is_set word j && b) (sym (eq-eqb rest (row_of (map f (drop i ss))) (none ∙ sym nothing))) ∙ at

-- ---- the true rows of a table

doubled-below : (b : Bool) (x n : ℕ) → x < 2 ^ n → cond b 1 0 + 2 * x < 2 ^ suc n
doubled-below true x n h = let e = two_more n in omega arith
doubled-below false x n h = let e = two_more n in omega arith

pub row-below : (f : Signal → Bool) (ss : List Signal) → row_of (map f ss) < 2 ^ length ss
row-below f [] = lit< tt
row-below f (s ∷ ss) = doubled-below (f s) (row_of (map f ss)) (length ss) (row-below f ss)

or-true : (b : Bool) → (b || true) ≡ true
or-true true = refl
or-true false = refl

or-false : (b : Bool) → (b || false) ≡ b
or-false true = refl
or-false false = refl

-- below the next number, for a number that isn't this one
below-next : (x row : ℕ) → row ≢ x → nat_lt x row ≡ nat_lt x (row + 1)
below-next x row apart = elim (cases_lt x row) as (λ _. nat_lt x row ≡ nat_lt x (row + 1)) [
  | inl lt ↦ lt-ltb x row lt ∙ sym (lt-ltb x (row + 1) (omega arith))
  | inr ge ↦ le-ltb x row ge ∙ sym (le-ltb x (row + 1) (let ne = apart in omega arith))
]

-- one row more, and it is true
pub true-row : (word r row j x table : ℕ) → is_set table row ≡ true → is_set r j ≡ eqb row x → is_set word j ≡ (nat_lt x row && is_set table x) → is_set (bit_or word r) j ≡ (nat_lt x (row + 1) && is_set table x)
true-row word r row j x table holds at before =
    set_or word r j ∙ ap (λ b. b || is_set r j) before ∙ ap (λ b. (nat_lt x row && is_set table x) || b) at ∙ by (eqb_tells row x)
  where
    by : ((eqb row x ≡ true) × (row ≡ x)) ⊎ ((eqb row x ≡ false) × (row ≢ x)) → ((nat_lt x row && is_set table x) || eqb row x) ≡ (nat_lt x (row + 1) && is_set table x)
    by (inl p) =
        ap (λ b. (nat_lt x row && is_set table x) || b) p.0 ∙ or-true (nat_lt x row && is_set table x)
        ∙ sym (and_from (nat_lt x (row + 1)) (is_set table x) (lt-ltb x (row + 1) (let e = p.1 in omega arith)) (ap (is_set table) (sym p.1) ∙ holds))
    by (inr p) =
        ap (λ b. (nat_lt x row && is_set table x) || b) p.0 ∙ or-false (nat_lt x row && is_set table x)
        ∙ ap (λ b. b && is_set table x) (below-next x row p.1)

-- one row more, and it is false
pub false-row : (word row j x table : ℕ) → is_set table row ≡ false → is_set word j ≡ (nat_lt x row && is_set table x) → is_set word j ≡ (nat_lt x (row + 1) && is_set table x)
false-row word row j x table clear before = before ∙ by (eqb_tells row x)
  where
    by : ((eqb row x ≡ true) × (row ≡ x)) ⊎ ((eqb row x ≡ false) × (row ≢ x)) → (nat_lt x row && is_set table x) ≡ (nat_lt x (row + 1) && is_set table x)
    by (inl p) =
        let none = ap (is_set table) (sym p.1) ∙ clear in
        and_right (nat_lt x row) (is_set table x) none ∙ sym (and_right (nat_lt x (row + 1)) (is_set table x) none)
    by (inr p) = ap (λ b. b && is_set table x) (below-next x row p.1)

-- no row yet
pub no-row : (j x table : ℕ) → is_set 0 j ≡ (nat_lt x 0 && is_set table x)
no-row j x table = no-lane j ∙ sym (and_left (nat_lt x 0) (is_set table x) (le-ltb x 0 (omega arith)))

-- all rows
pub all-rows : (word j n x table : ℕ) → x < n → is_set word j ≡ (nat_lt x n && is_set table x) → is_set word j ≡ is_set table x
all-rows word j n x table low at = at ∙ ap (λ b. b && is_set table x) (lt-ltb x n low)

-- ---- operations on fanins

pub and-word : (f : Signal → Bool) (ss : List Signal) (d e : Signal) (a b j : ℕ) → length ss ≡ 2 → is_set a j ≡ f (get_or ss 0 d) → is_set b j ≡ f (get_or ss 1 e) → is_set (bit_and a b) j ≡ operate And (map f ss)
and-word f [] d e a b j two at_a at_b = absurd (omega arith)
and-word f (s ∷ []) d e a b j two at_a at_b = absurd (omega arith)
and-word f (s ∷ t ∷ []) d e a b j two at_a at_b = rw (set_and a b j, at_a, at_b) refl
and-word f (s ∷ t ∷ u ∷ ss) d e a b j two at_a at_b = absurd (omega arith)

pub xor-word : (f : Signal → Bool) (ss : List Signal) (d e : Signal) (a b j : ℕ) → length ss ≡ 2 → is_set a j ≡ f (get_or ss 0 d) → is_set b j ≡ f (get_or ss 1 e) → is_set (bit_xor a b) j ≡ operate Xor (map f ss)
xor-word f [] d e a b j two at_a at_b = absurd (omega arith)
xor-word f (s ∷ []) d e a b j two at_a at_b = absurd (omega arith)
xor-word f (s ∷ t ∷ []) d e a b j two at_a at_b = rw (set_xor a b j, at_a, at_b) refl
xor-word f (s ∷ t ∷ u ∷ ss) d e a b j two at_a at_b = absurd (omega arith)

pub maj-word : (f : Signal → Bool) (ss : List Signal) (d e z : Signal) (a b c j : ℕ) → length ss ≡ 3 → is_set a j ≡ f (get_or ss 0 d) → is_set b j ≡ f (get_or ss 1 e) → is_set c j ≡ f (get_or ss 2 z) → is_set (bit_or (bit_and a b) (bit_and c (bit_or a b))) j ≡ operate Maj (map f ss)
maj-word f [] d e z a b c j three at_a at_b at_c = absurd (omega arith)
maj-word f (s ∷ []) d e z a b c j three at_a at_b at_c = absurd (omega arith)
maj-word f (s ∷ t ∷ []) d e z a b c j three at_a at_b at_c = absurd (omega arith)
maj-word f (s ∷ t ∷ u ∷ []) d e z a b c j three at_a at_b at_c = rw (set_or (bit_and a b) (bit_and c (bit_or a b)) j, set_and a b j, set_and c (bit_or a b) j, set_or a b j, at_a, at_b, at_c) refl
maj-word f (s ∷ t ∷ u ∷ v ∷ ss) d e z a b c j three at_a at_b at_c = absurd (omega arith)

pub lut-word : (w j t : ℕ) (bs : List Bool) → is_set w j ≡ is_set t (row_of bs) → is_set w j ≡ operate (Lut t) bs
unfolding is_set
lut-word w j t bs at = at

-- a gate with a phase
pub phase-word : (f : Signal → Bool) (g : GateValue) (op : Op) (ss : List Signal) (w j : ℕ) → w < 2 ^ 64 → j < 64 → op ≡ g.op → ss ≡ g.fanins → g.phase ≡ true → is_set w j ≡ operate op (map f ss) → is_set (bit_not w64 w) j ≡ apply g.op g.phase (map f g.fanins)
phase-word f g op ss w j fits lt same_op same phase at =
    set_not w j fits lt ∙ ap not (at ∙ ap (λ o. operate o (map f ss)) same_op ∙ ap (λ (ts : List Signal). operate g.op (map f ts)) same)
    ∙ ap (λ p. flip p (operate g.op (map f g.fanins))) (sym phase)
