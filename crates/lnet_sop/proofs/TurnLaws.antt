-- The irredundant sum of products lies between its bounds, its cubes are prime implicants of the upper bound, and each of
-- them is needed.
use Rattle.std.proofs.Common.{◌≡◌, ℕ, zero, suc, ◌+◌, ◌*◌, ◌^◌, ◌<◌, Bool, true, false, not, cond, List, [], ◌∷◌, ◌++◌, map, length, refl, sym, ◌∙◌, ap, subst, arith, ◌||◌, inl, inr, get_or, ◌⊎◌}
use Rattle.std.specs.Prelude.{◌&&◌, All}
use Rattle.std.specs.List.{list_any, count_by}
use mathlib.Core.Bool.{beq}
use Rattle.std.proofs.lemmas.Bool.{cases_lt, false≢true, or_cases, or_parts, and_parts, and_cases, and_from, cases_Bool, not-true, false_from_ne_true, or_left, or_right}
use Rattle.std.proofs.lemmas.List.Elements.{All-head, All-tail, All-cons, All-nil, All-append, All-map, All-weaker}
use Rattle.std.proofs.lemmas.List.Sums.{sum_by-append}
use Rattle.lnet_tables.specs.Bits.{Rows, row, by_rows, bit_of, is_set, equal_rows, and_rows, not_rows, constant_rows}
use Rattle.lnet_tables.specs.Inverse.{row_inside}
use Rattle.lnet_tables.specs.Shannon.{is_constant}
use Rattle.lnet_tables.proofs.Equal.{equal_rows_decides}
use Rattle.lnet_tables.proofs.Rowwise.{rows_long, told_by_rows}
use Rattle.lnet_sop.specs.declared.cover.Cube.{Cube}
use Rattle.lnet_sop.specs.Covers.{holds, covers, union_rows, IsCube}
use Rattle.lnet_sop.specs.Isop.{universe, with_literal, half, or_rows, minus_rows, by_last, by_bounds, cubes_of}
use Rattle.lnet_sop.specs.Irredundant.{without, Exceeds, IsPrime, IsNeeded}
use Rattle.lnet_sop.proofs.CubeRows.{set_low, set_above, set_none, row_fits, by_value, holds_universe, holds_free, holds_with, count_like, count_map, count_none, count_cons, covers_free, covers_step, and_true}
use Rattle.lnet_sop.proofs.Cubes.{cubes_each}
use Rattle.lnet_sop.proofs.Without.{cleared_le, without_with, without_last}

-- ---- tables
-- a table of n variables, with a value for each row
pub record IsTable (n : ℕ) (t : Rows) : Type 0 where
  pub vars : t.vars ≡ n
  pub long : length t.bits ≡ 2 ^ n

by_table : (n : ℕ) (f : ℕ → Bool) → IsTable n (by_rows n f)
by_table n f = record { vars = refl; long = rows_long n f }

and_table : (n : ℕ) (a b : Rows) → IsTable n a → IsTable n (and_rows a b)
and_table n a b h = record { vars = h.vars; long = rows_long a.vars _ ∙ ap (λ k. 2 ^ k) h.vars }

or_table : (n : ℕ) (a b : Rows) → IsTable n a → IsTable n (or_rows a b)
or_table n a b h = record { vars = h.vars; long = rows_long a.vars _ ∙ ap (λ k. 2 ^ k) h.vars }

below : (n : ℕ) (t : Rows) (r : ℕ) → IsTable n t → r < 2 ^ n → r < 2 ^ t.vars
below n t r h lt = subst (λ (k : ℕ). r < 2 ^ k) (sym h.vars) lt

and_row : (n : ℕ) (a b : Rows) (r : ℕ) → IsTable n a → r < 2 ^ n → row (and_rows a b) r ≡ (row a r && row b r)
and_row n a b r h lt = row_inside a.vars _ r (below n a r h lt)

minus_row : (n : ℕ) (a b : Rows) (r : ℕ) → IsTable n a → IsTable n b → r < 2 ^ n → row (minus_rows a b) r ≡ (row a r && not (row b r))
minus_row n a b r h k lt = and_row n a (not_rows b) r h lt ∙ ap (λ t. row a r && t) (row_inside b.vars _ r (below n b r k lt))

or_row : (n : ℕ) (a b : Rows) (r : ℕ) → IsTable n a → r < 2 ^ n → row (or_rows a b) r ≡ (row a r || row b r)
or_row n a b r h lt = row_inside a.vars _ r (below n a r h lt)

half_row : (n : ℕ) (t : Rows) (b : Bool) (x : ℕ) → x < 2 ^ n → row (half t n b) x ≡ row t (bit_of b * 2 ^ n + x)
half_row n t b x lt = row_inside n (λ r. row t (bit_of b * 2 ^ n + r)) x lt

-- a constant table, and one that isn't false
constant_rows_are : (n : ℕ) (t : Rows) (b : Bool) (r : ℕ) → t.vars ≡ n → is_constant t b ≡ true → r < 2 ^ n → row t r ≡ b
constant_rows_are n t b r h e lt = ap (λ (x : Rows). row x r) ((equal_rows_decides t (constant_rows t.vars b)).0 e) ∙ row_inside t.vars (λ k. b) r (subst (λ (k : ℕ). r < 2 ^ k) (sym h) lt)

some_row : (f : ℕ → Bool) (k : ℕ) → ((r : ℕ) × (r < k) × (f r ≡ true)) ⊎ ((r : ℕ) → r < k → f r ≡ false)
some_row f zero = inr (λ r lt. absurd (omega arith))
some_row f (suc k) =
    elim (cases_Bool (f k)) [
      | inl on ↦ inl (k, omega arith, on)
      | inr off ↦ elim (some_row f k) [
        | inl found ↦ inl (found.0, omega arith, found.2)
        | inr all ↦ inr (λ r lt. elim (cases_lt r k) [
          | inl l ↦ all r l
          | inr g ↦ let e : k ≡ r = omega arith in subst (λ (j : ℕ). f j ≡ false) e off
        ])
      ]
    ]

true_row : (n : ℕ) (t : Rows) → IsTable n t → is_constant t false ≡ false → (r : ℕ) × (r < 2 ^ n) × (row t r ≡ true)
true_row n t h e =
    elim (some_row (row t) (2 ^ n)) [
      | inl found ↦ found
      | inr none ↦
          let same : t ≡ constant_rows t.vars false = told_by_rows t t.vars (λ r. false) refl (h.long ∙ ap (λ k. 2 ^ k) (sym h.vars)) (λ r lt. none r (subst (λ (k : ℕ). r < 2 ^ k) h.vars lt)) in
          absurd (false≢true (sym e ∙ (equal_rows_decides t (constant_rows t.vars false)).1 same))
    ]

-- ---- the laws
abbrev pub Implies : ℕ → Rows → Rows → Type 0
Implies n l u = (r : ℕ) → r < 2 ^ n → row l r ≡ true → row u r ≡ true

pub record Lawful (n : ℕ) (l u : Rows) (cs : List Cube) : Type 0 where
  pub due : (r : ℕ) → r < 2 ^ n → row l r ≡ true → covers n cs r ≡ true
  pub primes : All (IsPrime n u) cs
  pub needed : All (IsNeeded n l cs) cs

-- ---- lists of implicants
-- what a list of implicants covers is true
pub within : (n : ℕ) (u : Rows) (cs : List Cube) → All (IsPrime n u) cs → (r : ℕ) → r < 2 ^ n → covers n cs r ≡ true → row u r ≡ true
within n u [] h r lt e = absurd (false≢true e)
within n u (c ∷ cs) h r lt e =
    elim (or_cases (holds n c r) (covers n cs r) e) [
      | inl here ↦ (All-head (IsPrime n u) c cs h).implies r lt here
      | inr later ↦ within n u cs (All-tail (IsPrime n u) c cs h) r lt later
    ]

none_hold : (n : ℕ) (u : Rows) (cs : List Cube) (r : ℕ) → All (IsPrime n u) cs → r < 2 ^ n → row u r ≡ false → count_by (λ d. holds n d r) cs ≡ 0
none_hold n u cs r h lt off =
    count_like (λ d. holds n d r) (λ d. false) cs (λ k d l. false_from_ne_true (holds n (get_or cs k d) r) (λ e. false≢true (sym off ∙ (h k d l).implies r lt e)))
    ∙ count_none cs

none_counted : (f : Cube → Bool) (cs : List Cube) → list_any f cs ≡ false → count_by f cs ≡ 0
none_counted f [] h = refl
none_counted f (c ∷ cs) h =
    let p : (f c ≡ false) × (list_any f cs ≡ false) = or_parts (f c) (list_any f cs) h in
    count_cons f c cs ∙ ap (λ b. cond b 1 0 + count_by f cs) p.0 ∙ omega (arith, none_counted f cs p.1)

-- ---- one row is one row more
without_small : (n i : ℕ) (c : Cube) → IsCube n c → (without i c).care < 2 ^ n
without_small n i c h = omega (arith, cleared_le c.care i, h.care)

without_value : (n i : ℕ) (c : Cube) → IsCube n c → (without i c).value < 2 ^ n
without_value n i c h = omega (arith, cleared_le c.value i, h.value)

same_literal : (b : Bool) → beq b b ≡ true
same_literal true = refl
same_literal false = refl

equal_literals : (p b : Bool) → beq p b ≡ true → p ≡ b
equal_literals true true e = refl
equal_literals true false e = absurd (false≢true e)
equal_literals false true e = absurd (false≢true e)
equal_literals false false e = refl

-- a cube with the literal, where it is true
holds_there : (n : ℕ) (p : Bool) (c : Cube) (x : ℕ) → c.care < 2 ^ n → c.value < 2 ^ n → x < 2 ^ n → holds n c x ≡ true → holds (suc n) (with_literal n p c) (bit_of p * 2 ^ n + x) ≡ true
holds_there n p c x care value lt h = holds_with n p c p x care value lt ∙ and_from (holds n c x) (beq p p) h (same_literal p)

-- ---- prime implicants of one variable more
-- a cube that doesn't care about the last variable, of which the function is `low` where the last variable has any value
prime_free : (n : ℕ) (u : Rows) (c : Cube) → IsCube n c
    → ((b : Bool) (x : ℕ) → x < 2 ^ n → holds n c x ≡ true → row u (bit_of b * 2 ^ n + x) ≡ true)
    → ((i : ℕ) → i < n → is_set c.care i ≡ true → (b : Bool) × (x : ℕ) × (x < 2 ^ n) × (holds n (without i c) x ≡ true) × (row u (bit_of b * 2 ^ n + x) ≡ false))
    → IsPrime (suc n) u c
prime_free n u c cube all off = record {
  implies = by_value n (λ r. holds (suc n) c r ≡ true → row u r ≡ true) (λ b x lt h. all b x lt (sym (holds_free n c b x cube.care) ∙ h));
  least = λ i lt s. elim (cases_lt i n) [
    | inl l ↦
        let w = off i l s in
        record { row_at = bit_of w.0 * 2 ^ n + w.1; inside = row_fits w.0 n w.1 w.2; covered = holds_free n (without i c) w.0 w.1 (without_small n i c cube) ∙ w.3; off = w.4 }
    | inr g ↦ absurd (false≢true (sym (set_above n c.care i cube.care g) ∙ s))
  ];
}

-- a cube with the literal of the last variable that holds where it is p: own is the function there, and other where it isn't
prime_with : (n : ℕ) (p : Bool) (u l own other : Rows) (cs : List Cube) (c : Cube) → IsCube n c → IsTable n l → IsTable n other
    → ((x : ℕ) → x < 2 ^ n → row own x ≡ row u (bit_of p * 2 ^ n + x))
    → ((x : ℕ) → x < 2 ^ n → row other x ≡ row u (bit_of (not p) * 2 ^ n + x))
    → IsPrime n own c → IsNeeded n (minus_rows l other) cs c → IsPrime (suc n) u (with_literal n p c)
prime_with n p u l own other cs c cube tl to here there prime need = record {
  implies = by_value n (λ r. holds (suc n) (with_literal n p c) r ≡ true → row u r ≡ true) (λ b x lt h.
      let both : (holds n c x ≡ true) × (beq p b ≡ true) = and_parts (holds n c x) (beq p b) (sym (holds_with n p c b x cube.care cube.value lt) ∙ h) in
      subst (λ (k : Bool). row u (bit_of k * 2 ^ n + x) ≡ true) (equal_literals p b both.1) (sym (here x lt) ∙ prime.implies x lt both.0));
  least = λ i lt s. elim (cases_lt i n) [
    | inl l ↦
        let e : 2 ^ n + c.care ≡ 1 * 2 ^ n + c.care = omega arith in
        let w : Exceeds n own (without i c) = prime.least i l (sym (ap (λ k. is_set k i) e ∙ set_low 1 n c.care i l) ∙ s) in
        record {
          row_at = bit_of p * 2 ^ n + w.row_at;
          inside = row_fits p n w.row_at w.inside;
          covered = ap (λ (d : Cube). holds (suc n) d (bit_of p * 2 ^ n + w.row_at)) (without_with n i p c l)
              ∙ holds_there n p (without i c) w.row_at (without_small n i c cube) (without_value n i c cube) w.inside w.covered;
          off = sym (here w.row_at w.inside) ∙ w.off;
        }
    | inr g ↦
        let same : n ≡ i = omega arith in
        let off : not (row other need.row_at) ≡ true = (and_parts (row l need.row_at) (not (row other need.row_at)) (sym (minus_row n l other need.row_at tl to need.inside) ∙ need.due)).1 in
        subst (λ (k : ℕ). Exceeds (suc n) u (without k (with_literal n p c))) same (record {
          row_at = bit_of (not p) * 2 ^ n + need.row_at;
          inside = row_fits (not p) n need.row_at need.inside;
          covered = ap (λ (d : Cube). holds (suc n) d (bit_of (not p) * 2 ^ n + need.row_at)) (without_last n p c cube.care cube.value)
              ∙ holds_free n c (not p) need.row_at cube.care ∙ need.covered;
          off = sym (there need.row_at need.inside) ∙ not-true (row other need.row_at) off;
        })
  ];
}

-- ---- how many cubes hold at a row of one variable more
count_free : (n : ℕ) (cs : List Cube) (b : Bool) (x : ℕ) → All (IsCube n) cs → count_by (λ c. holds (suc n) c (bit_of b * 2 ^ n + x)) cs ≡ count_by (λ c. holds n c x) cs
count_free n cs b x each =
    count_like (λ c. holds (suc n) c (bit_of b * 2 ^ n + x)) (λ c. holds n c x) cs (All-weaker (IsCube n) _ (λ c h. holds_free n c b x h.care) cs each)

count_with : (n : ℕ) (p : Bool) (cs : List Cube) (b : Bool) (x : ℕ) → x < 2 ^ n → All (IsCube n) cs
    → count_by (λ c. holds (suc n) c (bit_of b * 2 ^ n + x)) (map (with_literal n p) cs) ≡ cond (beq p b) (count_by (λ c. holds n c x) cs) 0
count_with n p cs b x lt each =
    count_map (λ c. holds (suc n) c (bit_of b * 2 ^ n + x)) (with_literal n p) cs
    ∙ count_like (λ c. holds (suc n) (with_literal n p c) (bit_of b * 2 ^ n + x)) (λ c. holds n c x && beq p b) cs (All-weaker (IsCube n) _ (λ c h. holds_with n p c b x h.care h.value lt) cs each)
    ∙ go (beq p b) where
      go : (t : Bool) → count_by (λ c. holds n c x && t) cs ≡ cond t (count_by (λ c. holds n c x) cs) 0
      go true = count_like (λ c. holds n c x && true) (λ c. holds n c x) cs (λ k d l. and_true (holds n (get_or cs k d) x))
      go false = count_like (λ c. holds n c x && false) (λ c. false) cs (λ k d l. false_from_ne_true (holds n (get_or cs k d) x && false) (λ e. false≢true ((and_parts (holds n (get_or cs k d) x) false e).1))) ∙ count_none cs

count_step : (n : ℕ) (c0 c1 cd : List Cube) (b : Bool) (x : ℕ) → x < 2 ^ n → All (IsCube n) c0 → All (IsCube n) c1 → All (IsCube n) cd
    → count_by (λ c. holds (suc n) c (bit_of b * 2 ^ n + x)) (map (with_literal n false) c0 ++ (map (with_literal n true) c1 ++ cd))
    ≡ cond (beq false b) (count_by (λ c. holds n c x) c0) 0 + (cond (beq true b) (count_by (λ c. holds n c x) c1) 0 + count_by (λ c. holds n c x) cd)
count_step n c0 c1 cd b x lt h0 h1 hd =
    let f : Cube → Bool = λ c. holds (suc n) c (bit_of b * 2 ^ n + x) in
    sum_by-append (λ c. cond (f c) 1 0) (map (with_literal n false) c0) (map (with_literal n true) c1 ++ cd)
    ∙ ap (λ k. count_by f (map (with_literal n false) c0) + k) (sum_by-append (λ c. cond (f c) 1 0) (map (with_literal n true) c1) cd)
    ∙ ap (λ k. k + (count_by f (map (with_literal n true) c1) + count_by f cd)) (count_with n false c0 b x lt h0)
    ∙ ap (λ k. cond (beq false b) (count_by (λ c. holds n c x) c0) 0 + (k + count_by f cd)) (count_with n true c1 b x lt h1)
    ∙ ap (λ k. cond (beq false b) (count_by (λ c. holds n c x) c0) 0 + (cond (beq true b) (count_by (λ c. holds n c x) c1) 0 + k)) (count_free n cd b x hd)

-- ---- a turn by the last variable
-- what is known of the two bounds and of their halves
record Halves (n : ℕ) (l u low high under over : Rows) : Type 0 where
  low_is : IsTable n low
  high_is : IsTable n high
  under_is : IsTable n under
  over_is : IsTable n over
  low_row : (x : ℕ) → x < 2 ^ n → row low x ≡ row l (bit_of false * 2 ^ n + x)
  high_row : (x : ℕ) → x < 2 ^ n → row high x ≡ row l (bit_of true * 2 ^ n + x)
  under_row : (x : ℕ) → x < 2 ^ n → row under x ≡ row u (bit_of false * 2 ^ n + x)
  over_row : (x : ℕ) → x < 2 ^ n → row over x ≡ row u (bit_of true * 2 ^ n + x)
  first : Implies n low under
  second : Implies n high over

halves_of : (n : ℕ) (l u : Rows) → Implies (suc n) l u → Halves n l u (half l n false) (half l n true) (half u n false) (half u n true)
halves_of n l u h = record {
  low_is = by_table n _;
  high_is = by_table n _;
  under_is = by_table n _;
  over_is = by_table n _;
  low_row = half_row n l false;
  high_row = half_row n l true;
  under_row = half_row n u false;
  over_row = half_row n u true;
  first = λ x lt e. half_row n u false x lt ∙ h (bit_of false * 2 ^ n + x) (row_fits false n x lt) (sym (half_row n l false x lt) ∙ e);
  second = λ x lt e. half_row n u true x lt ∙ h (bit_of true * 2 ^ n + x) (row_fits true n x lt) (sym (half_row n l true x lt) ∙ e);
}

-- what the three covers of a turn are
record Parts (n : ℕ) (low high under over : Rows) (c0 c1 cd : List Cube) : Type 0 where
  cubes0 : All (IsCube n) c0
  cubes1 : All (IsCube n) c1
  cubesd : All (IsCube n) cd
  law0 : Lawful n (minus_rows low over) under c0
  law1 : Lawful n (minus_rows high under) over c1
  lawd : Lawful n (or_rows (minus_rows low (union_rows n c0)) (minus_rows high (union_rows n c1))) (and_rows under over) cd

minus_first : (n : ℕ) (a b u : Rows) → IsTable n a → IsTable n b → Implies n a u → Implies n (minus_rows a b) u
minus_first n a b u ha hb h r lt e = h r lt (and_parts (row a r) (not (row b r)) (sym (minus_row n a b r ha hb lt) ∙ e)).0

-- the rows that are left lie within both upper bounds
left_row : (n : ℕ) (low high : Rows) (c0 c1 : List Cube) (x : ℕ) → IsTable n low → IsTable n high → x < 2 ^ n
    → row (or_rows (minus_rows low (union_rows n c0)) (minus_rows high (union_rows n c1))) x ≡ ((row low x && not (covers n c0 x)) || (row high x && not (covers n c1 x)))
left_row n low high c0 c1 x hl hh lt =
    or_row n (minus_rows low (union_rows n c0)) (minus_rows high (union_rows n c1)) x (and_table n low (not_rows (union_rows n c0)) hl) lt
    ∙ ap (λ t. t || row (minus_rows high (union_rows n c1)) x) (minus_row n low (union_rows n c0) x hl (by_table n (covers n c0)) lt ∙ ap (λ t. row low x && not t) (row_inside n (covers n c0) x lt))
    ∙ ap (λ t. (row low x && not (covers n c0 x)) || t) (minus_row n high (union_rows n c1) x hh (by_table n (covers n c1)) lt ∙ ap (λ t. row high x && not t) (row_inside n (covers n c1) x lt))

-- a row of one half that its own cover leaves out lies within the other upper bound
other_bound : (n : ℕ) (low over under : Rows) (cs : List Cube) (x : ℕ) → IsTable n low → IsTable n over → x < 2 ^ n → Lawful n (minus_rows low over) under cs
    → row low x ≡ true → covers n cs x ≡ false → row over x ≡ true
other_bound n low over under cs x hl ho lt law due free =
    elim (cases_Bool (row over x)) [
      | inl on ↦ on
      | inr off ↦ absurd (false≢true (sym free ∙ law.due x lt (minus_row n low over x hl ho lt ∙ and_from (row low x) (not (row over x)) due (ap not off))))
    ]

left_implies : (n : ℕ) (l u low high under over : Rows) (c0 c1 : List Cube) → Halves n l u low high under over
    → Lawful n (minus_rows low over) under c0 → Lawful n (minus_rows high under) over c1
    → Implies n (or_rows (minus_rows low (union_rows n c0)) (minus_rows high (union_rows n c1))) (and_rows under over)
left_implies n l u low high under over c0 c1 h law0 law1 x lt e =
    and_row n under over x h.under_is lt
    ∙ elim (or_cases (row low x && not (covers n c0 x)) (row high x && not (covers n c1 x)) (sym (left_row n low high c0 c1 x h.low_is h.high_is lt) ∙ e)) [
      | inl a ↦
          let p : (row low x ≡ true) × (not (covers n c0 x) ≡ true) = and_parts (row low x) (not (covers n c0 x)) a in
          and_from (row under x) (row over x) (h.first x lt p.0) (other_bound n low over under c0 x h.low_is h.over_is lt law0 p.0 (not-true (covers n c0 x) p.1))
      | inr a ↦
          let p : (row high x ≡ true) × (not (covers n c1 x) ≡ true) = and_parts (row high x) (not (covers n c1 x)) a in
          and_from (row under x) (row over x) (other_bound n high under over c1 x h.high_is h.under_is lt law1 p.0 (not-true (covers n c1 x) p.1)) (h.second x lt p.0)
    ]

module _ (n : ℕ) (l u low high under over : Rows) (c0 c1 cd : List Cube) (h : Halves n l u low high under over) (p : Parts n low high under over c0 c1 cd) where
  abbrev all : List Cube
  all = map (with_literal n false) c0 ++ (map (with_literal n true) c1 ++ cd)

  counted : (b : Bool) (x : ℕ) → x < 2 ^ n → count_by (λ c. holds (suc n) c (bit_of b * 2 ^ n + x)) (map (with_literal n false) c0 ++ (map (with_literal n true) c1 ++ cd))
      ≡ cond (beq false b) (count_by (λ c. holds n c x) c0) 0 + (cond (beq true b) (count_by (λ c. holds n c x) c1) 0 + count_by (λ c. holds n c x) cd)
  counted b x lt = count_step n c0 c1 cd b x lt p.cubes0 p.cubes1 p.cubesd

  -- ---- what is due is covered
  due_from : (b : Bool) (x : ℕ) (t v : Bool) → x < 2 ^ n → t ≡ true → (v ≡ false → covers n cd x ≡ true) → (v || covers n cd x) ≡ true
  due_from b x t true lt e d = refl
  due_from b x t false lt e d = d refl

  due_at : (b : Bool) (x : ℕ) → x < 2 ^ n → row l (bit_of b * 2 ^ n + x) ≡ true → (cond b (covers n c1 x) (covers n c0 x) || covers n cd x) ≡ true
  due_at false x lt e = due_from false x true (covers n c0 x) lt refl (λ free. p.lawd.due x lt
      (left_row n low high c0 c1 x h.low_is h.high_is lt ∙ or_left (row low x && not (covers n c0 x)) (row high x && not (covers n c1 x)) (and_from (row low x) (not (covers n c0 x)) (h.low_row x lt ∙ e) (ap not free))))
  due_at true x lt e = due_from true x true (covers n c1 x) lt refl (λ free. p.lawd.due x lt
      (left_row n low high c0 c1 x h.low_is h.high_is lt ∙ or_right (row low x && not (covers n c0 x)) (row high x && not (covers n c1 x)) (and_from (row high x) (not (covers n c1 x)) (h.high_row x lt ∙ e) (ap not free))))

  due_step : (r : ℕ) → r < 2 ^ suc n → row l r ≡ true → covers (suc n) (map (with_literal n false) c0 ++ (map (with_literal n true) c1 ++ cd)) r ≡ true
  due_step = by_value n (λ r. row l r ≡ true → covers (suc n) (map (with_literal n false) c0 ++ (map (with_literal n true) c1 ++ cd)) r ≡ true)
      (λ b x lt e. covers_step n c0 c1 cd b x lt p.cubes0 p.cubes1 p.cubesd ∙ due_at b x lt e)

  -- ---- the cubes are prime
  prime0 : All (IsPrime (suc n) u) (map (with_literal n false) c0)
  prime0 = All-map (IsPrime (suc n) u) (with_literal n false) c0 (λ k d lt.
      prime_with n false u low under over c0 (get_or c0 k d) (p.cubes0 k d lt) h.low_is h.over_is h.under_row h.over_row (p.law0.primes k d lt) (p.law0.needed k d lt))

  prime1 : All (IsPrime (suc n) u) (map (with_literal n true) c1)
  prime1 = All-map (IsPrime (suc n) u) (with_literal n true) c1 (λ k d lt.
      prime_with n true u high over under c1 (get_or c1 k d) (p.cubes1 k d lt) h.high_is h.under_is h.over_row h.under_row (p.law1.primes k d lt) (p.law1.needed k d lt))

  both_true : (b : Bool) (x : ℕ) → x < 2 ^ n → row (and_rows under over) x ≡ true → row u (bit_of b * 2 ^ n + x) ≡ true
  both_true false x lt e = sym (h.under_row x lt) ∙ (and_parts (row under x) (row over x) (sym (and_row n under over x h.under_is lt) ∙ e)).0
  both_true true x lt e = sym (h.over_row x lt) ∙ (and_parts (row under x) (row over x) (sym (and_row n under over x h.under_is lt) ∙ e)).1

  one_false : (x : ℕ) → x < 2 ^ n → row (and_rows under over) x ≡ false → (b : Bool) × (row u (bit_of b * 2 ^ n + x) ≡ false)
  one_false x lt e =
      elim (and_cases (row under x) (row over x) (sym (and_row n under over x h.under_is lt) ∙ e)) [
        | inl a ↦ (false, sym (h.under_row x lt) ∙ a)
        | inr a ↦ (true, sym (h.over_row x lt) ∙ a)
      ]

  primed : All (IsPrime (suc n) u) cd
  primed = λ k d lt.
      let prime : IsPrime n (and_rows under over) (get_or cd k d) = p.lawd.primes k d lt in
      prime_free n u (get_or cd k d) (p.cubesd k d lt)
      (λ b x l e. both_true b x l (prime.implies x l e))
      (λ i l s.
      let w : Exceeds n (and_rows under over) (without i (get_or cd k d)) = prime.least i l s in
      let v : (b : Bool) × (row u (bit_of b * 2 ^ n + w.row_at) ≡ false) = one_false w.row_at w.inside w.off in
      (v.0, w.row_at, w.inside, w.covered, v.1))

  -- ---- the cubes are needed
  -- no cube of both halves holds where one of them is out of bounds
  no_both : (b : Bool) (x : ℕ) → x < 2 ^ n → row u (bit_of b * 2 ^ n + x) ≡ false → count_by (λ c. holds n c x) cd ≡ 0
  no_both b x lt off = none_hold n (and_rows under over) cd x p.lawd.primes lt
      (false_from_ne_true (row (and_rows under over) x) (λ e. false≢true (sym off ∙ both_true b x lt e)))

  need0 : All (IsNeeded (suc n) l all) (map (with_literal n false) c0)
  need0 = All-map (IsNeeded (suc n) l (map (with_literal n false) c0 ++ (map (with_literal n true) c1 ++ cd))) (with_literal n false) c0 (λ k d lt.
      let w : IsNeeded n (minus_rows low over) c0 (get_or c0 k d) = p.law0.needed k d lt in
      let x : ℕ = w.row_at in
      let cube : IsCube n (get_or c0 k d) = p.cubes0 k d lt in
      let q : (row low x ≡ true) × (not (row over x) ≡ true) = and_parts (row low x) (not (row over x)) (sym (minus_row n low over x h.low_is h.over_is w.inside) ∙ w.due) in
      let free : count_by (λ c. holds n c x) cd ≡ 0 = no_both true x w.inside (sym (h.over_row x w.inside) ∙ not-true (row over x) q.1) in
      record {
        row_at = bit_of false * 2 ^ n + x;
        inside = row_fits false n x w.inside;
        due = sym (h.low_row x w.inside) ∙ q.0;
        covered = holds_there n false (get_or c0 k d) x cube.care cube.value w.inside w.covered;
        alone = counted false x w.inside ∙ omega (arith, w.alone, free);
      })

  need1 : All (IsNeeded (suc n) l all) (map (with_literal n true) c1)
  need1 = All-map (IsNeeded (suc n) l (map (with_literal n false) c0 ++ (map (with_literal n true) c1 ++ cd))) (with_literal n true) c1 (λ k d lt.
      let w : IsNeeded n (minus_rows high under) c1 (get_or c1 k d) = p.law1.needed k d lt in
      let x : ℕ = w.row_at in
      let cube : IsCube n (get_or c1 k d) = p.cubes1 k d lt in
      let q : (row high x ≡ true) × (not (row under x) ≡ true) = and_parts (row high x) (not (row under x)) (sym (minus_row n high under x h.high_is h.under_is w.inside) ∙ w.due) in
      let free : count_by (λ c. holds n c x) cd ≡ 0 = no_both false x w.inside (sym (h.under_row x w.inside) ∙ not-true (row under x) q.1) in
      record {
        row_at = bit_of true * 2 ^ n + x;
        inside = row_fits true n x w.inside;
        due = sym (h.high_row x w.inside) ∙ q.0;
        covered = holds_there n true (get_or c1 k d) x cube.care cube.value w.inside w.covered;
        alone = counted true x w.inside ∙ omega (arith, w.alone, free);
      })

  needd : All (IsNeeded (suc n) l all) cd
  needd = λ k d lt.
      let w : IsNeeded n (or_rows (minus_rows low (union_rows n c0)) (minus_rows high (union_rows n c1))) cd (get_or cd k d) = p.lawd.needed k d lt in
      let x : ℕ = w.row_at in
      let cube : IsCube n (get_or cd k d) = p.cubesd k d lt in
      elim (or_cases (row low x && not (covers n c0 x)) (row high x && not (covers n c1 x)) (sym (left_row n low high c0 c1 x h.low_is h.high_is w.inside) ∙ w.due)) [
        | inl a ↦
            let q : (row low x ≡ true) × (not (covers n c0 x) ≡ true) = and_parts (row low x) (not (covers n c0 x)) a in
            let free : count_by (λ c. holds n c x) c0 ≡ 0 = none_counted (λ c. holds n c x) c0 (not-true (covers n c0 x) q.1) in
            record {
              row_at = bit_of false * 2 ^ n + x;
              inside = row_fits false n x w.inside;
              due = sym (h.low_row x w.inside) ∙ q.0;
              covered = holds_free n (get_or cd k d) false x cube.care ∙ w.covered;
              alone = counted false x w.inside ∙ omega (arith, w.alone, free);
            }
        | inr a ↦
            let q : (row high x ≡ true) × (not (covers n c1 x) ≡ true) = and_parts (row high x) (not (covers n c1 x)) a in
            let free : count_by (λ c. holds n c x) c1 ≡ 0 = none_counted (λ c. holds n c x) c1 (not-true (covers n c1 x) q.1) in
            record {
              row_at = bit_of true * 2 ^ n + x;
              inside = row_fits true n x w.inside;
              due = sym (h.high_row x w.inside) ∙ q.0;
              covered = holds_free n (get_or cd k d) true x cube.care ∙ w.covered;
              alone = counted true x w.inside ∙ omega (arith, w.alone, free);
            }
      ]

  lawful_step : Lawful (suc n) l u (map (with_literal n false) c0 ++ (map (with_literal n true) c1 ++ cd))
  lawful_step = record {
    due = due_step;
    primes = All-append (IsPrime (suc n) u) (map (with_literal n false) c0) (map (with_literal n true) c1 ++ cd) prime0 (All-append (IsPrime (suc n) u) (map (with_literal n true) c1) cd prime1 primed);
    needed = All-append (IsNeeded (suc n) l (map (with_literal n false) c0 ++ (map (with_literal n true) c1 ++ cd))) (map (with_literal n false) c0) (map (with_literal n true) c1 ++ cd) need0
        (All-append (IsNeeded (suc n) l (map (with_literal n false) c0 ++ (map (with_literal n true) c1 ++ cd))) (map (with_literal n true) c1) cd need1 needd);
  }

-- ---- a turn that passes the last variable over
lawful_passed : (n : ℕ) (l u low high under over : Rows) (cs : List Cube) → Halves n l u low high under over → low ≡ high → under ≡ over
    → All (IsCube n) cs → Lawful n low under cs → Lawful (suc n) l u cs
lawful_passed n l u low high under over cs h el eu each law = record {
  due = by_value n (λ r. row l r ≡ true → covers (suc n) cs r ≡ true) (λ b x lt e. covers_free n cs b x each ∙ law.due x lt (lower_row b x lt ∙ e));
  primes = λ k d lt.
      let prime : IsPrime n under (get_or cs k d) = law.primes k d lt in
      prime_free n u (get_or cs k d) (each k d lt)
      (λ b x l e. sym (upper_row b x l) ∙ prime.implies x l e)
      (λ i l s.
      let w : Exceeds n under (without i (get_or cs k d)) = prime.least i l s in
      (false, w.row_at, w.inside, w.covered, sym (upper_row false w.row_at w.inside) ∙ w.off));
  needed = λ k d lt.
      let w : IsNeeded n low cs (get_or cs k d) = law.needed k d lt in
      let cube : IsCube n (get_or cs k d) = each k d lt in
      record {
        row_at = bit_of false * 2 ^ n + w.row_at;
        inside = row_fits false n w.row_at w.inside;
        due = sym (lower_row false w.row_at w.inside) ∙ w.due;
        covered = holds_free n (get_or cs k d) false w.row_at cube.care ∙ w.covered;
        alone = count_free n cs false w.row_at each ∙ w.alone;
      };
} where
  lower_row : (b : Bool) (x : ℕ) → x < 2 ^ n → row low x ≡ row l (bit_of b * 2 ^ n + x)
  lower_row false x lt = h.low_row x lt
  lower_row true x lt = ap (λ (t : Rows). row t x) el ∙ h.high_row x lt

  upper_row : (b : Bool) (x : ℕ) → x < 2 ^ n → row under x ≡ row u (bit_of b * 2 ^ n + x)
  upper_row false x lt = h.under_row x lt
  upper_row true x lt = ap (λ (t : Rows). row t x) eu ∙ h.over_row x lt

-- ---- the ends of the recursion
lawful_none : (n : ℕ) (l u : Rows) → IsTable n l → is_constant l false ≡ true → Lawful n l u []
lawful_none n l u h e = record {
  due = λ r lt d. absurd (false≢true (sym (constant_rows_are n l false r h.vars e lt) ∙ d));
  primes = All-nil (IsPrime n u);
  needed = All-nil (IsNeeded n l []);
}

lawful_whole : (n : ℕ) (l u : Rows) → IsTable n l → is_constant l false ≡ false → ((r : ℕ) → r < 2 ^ n → row u r ≡ true) → Lawful n l u (universe ∷ [])
lawful_whole n l u h e on =
    let w = true_row n l h e in
    record {
      due = λ r lt d. ap (λ t. t || false) (holds_universe n r);
      primes = All-cons (IsPrime n u) universe [] (record { implies = λ r lt e. on r lt; least = λ i lt s. absurd (false≢true (sym (set_none i) ∙ s)) }) (All-nil (IsPrime n u));
      needed = All-cons (IsNeeded n l (universe ∷ [])) universe [] (record {
        row_at = w.0;
        inside = w.1;
        due = w.2;
        covered = holds_universe n w.0;
        alone = count_cons (λ d. holds n d w.0) universe [] ∙ ap (λ b. cond b 1 0 + 0) (holds_universe n w.0);
      }) (All-nil (IsNeeded n l (universe ∷ [])));
    }

-- ---- the recursion
abbrev Good : ℕ → (Rows → Rows → List Cube) → Type 0
Good n f = (l u : Rows) → IsTable n l → u.vars ≡ n → Implies n l u → Lawful n l u (f l u)

lawful_last : (b : Bool) (f : Rows → Rows → List Cube) (n : ℕ) (l u low high under over : Rows) → b ≡ (equal_rows low high && equal_rows under over)
    → Halves n l u low high under over → ((a b : Rows) → All (IsCube n) (f a b)) → Good n f → Lawful (suc n) l u (by_last b f n low high under over)
lawful_last true f n l u low high under over e h each good =
    let same : (equal_rows low high ≡ true) × (equal_rows under over ≡ true) = and_parts (equal_rows low high) (equal_rows under over) (sym e) in
    lawful_passed n l u low high under over (f low under) h ((equal_rows_decides low high).0 same.0) ((equal_rows_decides under over).0 same.1) (each low under) (good low under h.low_is h.under_is.vars h.first)
lawful_last false f n l u low high under over e h each good =
    let c0 : List Cube = f (minus_rows low over) under in
    let c1 : List Cube = f (minus_rows high under) over in
    let left : Rows = or_rows (minus_rows low (union_rows n c0)) (minus_rows high (union_rows n c1)) in
    let law0 : Lawful n (minus_rows low over) under c0 = good (minus_rows low over) under (and_table n low (not_rows over) h.low_is) h.under_is.vars (minus_first n low over under h.low_is h.over_is h.first) in
    let law1 : Lawful n (minus_rows high under) over c1 = good (minus_rows high under) over (and_table n high (not_rows under) h.high_is) h.over_is.vars (minus_first n high under over h.high_is h.under_is h.second) in
    lawful_step n l u low high under over c0 c1 (f left (and_rows under over)) h (record {
      cubes0 = each (minus_rows low over) under;
      cubes1 = each (minus_rows high under) over;
      cubesd = each left (and_rows under over);
      law0 = law0;
      law1 = law1;
      lawd = good left (and_rows under over) (or_table n (minus_rows low (union_rows n c0)) (minus_rows high (union_rows n c1)) (and_table n low (not_rows (union_rows n c0)) h.low_is)) (and_table n under over h.under_is).vars (left_implies n l u low high under over c0 c1 h law0 law1);
    })

lawful_bounds : (a b : Bool) (f : Rows → Rows → List Cube) (n : ℕ) (l u low high under over : Rows) → a ≡ is_constant l false → b ≡ is_constant u true → IsTable (suc n) l → u.vars ≡ suc n
    → Halves n l u low high under over → ((a b : Rows) → All (IsCube n) (f a b)) → Good n f → Lawful (suc n) l u (by_bounds a b f n low high under over)
lawful_bounds true b f n l u low high under over ea eb tl tu h each good = lawful_none (suc n) l u tl (sym ea)
lawful_bounds false true f n l u low high under over ea eb tl tu h each good = lawful_whole (suc n) l u tl (sym ea) (λ r lt. constant_rows_are (suc n) u true r tu (sym eb) lt)
lawful_bounds false false f n l u low high under over ea eb tl tu h each good = lawful_last (equal_rows low high && equal_rows under over) f n l u low high under over refl h each good

lawful_zero : (b : Bool) (l u : Rows) → b ≡ is_constant l false → IsTable 0 l → Implies 0 l u → Lawful 0 l u (cond b [] (universe ∷ []))
lawful_zero true l u e h imp = lawful_none 0 l u h (sym e)
lawful_zero false l u e h imp =
    let w = true_row 0 l h (sym e) in
    let here : w.0 ≡ 0 = omega (arith, w.1) in
    lawful_whole 0 l u h (sym e) (λ r lt. let z : w.0 ≡ r = omega (arith, w.1, lt) in subst (λ (k : ℕ). row u k ≡ true) z (imp w.0 w.1 w.2))

pub lawful : (n : ℕ) (l u : Rows) → IsTable n l → u.vars ≡ n → Implies n l u → Lawful n l u (cubes_of n l u)
unfolding cubes_of
lawful zero l u tl tu h = lawful_zero (is_constant l false) l u refl tl h
lawful (suc n) l u tl tu h =
    lawful_bounds (is_constant l false) (is_constant u true) (λ a b. cubes_of n a b) n l u (half l n false) (half l n true) (half u n false) (half u n true) refl refl tl tu
    (halves_of n l u h) (λ a b. cubes_each n a b) (λ a b ta tb i. lawful n a b ta tb i)

-- the same in the words of the call
pub isop_lawful : (n : ℕ) (l u : Rows) (cs : List Cube) → cs ≡ cubes_of l.vars l u → n ≡ l.vars → length l.bits ≡ 2 ^ l.vars → l.vars ≡ u.vars → Implies l.vars l u → Lawful n l u cs
isop_lawful n l u cs e en long same h =
    let tl : IsTable l.vars l = record { vars = refl; long = long } in
    subst (λ (k : ℕ). Lawful k l u cs) (sym en) (subst (λ (ds : List Cube). Lawful l.vars l u ds) (sym e) (lawful l.vars l u tl (sym same) h))

pub isop_due : (n : ℕ) (l u : Rows) (cs : List Cube) → Lawful n l u cs → n ≡ l.vars → (r : ℕ) → r < 2 ^ l.vars → row l r ≡ true → covers n cs r ≡ true
isop_due n l u cs law e r lt = law.due r (subst (λ (k : ℕ). r < 2 ^ k) (sym e) lt)

pub isop_within : (n : ℕ) (l u : Rows) (cs : List Cube) → Lawful n l u cs → n ≡ l.vars → (r : ℕ) → r < 2 ^ l.vars → covers n cs r ≡ true → row u r ≡ true
isop_within n l u cs law e r lt = within n u cs law.primes r (subst (λ (k : ℕ). r < 2 ^ k) (sym e) lt)

-- what is true of both of two is true of the second
pub both_imply : (a b c : Rows) → a.vars ≡ b.vars → c ≡ and_rows a b → (r : ℕ) → r < 2 ^ c.vars → row c r ≡ true → row b r ≡ true
both_imply a b c e h r lt t =
    let less : r < 2 ^ a.vars = subst (λ (k : ℕ). r < 2 ^ k) (ap (λ (x : Rows). x.vars) h) lt in
    (and_parts (row a r) (row b r) (sym (row_inside a.vars (λ r. row a r && row b r) r less) ∙ sym (ap (λ (x : Rows). row x r) h) ∙ t)).1
