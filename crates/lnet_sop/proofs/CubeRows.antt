-- Cubes at the rows of one variable more.
use Rattle.std.proofs.Common.{◌≡◌, ℕ, zero, suc, ◌+◌, ◌-◌, ◌*◌, ◌%◌, ◌^◌, ◌<◌, ◌≤◌, Bool, true, false, cond, List, [], ◌∷◌, ◌++◌, map, refl, sym, ◌∙◌, ap, subst, arith, ◌==◌, inl, inr, get_or, ◌||◌}
use Rattle.std.specs.Prelude.{◌&&◌, All}
use Rattle.std.specs.List.{list_any, count_by}
use Rattle.std.specs.Int.{bit_at}
use mathlib.Core.Bool.{beq}
use Rattle.std.proofs.lemmas.Nat.{pow_pos, pow-add}
use Rattle.std.proofs.lemmas.Nat.Bits.{bit_at_cat_low, bit_at_cat_high, bit_at_above, bit_at_lowest, bit_at-zero}
use Rattle.std.proofs.lemmas.Bool.{cases_lt, false≢true, and_right}
use Rattle.std.proofs.lemmas.List.Elements.{All-head, All-tail, All-weaker}
use Rattle.std.proofs.lemmas.List.Folds.{list_any-append}
use Rattle.std.proofs.lemmas.List.Sums.{sum_by-cons}
use Rattle.lnet_tables.specs.Bits.{is_set, bit_of}
use Rattle.lnet_sop.specs.declared.cover.Cube.{Cube}
use Rattle.lnet_sop.specs.Covers.{agrees, holds, covers, IsCube}
use Rattle.lnet_sop.specs.Isop.{universe, with_literal}

-- ---- the bits of b * 2 ^ n + x
pub two_more : (n : ℕ) → 2 ^ suc n ≡ 2 * 2 ^ n
two_more n = (let e : suc n ≡ n + 1 = omega arith in ap (λ k. 2 ^ k) e) ∙ pow-add 2 n 1 ∙ omega arith

test_of : (v : Bool) → (bit_of v == 1) ≡ v
test_of true = refl
test_of false = refl

bit_low : (v : Bool) → bit_of v % 2 ≡ bit_of v
bit_low true = refl
bit_low false = refl

pub set_low : (a n x i : ℕ) → i < n → is_set (a * 2 ^ n + x) i ≡ is_set x i
unfolding is_set
set_low a n x i lt = ap (λ k. k == 1) (bit_at_cat_low a n x i lt)

pub set_here : (b : Bool) (n x : ℕ) → x < 2 ^ n → is_set (bit_of b * 2 ^ n + x) n ≡ b
unfolding is_set
set_here b n x lt =
    let z : n - n ≡ 0 = omega arith in
    let e : bit_at (bit_of b * 2 ^ n + x) n ≡ bit_of b =
    bit_at_cat_high (bit_of b) n x n lt (omega arith) ∙ ap (λ i. bit_at (bit_of b) i) z ∙ bit_at_lowest (bit_of b) ∙ bit_low b in
    ap (λ k. k == 1) e ∙ test_of b

pub set_above : (n x i : ℕ) → x < 2 ^ n → n ≤ i → is_set x i ≡ false
unfolding is_set
set_above n x i lt le = ap (λ k. k == 1) (bit_at_above x n i lt le)

pub set_none : (i : ℕ) → is_set 0 i ≡ false
unfolding is_set
set_none i = ap (λ k. k == 1) (bit_at-zero i)

-- ---- rows of one variable more
pub row_fits : (b : Bool) (n x : ℕ) → x < 2 ^ n → bit_of b * 2 ^ n + x < 2 ^ suc n
row_fits true n x lt = omega (arith, two_more n)
row_fits false n x lt = omega (arith, two_more n)

-- what holds at the rows of both halves holds at each row
pub by_value : (n : ℕ) (P : ℕ → Type 0) → ((b : Bool) (x : ℕ) → x < 2 ^ n → P (bit_of b * 2 ^ n + x)) → (r : ℕ) → r < 2 ^ suc n → P r
by_value n P h r lt =
    elim (cases_lt r (2 ^ n)) [
      | inl low ↦ let e : bit_of false * 2 ^ n + r ≡ r = omega arith in subst P e (h false r low)
      | inr high ↦
          let fits : r - 2 ^ n < 2 ^ n = omega (arith, two_more n) in
          let e : bit_of true * 2 ^ n + (r - 2 ^ n) ≡ r = omega arith in
          subst P e (h true (r - 2 ^ n) fits)
    ]

-- ---- cubes
pub and_true : (x : Bool) → (x && true) ≡ x
and_true true = refl
and_true false = refl

-- cubes whose literals agree with rows alike
pub holds_like : (n : ℕ) (c d : Cube) (r s : ℕ) → ((i : ℕ) → i < n → agrees c r i ≡ agrees d s i) → holds n c r ≡ holds n d s
unfolding holds
holds_like zero c d r s h = refl
holds_like (suc n) c d r s h =
    ap (λ x. x && agrees c r n) (holds_like n c d r s (λ i lt. h i (omega arith))) ∙ ap (λ x. holds n d s && x) (h n (omega arith))

pub holds_more : (n : ℕ) (c : Cube) (r : ℕ) → holds (suc n) c r ≡ (holds n c r && agrees c r n)
unfolding holds
holds_more n c r = refl

-- the cube without literals
pub holds_universe : (n r : ℕ) → holds n universe r ≡ true
unfolding holds
holds_universe zero r = refl
holds_universe (suc n) r =
    ap (λ x. x && agrees universe r n) (holds_universe n r) ∙ ap (λ t. cond t (beq (is_set 0 n) (is_set r n)) true) (set_none n)

-- a cube that doesn't care about the last variable
pub holds_free : (n : ℕ) (c : Cube) (b : Bool) (x : ℕ) → c.care < 2 ^ n → holds (suc n) c (bit_of b * 2 ^ n + x) ≡ holds n c x
holds_free n c b x lt =
    let r : ℕ = bit_of b * 2 ^ n + x in
    let off : agrees c r n ≡ true = ap (λ t. cond t (beq (is_set c.value n) (is_set r n)) true) (set_above n c.care n lt (omega arith)) in
    holds_more n c r ∙ ap (λ t. holds n c r && t) off ∙ and_true (holds n c r)
    ∙ holds_like n c c r x (λ i l. ap (λ t. cond (is_set c.care i) (beq (is_set c.value i) t) true) (set_low (bit_of b) n x i l))

-- a cube with a literal of the last variable
pub holds_with : (n : ℕ) (p : Bool) (c : Cube) (b : Bool) (x : ℕ) → c.care < 2 ^ n → c.value < 2 ^ n → x < 2 ^ n
    → holds (suc n) (with_literal n p c) (bit_of b * 2 ^ n + x) ≡ (holds n c x && beq p b)
holds_with n p c b x care value lt =
    let r : ℕ = bit_of b * 2 ^ n + x in
    let d : Cube = with_literal n p c in
    let e : 2 ^ n + c.care ≡ bit_of true * 2 ^ n + c.care = omega arith in
    let there : is_set d.care n ≡ true = ap (λ k. is_set k n) e ∙ set_here true n c.care care in
    let on : agrees d r n ≡ beq p b =
    ap (λ t. cond t (beq (is_set d.value n) (is_set r n)) true) there
    ∙ ap (λ t. beq t (is_set r n)) (set_here p n c.value value) ∙ ap (λ t. beq p t) (set_here b n x lt) in
    holds_more n d r ∙ ap (λ t. holds n d r && t) on
    ∙ ap (λ t. t && beq p b) (holds_like n d c r x (λ i l.
    ap (λ t. cond t (beq (is_set d.value i) (is_set r i)) true) (ap (λ k. is_set k i) e ∙ set_low 1 n c.care i l)
    ∙ ap (λ t. cond (is_set c.care i) (beq t (is_set r i)) true) (set_low (bit_of p) n c.value i l)
    ∙ ap (λ t. cond (is_set c.care i) (beq (is_set c.value i) t) true) (set_low (bit_of b) n x i l)))

-- ---- cubes of n variables
pub universe_cube : (n : ℕ) → IsCube n universe
universe_cube n = record { care = pow_pos n; value = pow_pos n; within = λ i h. absurd (false≢true (sym (set_none i) ∙ h)) }

pub free_cube : (n : ℕ) (c : Cube) → IsCube n c → IsCube (suc n) c
free_cube n c h = record { care = omega (arith, h.care, two_more n); value = omega (arith, h.value, two_more n); within = h.within }

pub with_cube : (n : ℕ) (p : Bool) (c : Cube) → IsCube n c → IsCube (suc n) (with_literal n p c)
with_cube n p c h =
    let e : 2 ^ n + c.care ≡ bit_of true * 2 ^ n + c.care = omega arith in
    record {
      care = omega (arith, h.care, two_more n);
      value = row_fits p n c.value h.value;
      within = λ i s. elim (cases_lt i n) [
        | inl l ↦ ap (λ k. is_set k i) e ∙ set_low 1 n c.care i l ∙ h.within i (sym (set_low (bit_of p) n c.value i l) ∙ s)
        | inr g ↦ elim (cases_lt n i) [
          | inl a ↦ absurd (false≢true (sym (set_above (suc n) (bit_of p * 2 ^ n + c.value) i (row_fits p n c.value h.value) (omega arith)) ∙ s))
          | inr w ↦
              let same : n ≡ i = omega arith in
              subst (λ (k : ℕ). is_set (2 ^ n + c.care) k ≡ true) same (ap (λ k. is_set k n) e ∙ set_here true n c.care h.care)
        ]
      ];
    }

-- ---- lists of cubes
pub any_like : (f g : Cube → Bool) (cs : List Cube) → All (λ c. f c ≡ g c) cs → list_any f cs ≡ list_any g cs
any_like f g [] h = refl
any_like f g (c ∷ cs) h =
    ap (λ x. x || list_any f cs) (All-head (λ c. f c ≡ g c) c cs h) ∙ ap (λ x. g c || x) (any_like f g cs (All-tail (λ c. f c ≡ g c) c cs h))

pub any_map : (f : Cube → Bool) (g : Cube → Cube) (cs : List Cube) → list_any f (map g cs) ≡ list_any (λ c. f (g c)) cs
any_map f g [] = refl
any_map f g (c ∷ cs) = ap (λ x. f (g c) || x) (any_map f g cs)

pub any_none : (cs : List Cube) → list_any (λ c. false) cs ≡ false
any_none [] = refl
any_none (c ∷ cs) = any_none cs

pub count_cons : (f : Cube → Bool) (c : Cube) (cs : List Cube) → count_by f (c ∷ cs) ≡ cond (f c) 1 0 + count_by f cs
count_cons f c cs = sum_by-cons (λ x. cond (f x) 1 0) c cs

pub count_like : (f g : Cube → Bool) (cs : List Cube) → All (λ c. f c ≡ g c) cs → count_by f cs ≡ count_by g cs
count_like f g [] h = refl
count_like f g (c ∷ cs) h =
    count_cons f c cs ∙ ap (λ x. cond x 1 0 + count_by f cs) (All-head (λ c. f c ≡ g c) c cs h)
    ∙ ap (λ x. cond (g c) 1 0 + x) (count_like f g cs (All-tail (λ c. f c ≡ g c) c cs h)) ∙ sym (count_cons g c cs)

pub count_map : (f : Cube → Bool) (g : Cube → Cube) (cs : List Cube) → count_by f (map g cs) ≡ count_by (λ c. f (g c)) cs
count_map f g [] = refl
count_map f g (c ∷ cs) = count_cons f (g c) (map g cs) ∙ ap (λ x. cond (f (g c)) 1 0 + x) (count_map f g cs) ∙ sym (count_cons (λ c. f (g c)) c cs)

pub count_none : (cs : List Cube) → count_by (λ c. false) cs ≡ 0
count_none [] = refl
count_none (c ∷ cs) = count_none cs

-- ---- covers at the rows of one variable more
pub covers_free : (n : ℕ) (cs : List Cube) (b : Bool) (x : ℕ) → All (IsCube n) cs → covers (suc n) cs (bit_of b * 2 ^ n + x) ≡ covers n cs x
covers_free n cs b x each =
    any_like (λ c. holds (suc n) c (bit_of b * 2 ^ n + x)) (λ c. holds n c x) cs (All-weaker (IsCube n) _ (λ c h. holds_free n c b x h.care) cs each)

covers_with : (n : ℕ) (p : Bool) (cs : List Cube) (b : Bool) (x : ℕ) → x < 2 ^ n → All (IsCube n) cs
    → covers (suc n) (map (with_literal n p) cs) (bit_of b * 2 ^ n + x) ≡ list_any (λ c. holds n c x && beq p b) cs
covers_with n p cs b x lt each =
    any_map (λ c. holds (suc n) c (bit_of b * 2 ^ n + x)) (with_literal n p) cs
    ∙ any_like (λ c. holds (suc n) (with_literal n p c) (bit_of b * 2 ^ n + x)) (λ c. holds n c x && beq p b) cs (All-weaker (IsCube n) _ (λ c h. holds_with n p c b x h.care h.value lt) cs each)

each_true : (n x : ℕ) (cs : List Cube) → list_any (λ c. holds n c x && true) cs ≡ covers n cs x
each_true n x cs = any_like (λ c. holds n c x && true) (λ c. holds n c x) cs (λ k d lt. and_true (holds n (get_or cs k d) x))

each_false : (n x : ℕ) (cs : List Cube) → list_any (λ c. holds n c x && false) cs ≡ false
each_false n x cs = any_like (λ c. holds n c x && false) (λ c. false) cs (λ k d lt. and_right (holds n (get_or cs k d) x) false refl) ∙ any_none cs

-- the cubes of a step: those with the complement of the last variable, those with the variable, and those with neither
pub covers_step : (n : ℕ) (c0 c1 cd : List Cube) (b : Bool) (x : ℕ) → x < 2 ^ n → All (IsCube n) c0 → All (IsCube n) c1 → All (IsCube n) cd
    → covers (suc n) (map (with_literal n false) c0 ++ (map (with_literal n true) c1 ++ cd)) (bit_of b * 2 ^ n + x) ≡ (cond b (covers n c1 x) (covers n c0 x) || covers n cd x)
covers_step n c0 c1 cd b x lt h0 h1 hd =
    list_any-append (λ c. holds (suc n) c (bit_of b * 2 ^ n + x)) (map (with_literal n false) c0) (map (with_literal n true) c1 ++ cd)
    ∙ ap (λ t. list_any (λ c. holds (suc n) c (bit_of b * 2 ^ n + x)) (map (with_literal n false) c0) || t) (list_any-append (λ c. holds (suc n) c (bit_of b * 2 ^ n + x)) (map (with_literal n true) c1) cd)
    ∙ ap (λ t. t || (covers (suc n) (map (with_literal n true) c1) (bit_of b * 2 ^ n + x) || covers (suc n) cd (bit_of b * 2 ^ n + x))) (covers_with n false c0 b x lt h0)
    ∙ ap (λ t. list_any (λ c. holds n c x && beq false b) c0 || (t || covers (suc n) cd (bit_of b * 2 ^ n + x))) (covers_with n true c1 b x lt h1)
    ∙ ap (λ t. list_any (λ c. holds n c x && beq false b) c0 || (list_any (λ c. holds n c x && beq true b) c1 || t)) (covers_free n cd b x hd)
    ∙ go b where
      go : (b : Bool) → (list_any (λ c. holds n c x && beq false b) c0 || (list_any (λ c. holds n c x && beq true b) c1 || covers n cd x)) ≡ (cond b (covers n c1 x) (covers n c0 x) || covers n cd x)
      go true = rw (each_false n x c0, each_true n x c1) refl
      go false = rw (each_true n x c0, each_false n x c1) refl
