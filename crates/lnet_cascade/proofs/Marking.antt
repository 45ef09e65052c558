-- Marks that are cleared, and how many there are; the measure of a cascade.
use Rattle.std.proofs.Common.{◌≡◌, ◌≢◌, ℕ, zero, suc, ◌+◌, ◌*◌, ◌<◌, ◌≤◌, Bool, true, false, cond, ◌⊎◌, refl, length-set, List, [], ◌∷◌, length, sym, ap, subst, ◌∙◌, inl, inr, arith, get_or-set_same, get_or-set_other}
use Rattle.std.specs.Prelude.{slice_set, count_by}
use Rattle.std.proofs.lemmas.Bool.Decides.{eqb_tells}
use Rattle.std.proofs.lemmas.List.Sums.{sum_by-cons, count_by-le-length}
use Rattle.lnet_model.specs.Networks.{NetworkValue, live_count}
use Rattle.lnet_cascade.specs.Marks.{MarkedMore, marks_of, marked_count}
use Rattle.lnet_cascade.specs.Cascading.{left}

pub inside : (bs : List Bool) (x : ℕ) → marks_of bs x ≡ true → x < length bs
inside [] x h = let z : false ≡ true = h in cc
inside (b ∷ bs) zero h = omega arith
inside (b ∷ bs) (suc x) h = let r = inside bs x h in omega (arith, r)

pub cleared : (bs : List Bool) (x n : ℕ) → marks_of bs x ≡ true → marks_of (slice_set bs x false) n ≡ true → (marks_of bs n ≡ true) × (n ≢ x)
cleared bs x n hx h = elim (eqb_tells n x) as (λ _. (marks_of bs n ≡ true) × (n ≢ x)) [
  | inl p ↦ (let z : false ≡ true = sym (get_or-set_same bs x false false (inside bs x hx)) ∙ subst (λ z. marks_of (slice_set bs x false) z ≡ true) p.1 h in cc)
  | inr p ↦ (sym (get_or-set_other bs x n false false p.1) ∙ h, p.1)
]

pub still : (bs : List Bool) (x n : ℕ) → marks_of bs n ≡ true → n ≢ x → marks_of (slice_set bs x false) n ≡ true
still bs x n h ne = get_or-set_other bs x n false false ne ∙ h

pub clear-here : (bs : List Bool) (x : ℕ) → marks_of (slice_set bs x false) x ≡ false
clear-here [] x = refl
clear-here (b ∷ bs) zero = refl
clear-here (b ∷ bs) (suc x) = clear-here bs x

-- what is marked elsewhere stays so, and x is clear before and after
pub marks-around : (P : ℕ → Type 0) (x : ℕ) (old mid new : List Bool) → (P x → ⊥) → MarkedMore P old mid → new ≡ slice_set mid x false → MarkedMore P (slice_set old x false) new
marks-around P x old mid new own more is = record {
  len = ap length is ∙ length-set mid x false ∙ more.len ∙ sym (length-set old x false);
  only = λ n h. elim (eqb_tells n x) as (λ _. (marks_of (slice_set old x false) n ≡ true) ⊎ P n) [
    | inl p ↦ absurd (let z : false ≡ true = sym (clear-here mid x) ∙ ap (λ bs. marks_of bs x) (sym is) ∙ subst (λ z. marks_of new z ≡ true) p.1 h in cc)
    | inr p ↦ elim (more.only n (sym (get_or-set_other mid x n false false p.1) ∙ ap (λ bs. marks_of bs n) (sym is) ∙ h)) as (λ _. (marks_of (slice_set old x false) n ≡ true) ⊎ P n) [
      | inl k ↦ inl (still old x n k p.1)
      | inr k ↦ inr k
    ]
  ];
  before = λ n h. elim (eqb_tells n x) as (λ _. marks_of new n ≡ true) [
    | inl p ↦ absurd (let z : false ≡ true = sym (clear-here old x) ∙ subst (λ z. marks_of (slice_set old x false) z ≡ true) p.1 h in cc)
    | inr p ↦ ap (λ bs. marks_of bs n) is ∙ still mid x n (more.before n (sym (get_or-set_other old x n false false p.1) ∙ h)) p.1
  ];
  those = λ n k. ap (λ bs. marks_of bs n) is ∙ still mid x n (more.those n k) (λ e. own (subst P e k));
}

count-here : (b : Bool) (bs : List Bool) → count_by (λ b. b) (b ∷ bs) ≡ cond b 1 0 + count_by (λ b. b) bs
count-here b bs = sum_by-cons (λ b. cond b 1 0) b bs

count-clear : (bs : List Bool) (x : ℕ) → marks_of bs x ≡ true → count_by (λ b. b) (slice_set bs x false) + 1 ≡ count_by (λ b. b) bs
count-clear [] x h = let z : false ≡ true = h in cc
count-clear (b ∷ bs) zero h =
    let one = count-here b bs in
    let none = count-here false bs in
    let is : ◌≡◌ {A = ℕ} (cond b 1 0) 1 = ap (λ b. cond b 1 0) h in
    omega (arith, one, none, is)
count-clear (b ∷ bs) (suc x) h =
    let old = count-here b bs in
    let new = count-here b (slice_set bs x false) in
    let rest = count-clear bs x h in
    omega (arith, old, new, rest)

pub marked-clear : (bs : List Bool) (x : ℕ) → marks_of bs x ≡ true → marked_count (slice_set bs x false) + 1 ≡ marked_count bs
unfolding marked_count
marked-clear = count-clear

marked-small : (bs : List Bool) → marked_count bs ≤ length bs
unfolding marked_count
marked-small bs = count_by-le-length (λ b. b) bs

-- ---- the measure

one_more : (d z : ℕ) → (d + 1) * z ≡ d * z + z
one_more d z = omega arith

less_nodes : (d c l k m n : ℕ) → d + 1 ≡ c → k ≡ l → n ≤ k → d * suc k + n < c * suc l + m
less_nodes d c l k m n e f le =
    let o : c * suc l ≡ d * suc l + suc l = ap (λ z. z * suc l) (sym e) ∙ one_more d (suc l) in
    let p : d * suc k ≡ d * suc l = ap (λ z. d * suc z) f in
    omega (arith, o, p)

-- a node less, whatever is marked
pub left-nodes : (C D : NetworkValue) (bs cs : List Bool) → live_count D + 1 ≡ live_count C → length cs ≡ length bs → left D cs < left C bs
unfolding left
left-nodes C D bs cs e f = less_nodes (live_count D) (live_count C) (length bs) (length cs) (marked_count bs) (marked_count cs) e f (marked-small cs)

less_marks : (d c l k m n : ℕ) → d ≡ c → k ≡ l → n + 1 ≡ m → d * suc k + n < c * suc l + m
less_marks d c l k m n e f h =
    let p : d * suc k ≡ c * suc l = ap (λ z. z * suc k) e ∙ ap (λ z. c * suc z) f in
    omega (arith, p)

-- as many nodes, and a mark less
pub left-marks : (C D : NetworkValue) (bs cs : List Bool) → live_count D ≡ live_count C → length cs ≡ length bs → marked_count cs + 1 ≡ marked_count bs → left D cs < left C bs
unfolding left
left-marks C D bs cs e f h = less_marks (live_count D) (live_count C) (length bs) (length cs) (marked_count bs) (marked_count cs) e f h
