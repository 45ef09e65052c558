-- Ascending lists of leaves as sets, and their order.
use Rattle.std.proofs.Common.{◌≡◌, ◌≢◌, ℕ, suc, ◌<◌, Bool, true, false, eqb, ltb, List, [], ◌∷◌, length, refl, sym, ap, subst, ◌∙◌, inl, inr, arith, true≢false}
use Rattle.std.specs.Prelude.{◌⊎◌, ⊤, ◌&&◌, ◌||◌}
use Rattle.std.specs.List.{list_any, list_all}
use Rattle.std.proofs.lemmas.Bool.Decides.{eqb_tells, leb_tells}
use Rattle.std.proofs.lemmas.Bool.{cases_lt}
use Rattle.lnet_model.specs.Along.{In}
use Rattle.lnet_model.specs.Cuts.{CutValue, is_in, is_subset, leaves_below, before}

abbrev pub Ascends : List ℕ → Type 0
Ascends [] = ⊤
Ascends (x ∷ xs) = ((d : ℕ) → In d xs → x < d) × Ascends xs

pub and-true : (a b : Bool) → (a && b) ≡ true → (a ≡ true) × (b ≡ true)
and-true true b e = (refl, e)
and-true false b e = absurd (true≢false (sym e))

pub or-true : (a b : Bool) → (a || b) ≡ true → (a ≡ true) ⊎ (b ≡ true)
or-true true b e = inl refl
or-true false b e = inr e

pub in-is : (x : ℕ) (ys : List ℕ) → is_in x ys ≡ true → In x ys
in-is x [] e = absurd (true≢false (sym e))
in-is x (y ∷ ys) e = elim (or-true (eqb x y) (list_any (eqb x) ys) e) as (λ _. In x (y ∷ ys)) [
  | inl h ↦ elim (eqb_tells x y) as (λ _. In x (y ∷ ys)) [ inl t ↦ inl t.1 | inr t ↦ absurd (true≢false (sym h ∙ t.0)) ]
  | inr h ↦ inr (in-is x ys h)
]

pub or-right : (a b : Bool) → b ≡ true → (a || b) ≡ true
or-right true b e = refl
or-right false b e = e

pub or-left : (a b : Bool) → a ≡ true → (a || b) ≡ true
or-left true b e = refl
or-left false b e = absurd (true≢false (sym e))

pub and-both : (a b : Bool) → a ≡ true → b ≡ true → (a && b) ≡ true
and-both true b e f = f
and-both false b e f = absurd (true≢false (sym e))

pub is-in : (x : ℕ) (ys : List ℕ) → In x ys → is_in x ys ≡ true
is-in x [] i = absurd i
is-in x (y ∷ ys) (inl e) = or-left (eqb x y) (list_any (eqb x) ys) (elim (eqb_tells x y) as (λ _. eqb x y ≡ true) [ inl t ↦ t.0 | inr t ↦ absurd (t.1 e) ])
is-in x (y ∷ ys) (inr i) = or-right (eqb x y) (list_any (eqb x) ys) (is-in x ys i)

pub subset-is : (xs ys : List ℕ) → is_subset xs ys ≡ true → (x : ℕ) → In x xs → In x ys
subset-is [] ys e x i = absurd i
subset-is (z ∷ xs) ys e x i = let t = and-true (is_in z ys) (list_all (λ v. is_in v ys) xs) e in
    elim i as (λ _. In x ys) [ inl h ↦ subst (λ v. In v ys) (sym h) (in-is z ys t.0) | inr j ↦ subset-is xs ys t.1 x j ]

pub is-subset : (xs ys : List ℕ) → ((x : ℕ) → In x xs → In x ys) → is_subset xs ys ≡ true
is-subset [] ys f = refl
is-subset (z ∷ xs) ys f = and-both (is_in z ys) (list_all (λ v. is_in v ys) xs) (is-in z ys (f z (inl refl))) (is-subset xs ys (λ x i. f x (inr i)))

pub subset-own : (xs : List ℕ) → is_subset xs xs ≡ true
subset-own xs = is-subset xs xs (λ x i. i)

pub subset-trans : (xs ys zs : List ℕ) → is_subset xs ys ≡ true → is_subset ys zs ≡ true → is_subset xs zs ≡ true
subset-trans xs ys zs e f = is-subset xs zs (λ x i. subset-is ys zs f x (subset-is xs ys e x i))

first-apart : (x y d : ℕ) (xs ys : List ℕ) → x ≢ y → Ascends (x ∷ xs) → Ascends (y ∷ ys) → In x (y ∷ ys) → d ≡ y → In d (x ∷ xs) → ⊥
first-apart x y d xs ys ne A B here e (inl h) = ne (sym h ∙ e)
first-apart x y d xs ys ne A B (inl s) e (inr j) = ne s
first-apart x y d xs ys ne A B (inr k) e (inr j) = let a = B.0 x k in let b = A.0 d j in absurd (omega arith)

-- a subset is strictly shorter where it is another set
pub subset-length : (xs ys : List ℕ) → Ascends xs → Ascends ys → ((x : ℕ) → In x xs → In x ys) → (length xs < length ys) ⊎ (xs ≡ ys)
subset-length [] [] A B f = inr refl
subset-length [] (y ∷ ys) A B f = inl (omega arith)
subset-length (x ∷ xs) [] A B f = absurd (f x (inl refl))
subset-length (x ∷ xs) (y ∷ ys) A B f = elim (eqb_tells x y) as (λ _. (length (x ∷ xs) < length (y ∷ ys)) ⊎ (x ∷ xs ≡ y ∷ ys)) [
  | inl t ↦ elim (subset-length xs ys A.1 B.1 (λ d i. elim (f d (inr i)) as (λ _. In d ys) [ inl e ↦ (let h = A.0 d i in let k = t.1 in absurd (omega arith)) | inr j ↦ j ])) as
      (λ _. (length (x ∷ xs) < length (y ∷ ys)) ⊎ (x ∷ xs ≡ y ∷ ys)) [
        | inl h ↦ inl (omega arith)
        | inr e ↦ inr (λ i. t.1 i ∷ e i)
      ]
  | inr t ↦ elim (subset-length (x ∷ xs) ys A B.1 (λ d i. elim (f d i) as (λ _. In d ys) [ inl e ↦ absurd (first-apart x y d xs ys t.1 A B (f x (inl refl)) e i) | inr j ↦ j ])) as
      (λ _. (length (x ∷ xs) < length (y ∷ ys)) ⊎ (x ∷ xs ≡ y ∷ ys)) [
        | inl h ↦ inl (omega arith)
        | inr e ↦ inl (let l = ap length e in omega arith)
      ]
]

-- ---- the order of cuts

pub tells-lt : (a b : ℕ) → ltb a b ≡ true → a < b
tells-lt a b e = elim (leb_tells (suc a) b) as (λ _. a < b) [ inl t ↦ t.1 | inr t ↦ absurd (true≢false (sym e ∙ t.0)) ]

pub lt-tells : (a b : ℕ) → a < b → ltb a b ≡ true
lt-tells a b h = elim (leb_tells (suc a) b) as (λ _. ltb a b ≡ true) [ inl t ↦ t.0 | inr t ↦ (let k = t.1 in absurd (omega arith)) ]

pub tells-eq : (a b : ℕ) → eqb a b ≡ true → a ≡ b
tells-eq a b e = elim (eqb_tells a b) as (λ _. a ≡ b) [ inl t ↦ t.1 | inr t ↦ absurd (true≢false (sym e ∙ t.0)) ]

pub eq-tells : (a b : ℕ) → a ≡ b → eqb a b ≡ true
eq-tells a b h = elim (eqb_tells a b) as (λ _. eqb a b ≡ true) [ inl t ↦ t.0 | inr t ↦ absurd (t.1 h) ]

pub below-not-own : (xs : List ℕ) → leaves_below xs xs ≡ true → ⊥
below-not-own [] e = true≢false (sym e)
below-not-own (x ∷ xs) e = elim (or-true (ltb x x) (eqb x x && leaves_below xs xs) e) as (λ _. ⊥)
    [ inl h ↦ (let k = tells-lt x x h in absurd (omega arith)) | inr h ↦ below-not-own xs (and-true (eqb x x) (leaves_below xs xs) h).1 ]

pub below-trans : (xs ys zs : List ℕ) → leaves_below xs ys ≡ true → leaves_below ys zs ≡ true → leaves_below xs zs ≡ true
below-trans [] [] zs e f = absurd (true≢false (sym e))
below-trans [] (y ∷ ys) [] e f = absurd (true≢false (sym f))
below-trans [] (y ∷ ys) (z ∷ zs) e f = refl
below-trans (x ∷ xs) [] zs e f = absurd (true≢false (sym e))
below-trans (x ∷ xs) (y ∷ ys) [] e f = absurd (true≢false (sym f))
below-trans (x ∷ xs) (y ∷ ys) (z ∷ zs) e f = elim (or-true (ltb x y) (eqb x y && leaves_below xs ys) e) as (λ _. leaves_below (x ∷ xs) (z ∷ zs) ≡ true) [
  | inl h ↦ elim (or-true (ltb y z) (eqb y z && leaves_below ys zs) f) as (λ _. leaves_below (x ∷ xs) (z ∷ zs) ≡ true) [
    | inl k ↦ or-left (ltb x z) (eqb x z && leaves_below xs zs) (lt-tells x z (let a = tells-lt x y h in let b = tells-lt y z k in omega arith))
    | inr k ↦ or-left (ltb x z) (eqb x z && leaves_below xs zs) (lt-tells x z (let a = tells-lt x y h in let b = tells-eq y z (and-true (eqb y z) (leaves_below ys zs) k).0 in omega arith))
  ]
  | inr h ↦ (let p = and-true (eqb x y) (leaves_below xs ys) h in elim (or-true (ltb y z) (eqb y z && leaves_below ys zs) f) as (λ _. leaves_below (x ∷ xs) (z ∷ zs) ≡ true) [
    | inl k ↦ or-left (ltb x z) (eqb x z && leaves_below xs zs) (lt-tells x z (let a = tells-eq x y p.0 in let b = tells-lt y z k in omega arith))
    | inr k ↦ (let q = and-true (eqb y z) (leaves_below ys zs) k in
        or-right (ltb x z) (eqb x z && leaves_below xs zs) (and-both (eqb x z) (leaves_below xs zs) (eq-tells x z (tells-eq x y p.0 ∙ tells-eq y z q.0)) (below-trans xs ys zs p.1 q.1)))
  ])
]

pub below-total : (xs ys : List ℕ) → (leaves_below xs ys ≡ true) ⊎ ((xs ≡ ys) ⊎ (leaves_below ys xs ≡ true))
below-total [] [] = inr (inl refl)
below-total [] (y ∷ ys) = inl refl
below-total (x ∷ xs) [] = inr (inr refl)
below-total (x ∷ xs) (y ∷ ys) = elim (cases_lt x y) as (λ _. (leaves_below (x ∷ xs) (y ∷ ys) ≡ true) ⊎ ((x ∷ xs ≡ y ∷ ys) ⊎ (leaves_below (y ∷ ys) (x ∷ xs) ≡ true))) [
  | inl h ↦ inl (or-left (ltb x y) (eqb x y && leaves_below xs ys) (lt-tells x y h))
  | inr h ↦ elim (cases_lt y x) as (λ _. (leaves_below (x ∷ xs) (y ∷ ys) ≡ true) ⊎ ((x ∷ xs ≡ y ∷ ys) ⊎ (leaves_below (y ∷ ys) (x ∷ xs) ≡ true))) [
    | inl k ↦ inr (inr (or-left (ltb y x) (eqb y x && leaves_below ys xs) (lt-tells y x k)))
    | inr k ↦ (let e : x ≡ y = omega arith in elim (below-total xs ys) as (λ _. (leaves_below (x ∷ xs) (y ∷ ys) ≡ true) ⊎ ((x ∷ xs ≡ y ∷ ys) ⊎ (leaves_below (y ∷ ys) (x ∷ xs) ≡ true))) [
      | inl m ↦ inl (or-right (ltb x y) (eqb x y && leaves_below xs ys) (and-both (eqb x y) (leaves_below xs ys) (eq-tells x y e) m))
      | inr m ↦ elim m as (λ _. (leaves_below (x ∷ xs) (y ∷ ys) ≡ true) ⊎ ((x ∷ xs ≡ y ∷ ys) ⊎ (leaves_below (y ∷ ys) (x ∷ xs) ≡ true))) [
        | inl q ↦ inr (inl (λ i. e i ∷ q i))
        | inr q ↦ inr (inr (or-right (ltb y x) (eqb y x && leaves_below ys xs) (and-both (eqb y x) (leaves_below ys xs) (eq-tells y x (sym e)) q)))
      ]
    ])
  ]
]

abbrev pub Before : CutValue → CutValue → Type 0
Before c d = before c d ≡ true

shorter-or : (c d : CutValue) → Before c d → (length c.leaves < length d.leaves) ⊎ ((length c.leaves ≡ length d.leaves) × (leaves_below c.leaves d.leaves ≡ true))
shorter-or c d e = elim (or-true (ltb (length c.leaves) (length d.leaves)) (eqb (length c.leaves) (length d.leaves) && leaves_below c.leaves d.leaves) e) as
    (λ _. (length c.leaves < length d.leaves) ⊎ ((length c.leaves ≡ length d.leaves) × (leaves_below c.leaves d.leaves ≡ true))) [
      | inl h ↦ inl (tells-lt (length c.leaves) (length d.leaves) h)
      | inr h ↦ (let t = and-true (eqb (length c.leaves) (length d.leaves)) (leaves_below c.leaves d.leaves) h in inr (tells-eq (length c.leaves) (length d.leaves) t.0, t.1))
    ]

pub by-length : (c d : CutValue) → length c.leaves < length d.leaves → Before c d
by-length c d h = or-left (ltb (length c.leaves) (length d.leaves)) (eqb (length c.leaves) (length d.leaves) && leaves_below c.leaves d.leaves) (lt-tells (length c.leaves) (length d.leaves) h)

by-leaves : (c d : CutValue) → length c.leaves ≡ length d.leaves → leaves_below c.leaves d.leaves ≡ true → Before c d
by-leaves c d e h = or-right (ltb (length c.leaves) (length d.leaves)) (eqb (length c.leaves) (length d.leaves) && leaves_below c.leaves d.leaves)
    (and-both (eqb (length c.leaves) (length d.leaves)) (leaves_below c.leaves d.leaves) (eq-tells (length c.leaves) (length d.leaves) e) h)

pub before-trans : (b c d : CutValue) → Before b c → Before c d → Before b d
before-trans b c d e f = elim (shorter-or b c e) as (λ _. Before b d) [
  | inl h ↦ elim (shorter-or c d f) as (λ _. Before b d) [ inl k ↦ by-length b d (omega arith) | inr k ↦ by-length b d (let q = k.0 in omega arith) ]
  | inr h ↦ elim (shorter-or c d f) as (λ _. Before b d) [ inl k ↦ by-length b d (let q = h.0 in omega arith) | inr k ↦ by-leaves b d (h.0 ∙ k.0) (below-trans b.leaves c.leaves d.leaves h.1 k.1) ]
]

pub before-total : (c d : CutValue) → Before c d ⊎ ((c.leaves ≡ d.leaves) ⊎ Before d c)
before-total c d = elim (cases_lt (length c.leaves) (length d.leaves)) as (λ _. Before c d ⊎ ((c.leaves ≡ d.leaves) ⊎ Before d c)) [
  | inl h ↦ inl (by-length c d h)
  | inr h ↦ elim (cases_lt (length d.leaves) (length c.leaves)) as (λ _. Before c d ⊎ ((c.leaves ≡ d.leaves) ⊎ Before d c)) [
    | inl k ↦ inr (inr (by-length d c k))
    | inr k ↦ (let e : length c.leaves ≡ length d.leaves = omega arith in elim (below-total c.leaves d.leaves) as (λ _. Before c d ⊎ ((c.leaves ≡ d.leaves) ⊎ Before d c)) [
      | inl m ↦ inl (by-leaves c d e m)
      | inr m ↦ elim m as (λ _. Before c d ⊎ ((c.leaves ≡ d.leaves) ⊎ Before d c)) [ inl q ↦ inr (inl q) | inr q ↦ inr (inr (by-leaves d c (sym e) q)) ]
    ])
  ]
]

pub before-apart : (c d : CutValue) → Before c d → c.leaves ≡ d.leaves → ⊥
before-apart c d e s = elim (shorter-or c d e) as (λ _. ⊥) [
  | inl h ↦ (let l = ap length s in
      absurd (omega arith))
  | inr h ↦ below-not-own c.leaves (subst (λ v. leaves_below c.leaves v ≡ true) (sym s) h.1)
]
