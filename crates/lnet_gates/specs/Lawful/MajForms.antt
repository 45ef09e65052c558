-- The table of Maj: its cases, what each of them gives, and its symmetries.
use Rattle.std.proofs.Common.{◌≡◌, ℕ, Bool, true, false, List, [], ◌∷◌, map, refl, sym, ap, subst, ◌∙◌}
use Rattle.lnet_gates.specs.declared.signal.Signal.{Signal}
use Rattle.lnet_gates.specs.declared.gate.Op.TheVariants.{Maj}
use Rattle.lnet_gates.specs.declared.normal.Normal.{Normal}
use Rattle.lnet_gates.specs.declared.normal.Normal.TheVariants.{Is, Gate}
use Rattle.lnet_gates.specs.Gates.{flip, maj_of}
use Rattle.lnet_gates.specs.Operands.{flipped, complemented, is_same, ascending, moved}
use Rattle.lnet_gates.specs.NormalForms.{carried, key_form, turned_key, maj_of_three, maj_form}
use Rattle.lnet_gates.specs.Lawful.OperandLemmas.{by_test, untrue, same-signal, same-self, not_complement, complemented-twice, Apart, apart-sym, apart-not_same, not_same-apart, ascending-swap, ascending-turn, three-ascending, moved-flipped}
use Rattle.lnet_gates.specs.Lawful.FormLaws.{carried-false, carried-twice}

-- operands that no earlier case takes
pub record IsMajKey (a b c : Signal) : Type 0 where
  pub first_second : Apart a b
  pub first_third : Apart a c
  pub second_third : Apart b c

-- the key of three operands
abbrev pub maj_key : Signal → Signal → Signal → Normal
maj_key a b c = turned_key (maj_of (a.complement ∷ b.complement ∷ c.complement ∷ [])) a b c

-- what each case of the table has, the table has
pub maj-by : (P : Signal → Signal → Signal → Normal → Type 0)
    → ((a c : Signal) → P a a c (Is a))
    → ((a b : Signal) → P a b a (Is a))
    → ((a b : Signal) → P a b b (Is b))
    → ((a c : Signal) → P a (complemented a) c (Is c))
    → ((a b : Signal) → P a b (complemented a) (Is b))
    → ((a b : Signal) → P a b (complemented b) (Is a))
    → ((a b c : Signal) → IsMajKey a b c → P a b c (maj_key a b c))
    → (a b c : Signal) → P a b c (maj_of_three a b c)
maj-by P same_12 same_13 same_23 unlike_12 unlike_13 unlike_23 key a b c =
    by_test (P a b c) _ _ _ (λ h. subst (λ s. P a s c (Is a)) (same-signal a b h) (same_12 a c)) (λ p12.
    by_test (P a b c) _ _ _ (λ h. subst (λ s. P a b s (Is a)) (same-signal a c h) (same_13 a b)) (λ p13.
    by_test (P a b c) _ _ _ (λ h. subst (λ s. P a b s (Is b)) (same-signal b c h) (same_23 a b)) (λ p23.
    by_test (P a b c) _ _ _ (λ h. subst (λ s. P a s c (Is c)) (same-signal (complemented a) b h) (unlike_12 a c)) (λ q12.
    by_test (P a b c) _ _ _ (λ h. subst (λ s. P a b s (Is b)) (same-signal (complemented a) c h) (unlike_13 a b)) (λ q13.
    by_test (P a b c) _ _ _ (λ h. subst (λ s. P a b s (Is a)) (same-signal (complemented b) c h) (unlike_23 a b)) (λ q23.
    key a b c (record {
      first_second = not_same-apart a b p12 q12;
      first_third = not_same-apart a c p13 q13;
      second_third = not_same-apart b c p23 q23;
    })))))))

-- ---- what each case gives, also where an earlier case takes the operands

pub maj-same_12 : (a c : Signal) → maj_of_three a a c ≡ Is a
maj-same_12 a c = by_test (λ n. n ≡ Is a) _ _ _ (λ _. refl) (λ h. untrue (is_same a a) (same-self a) h)

pub maj-same_13 : (a b : Signal) → maj_of_three a b a ≡ Is a
maj-same_13 a b =
    let P : Normal → Type 0 = λ n. n ≡ Is a in
    by_test P (is_same a b) (Is a) _ (λ _. refl) (λ _.
    by_test P _ _ _ (λ _. refl) (λ h. untrue (is_same a a) (same-self a) h))

pub maj-same_23 : (a b : Signal) → maj_of_three a b b ≡ Is b
maj-same_23 a b =
    let P : Normal → Type 0 = λ n. n ≡ Is b in
    by_test P _ _ _ (λ h. ap Is (same-signal a b h)) (λ _.
    by_test P _ _ _ (λ h. ap Is (same-signal a b h)) (λ _.
    by_test P _ _ _ (λ _. refl) (λ h. untrue (is_same b b) (same-self b) h)))

pub maj-unlike_12 : (a c : Signal) → maj_of_three a (complemented a) c ≡ Is c
maj-unlike_12 a c =
    let P : Normal → Type 0 = λ n. n ≡ Is c in
    by_test P _ _ _ (λ h. not_complement a (same-signal a (complemented a) h)) (λ _.
    by_test P _ _ _ (λ h. ap Is (same-signal a c h)) (λ _.
    by_test P _ _ _ (λ h. ap Is (same-signal (complemented a) c h)) (λ _.
    by_test P _ _ _ (λ _. refl) (λ h. untrue (is_same (complemented a) (complemented a)) (same-self (complemented a)) h))))

pub maj-unlike_13 : (a b : Signal) → maj_of_three a b (complemented a) ≡ Is b
maj-unlike_13 a b =
    let P : Normal → Type 0 = λ n. n ≡ Is b in
    by_test P _ _ _ (λ h. ap Is (same-signal a b h)) (λ _.
    by_test P _ _ _ (λ h. not_complement a (same-signal a (complemented a) h)) (λ _.
    by_test P (is_same b (complemented a)) (Is b) _ (λ _. refl) (λ _.
    by_test P _ _ _ (λ h. ap Is (same-signal (complemented a) b h)) (λ _.
    by_test P _ _ _ (λ _. refl) (λ h. untrue (is_same (complemented a) (complemented a)) (same-self (complemented a)) h)))))

pub maj-unlike_23 : (a b : Signal) → maj_of_three a b (complemented b) ≡ Is a
maj-unlike_23 a b =
    let P : Normal → Type 0 = λ n. n ≡ Is a in
    by_test P (is_same a b) (Is a) _ (λ _. refl) (λ _.
    by_test P (is_same a (complemented b)) (Is a) _ (λ _. refl) (λ _.
    by_test P _ _ _ (λ h. not_complement b (same-signal b (complemented b) h)) (λ _.
    by_test P _ _ _ (λ h. ap Is (ap complemented (sym (same-signal (complemented a) b h)) ∙ complemented-twice a)) (λ _.
    by_test P _ _ _ (λ h. ap Is (sym (twice a b (same-signal (complemented a) (complemented b) h)))) (λ _.
    by_test P _ _ _ (λ _. refl) (λ h. untrue (is_same (complemented b) (complemented b)) (same-self (complemented b)) h))))))
  where
    twice : (a b : Signal) → complemented a ≡ complemented b → a ≡ b
    twice a b e = sym (complemented-twice a) ∙ ap complemented e ∙ complemented-twice b

pub maj-key : (a b c : Signal) → IsMajKey a b c → maj_of_three a b c ≡ maj_key a b c
maj-key a b c k =
    let P : Normal → Type 0 = λ n. n ≡ maj_key a b c in
    by_test P _ _ _ (λ h. untrue (is_same a b) h (apart-not_same a b k.first_second)) (λ _.
    by_test P _ _ _ (λ h. untrue (is_same a c) h (apart-not_same a c k.first_third)) (λ _.
    by_test P _ _ _ (λ h. untrue (is_same b c) h (apart-not_same b c k.second_third)) (λ _.
    by_test P _ _ _ (λ h. untrue (is_same (complemented a) b) h (apart-not_same (complemented a) b k.first_second)) (λ _.
    by_test P _ _ _ (λ h. untrue (is_same (complemented a) c) h (apart-not_same (complemented a) c k.first_third)) (λ _.
    by_test P _ _ _ (λ h. untrue (is_same (complemented b) c) h (apart-not_same (complemented b) c k.second_third)) (λ _. refl))))))

-- ---- the order of the operands doesn't matter

pub most-swap : (x y z : Bool) → maj_of (y ∷ x ∷ z ∷ []) ≡ maj_of (x ∷ y ∷ z ∷ [])
most-swap true true z = refl
most-swap true false true = refl
most-swap true false false = refl
most-swap false true true = refl
most-swap false true false = refl
most-swap false false z = refl

pub most-turn : (x y z : Bool) → maj_of (x ∷ z ∷ y ∷ []) ≡ maj_of (x ∷ y ∷ z ∷ [])
most-turn true true true = refl
most-turn true true false = refl
most-turn true false true = refl
most-turn true false false = refl
most-turn false true true = refl
most-turn false true false = refl
most-turn false false true = refl
most-turn false false false = refl

-- the keys of two orders are one, if most of the operands are complemented in both and they ascend alike
one_key : (m n : Bool) (ss ts : Bool → List Signal) → m ≡ n → ((t : Bool) → ascending (ss t) ≡ ascending (ts t)) → key_form Maj (ss m) m ≡ key_form Maj (ts n) n
one_key m n ss ts e same = ap (λ t. key_form Maj (ss t) t) e ∙ ap (λ us. Gate (record { op = Maj; fanins = us }) n) (same n)

-- the first two may change places
pub maj-swap : (a b c : Signal) → maj_of_three b a c ≡ maj_of_three a b c
maj-swap = maj-by (λ a b c n. maj_of_three b a c ≡ n)
    maj-same_12
    (λ a b. maj-same_23 b a)
    (λ a b. maj-same_13 b a)
    (λ a c. subst (λ s. maj_of_three (complemented a) s c ≡ Is c) (complemented-twice a) (maj-unlike_12 (complemented a) c))
    (λ a b. maj-unlike_23 b a)
    (λ a b. maj-unlike_13 b a)
    (λ a b c k. maj-key b a c (record { first_second = apart-sym a b k.first_second; first_third = k.second_third; second_third = k.first_third })
    ∙ one_key _ _ (λ t. flipped t b ∷ flipped t a ∷ flipped t c ∷ []) (λ t. flipped t a ∷ flipped t b ∷ flipped t c ∷ []) (most-swap a.complement b.complement c.complement) (λ t. ascending-swap (flipped t b) (flipped t a) (flipped t c)))

-- the last two may change places
pub maj-turn : (a b c : Signal) → maj_of_three a c b ≡ maj_of_three a b c
maj-turn = maj-by (λ a b c n. maj_of_three a c b ≡ n)
    (λ a c. maj-same_13 a c)
    (λ a b. maj-same_12 a b)
    maj-same_23
    (λ a c. maj-unlike_13 a c)
    (λ a b. maj-unlike_12 a b)
    (λ a b. subst (λ s. maj_of_three a (complemented b) s ≡ Is a) (complemented-twice b) (maj-unlike_23 a (complemented b)))
    (λ a b c k. maj-key a c b (record { first_second = k.first_third; first_third = k.first_second; second_third = apart-sym b c k.second_third })
    ∙ one_key _ _ (λ t. flipped t a ∷ flipped t c ∷ flipped t b ∷ []) (λ t. flipped t a ∷ flipped t b ∷ flipped t c ∷ []) (most-turn a.complement b.complement c.complement) (λ t. ascending-turn (flipped t a) (flipped t c) (flipped t b)))

-- ---- complementing each operand complements the form

most-complemented : (x y z : Bool) → maj_of (flip true x ∷ flip true y ∷ flip true z ∷ []) ≡ flip true (maj_of (x ∷ y ∷ z ∷ []))
most-complemented true true true = refl
most-complemented true true false = refl
most-complemented true false true = refl
most-complemented true false false = refl
most-complemented false true true = refl
most-complemented false true false = refl
most-complemented false false true = refl
most-complemented false false false = refl

pub maj-complemented : (a b c : Signal) → maj_of_three (complemented a) (complemented b) (complemented c) ≡ carried true (maj_of_three a b c)
maj-complemented = maj-by (λ a b c n. maj_of_three (complemented a) (complemented b) (complemented c) ≡ carried true n)
    (λ a c. maj-same_12 (complemented a) (complemented c))
    (λ a b. maj-same_13 (complemented a) (complemented b))
    (λ a b. maj-same_23 (complemented a) (complemented b))
    (λ a c. maj-unlike_12 (complemented a) (complemented c))
    (λ a b. maj-unlike_13 (complemented a) (complemented b))
    (λ a b. maj-unlike_23 (complemented a) (complemented b))
    (λ a b c k. maj-key (complemented a) (complemented b) (complemented c) (record { first_second = k.first_second; first_third = k.first_third; second_third = k.second_third })
    ∙ ap (λ t. turned_key t (complemented a) (complemented b) (complemented c)) (most-complemented a.complement b.complement c.complement)
    ∙ turned_twice (maj_of (a.complement ∷ b.complement ∷ c.complement ∷ [])) a b c)
  where
    turned_twice : (t : Bool) (a b c : Signal) → turned_key (flip true t) (complemented a) (complemented b) (complemented c) ≡ carried true (turned_key t a b c)
    turned_twice t a b c = ap (λ ss. Gate (record { op = Maj; fanins = ascending ss }) (flip true t)) (λ i. back t a i ∷ back t b i ∷ back t c i ∷ [])
      where
        back : (t : Bool) (s : Signal) → flipped (flip true t) (complemented s) ≡ flipped t s
        back true s = refl
        back false s = complemented-twice s

pub maj-flipped : (t : Bool) (a b c : Signal) → maj_of_three (flipped t a) (flipped t b) (flipped t c) ≡ carried t (maj_of_three a b c)
maj-flipped true a b c = maj-complemented a b c
maj-flipped false a b c = sym (carried-false (maj_of_three a b c))

-- ---- replacement

-- operands that ascend, replaced, have the form of the replaced operands
pub maj-moved : (place : ℕ → Signal) (a b c : Signal) → maj_form (map (moved place) (ascending (a ∷ b ∷ c ∷ []))) ≡ maj_of_three (moved place a) (moved place b) (moved place c)
maj-moved place a b c =
    let x = moved place a in
    let y = moved place b in
    let z = moved place c in
    three-ascending (λ ss. maj_form (map (moved place) ss) ≡ maj_of_three x y z) a b c
    refl
    (maj-swap x y z)
    (maj-turn y x z ∙ maj-swap x y z)
    (maj-turn x y z)
    (maj-swap x z y ∙ maj-turn x y z)
    (maj-turn z x y ∙ maj-swap x z y ∙ maj-turn x y z)

-- a key, replaced, has the form of the replaced operands
pub maj-key_moved : (place : ℕ → Signal) (t : Bool) (a b c : Signal) → carried t (maj_form (map (moved place) (ascending (flipped t a ∷ flipped t b ∷ flipped t c ∷ [])))) ≡ maj_of_three (moved place a) (moved place b) (moved place c)
maj-key_moved place t a b c =
    ap (carried t) (maj-moved place (flipped t a) (flipped t b) (flipped t c)
    ∙ (λ i. maj_of_three (moved-flipped place t a i) (moved-flipped place t b i) (moved-flipped place t c i))
    ∙ maj-flipped t (moved place a) (moved place b) (moved place c))
    ∙ carried-twice t (maj_of_three (moved place a) (moved place b) (moved place c))
