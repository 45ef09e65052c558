-- The table of And: its cases, and what each of them gives.
use Rattle.std.proofs.Common.{◌≡◌, ℕ, Bool, true, false, cond, ◌||◌, [], ◌∷◌, map, refl, sym, ap, subst, ◌∙◌}
use Rattle.lnet_gates.specs.declared.signal.Signal.{Signal}
use Rattle.lnet_gates.specs.declared.gate.Op.TheVariants.{And}
use Rattle.lnet_gates.specs.declared.normal.Normal.{Normal}
use Rattle.lnet_gates.specs.declared.normal.Normal.TheVariants.{Is, Gate}
use Rattle.lnet_gates.specs.Gates.{flip, and_of}
use Rattle.lnet_gates.specs.Operands.{complemented, constant, is_same, ascending, read, moved}
use Rattle.lnet_gates.specs.NormalLaws.{form_reading}
use Rattle.lnet_gates.specs.NormalForms.{key_form, and_of_two, and_form}
use Rattle.lnet_gates.specs.Lawful.OperandLemmas.{by_test, untrue, same-signal, same-self, complemented-twice, Apart, apart-sym, apart-not_same, not_same-apart, ascending-sym, two-ascending, not_complement, read-flipped, read-constant}

pub either_true : {A : Type 0} (x y : Bool) → (x || y) ≡ true → (x ≡ true → A) → (y ≡ true → A) → A
either_true true y h p q = p refl
either_true false y h p q = q h

neither_true : (x y : Bool) → (x || y) ≡ false → (x ≡ false) × (y ≡ false)
neither_true true y h = cc
neither_true false y h = (refl, h)

pub or-true : (x y : Bool) → y ≡ true → (x || y) ≡ true
or-true true y h = refl
or-true false y h = h

-- operands that no earlier case takes
pub record IsAndKey (a b : Signal) : Type 0 where
  pub apart : Apart a b
  pub first : Apart (constant false) a
  pub second : Apart (constant false) b

-- what each case of the table has, the table has
pub and-by : (P : Signal → Signal → Normal → Type 0)
    → ((a : Signal) → P a a (Is a))
    → ((a : Signal) → P a (complemented a) (Is (constant false)))
    → ((b : Signal) → P (constant false) b (Is (constant false)))
    → ((a : Signal) → P a (constant false) (Is (constant false)))
    → ((b : Signal) → P (constant true) b (Is b))
    → ((a : Signal) → P a (constant true) (Is a))
    → ((a b : Signal) → IsAndKey a b → P a b (key_form And (a ∷ b ∷ []) false))
    → (a b : Signal) → P a b (and_of_two a b)
and-by P same opposite false_first false_second true_first true_second key a b =
    by_test (P a b) _ _ _ (λ h. subst (λ s. P a s (Is a)) (same-signal a b h) (same a)) (λ apart.
    by_test (P a b) _ _ _ (λ h. subst (λ s. P a s (Is (constant false))) (same-signal (complemented a) b h) (opposite a)) (λ unlike.
    by_test (P a b) _ _ _ (λ h. either_true _ _ h
    (λ p. subst (λ s. P s b (Is (constant false))) (same-signal (constant false) a p) (false_first b))
    (λ q. subst (λ s. P a s (Is (constant false))) (same-signal (constant false) b q) (false_second a))) (λ no_false.
    by_test (P a b) _ _ _ (λ h. subst (λ s. P s b (Is b)) (same-signal (constant true) a h) (true_first b)) (λ not_first.
    by_test (P a b) _ _ _ (λ h. subst (λ s. P a s (Is a)) (same-signal (constant true) b h) (true_second a)) (λ not_second.
    let f = neither_true (is_same (constant false) a) (is_same (constant false) b) no_false in
    key a b (record {
      apart = not_same-apart a b apart unlike;
      first = not_same-apart (constant false) a f.0 not_first;
      second = not_same-apart (constant false) b f.1 not_second;
    }))))))

-- ---- what each case gives, also where an earlier case takes the operands

pub and-same : (a : Signal) → and_of_two a a ≡ Is a
and-same a = by_test (λ n. n ≡ Is a) _ _ _ (λ _. refl) (λ h. untrue (is_same a a) (same-self a) h)

pub and-opposite : (a : Signal) → and_of_two a (complemented a) ≡ Is (constant false)
and-opposite a =
    by_test (λ n. n ≡ Is (constant false)) _ _ _ (λ h. not_complement a (same-signal a (complemented a) h)) (λ _.
    by_test (λ n. n ≡ Is (constant false)) _ _ _ (λ _. refl) (λ h. untrue (is_same (complemented a) (complemented a)) (same-self (complemented a)) h))

pub and-false_first : (b : Signal) → and_of_two (constant false) b ≡ Is (constant false)
and-false_first b =
    let P : Normal → Type 0 = λ n. n ≡ Is (constant false) in
    by_test P (is_same (constant false) b) (Is (constant false)) (cond (is_same (constant true) b) (Is (constant false)) (Is (constant false))) (λ _. refl) (λ _.
    by_test P (is_same (constant true) b) (Is (constant false)) (Is (constant false)) (λ _. refl) (λ _. refl))

pub and-false_second : (a : Signal) → and_of_two a (constant false) ≡ Is (constant false)
and-false_second a =
    let P : Normal → Type 0 = λ n. n ≡ Is (constant false) in
    by_test P _ _ _ (λ h. ap Is (same-signal a (constant false) h)) (λ _.
    by_test P (is_same (complemented a) (constant false)) (Is (constant false)) (cond (is_same (constant false) a || true) (Is (constant false)) (cond (is_same (constant true) a) (Is (constant false)) (key_form And (a ∷ constant false ∷ []) false))) (λ _. refl) (λ _.
    by_test P (is_same (constant false) a || true) (Is (constant false)) (cond (is_same (constant true) a) (Is (constant false)) (key_form And (a ∷ constant false ∷ []) false)) (λ _. refl) (λ h. untrue _ (or-true (is_same (constant false) a) true refl) h)))

pub and-true_first : (b : Signal) → and_of_two (constant true) b ≡ Is b
and-true_first b =
    let P : Normal → Type 0 = λ n. n ≡ Is b in
    by_test P (is_same (constant true) b) (Is (constant true)) _ (λ h. ap Is (same-signal (constant true) b h)) (λ _.
    by_test P (is_same (constant false) b) (Is (constant false)) _ (λ h. ap Is (same-signal (constant false) b h)) (λ _.
    by_test P (is_same (constant false) b) (Is (constant false)) (Is b) (λ h. ap Is (same-signal (constant false) b h)) (λ _. refl)))

pub and-true_second : (a : Signal) → and_of_two a (constant true) ≡ Is a
and-true_second a =
    let P : Normal → Type 0 = λ n. n ≡ Is a in
    by_test P _ _ _ (λ _. refl) (λ _.
    by_test P _ _ _ (λ h. ap Is (ap complemented (sym (same-signal (complemented a) (constant true) h)) ∙ complemented-twice a)) (λ _.
    by_test P _ _ _ (λ h. either_true (is_same (constant false) a) false h (λ p. ap Is (same-signal (constant false) a p)) (λ q. untrue false q refl)) (λ _.
    by_test P (is_same (constant true) a) (Is (constant true)) (Is a) (λ h. ap Is (same-signal (constant true) a h)) (λ _. refl))))

pub and-key : (a b : Signal) → IsAndKey a b → and_of_two a b ≡ key_form And (a ∷ b ∷ []) false
and-key a b k =
    let P : Normal → Type 0 = λ n. n ≡ key_form And (a ∷ b ∷ []) false in
    by_test P _ _ _ (λ h. untrue (is_same a b) h (apart-not_same a b k.apart)) (λ _.
    by_test P _ _ _ (λ h. untrue (is_same (complemented a) b) h (apart-not_same (complemented a) b k.apart)) (λ _.
    by_test P _ _ _ (λ h. either_true _ _ h
    (λ p. untrue (is_same (constant false) a) p (apart-not_same (constant false) a k.first))
    (λ q. untrue (is_same (constant false) b) q (apart-not_same (constant false) b k.second))) (λ _.
    by_test P _ _ _ (λ h. untrue (is_same (constant true) a) h (apart-not_same (constant true) a k.first)) (λ _.
    by_test P _ _ _ (λ h. untrue (is_same (constant true) b) h (apart-not_same (constant true) b k.second)) (λ _. refl)))))

-- ---- the order of the operands doesn't matter

pub and-sym : (a b : Signal) → and_of_two b a ≡ and_of_two a b
and-sym = and-by (λ a b n. and_of_two b a ≡ n)
    and-same
    (λ a. subst (λ s. and_of_two (complemented a) s ≡ Is (constant false)) (complemented-twice a) (and-opposite (complemented a)))
    and-false_second
    and-false_first
    and-true_second
    and-true_first
    (λ a b k. and-key b a (record { apart = apart-sym a b k.apart; first = k.second; second = k.first }) ∙ ap (λ ss. Gate (record { op = And; fanins = ss }) false) (ascending-sym b a))

-- ---- replacement

-- the operands of a key, replaced, have the form of the replaced operands
pub and-moved : (place : ℕ → Signal) (a b : Signal) → and_form (map (moved place) (ascending (a ∷ b ∷ []))) ≡ and_of_two (moved place a) (moved place b)
and-moved place a b = two-ascending (λ ss. and_form (map (moved place) ss) ≡ and_of_two (moved place a) (moved place b)) a b refl (and-sym (moved place a) (moved place b))

-- ---- values

and-self : (x : Bool) → x ≡ and_of (x ∷ x ∷ [])
and-self true = refl
and-self false = refl

and-not : (x : Bool) → false ≡ and_of (x ∷ flip true x ∷ [])
and-not true = refl
and-not false = refl

pub and-comm : (x y : Bool) → and_of (y ∷ x ∷ []) ≡ and_of (x ∷ y ∷ [])
and-comm true true = refl
and-comm true false = refl
and-comm false true = refl
and-comm false false = refl

and-with_false : (x : Bool) → false ≡ and_of (x ∷ false ∷ [])
and-with_false true = refl
and-with_false false = refl

and-with_true : (x : Bool) → x ≡ and_of (x ∷ true ∷ [])
and-with_true true = refl
and-with_true false = refl

-- a form of And has the value of the And
pub and-value : (V : ℕ → Bool) → V 0 ≡ false → (a b : Signal) → form_reading V (and_of_two a b) ≡ and_of (read V a ∷ read V b ∷ [])
and-value V zero_false = and-by (λ a b n. form_reading V n ≡ and_of (read V a ∷ read V b ∷ []))
    (λ a. and-self (read V a))
    (λ a. zero_false ∙ and-not (read V a) ∙ ap (λ y. and_of (read V a ∷ y ∷ [])) (sym (read-flipped V true a)))
    (λ b. zero_false ∙ ap (λ x. and_of (x ∷ read V b ∷ [])) (sym zero_false))
    (λ a. zero_false ∙ and-with_false (read V a) ∙ ap (λ y. and_of (read V a ∷ y ∷ [])) (sym zero_false))
    (λ b. ap (λ x. and_of (x ∷ read V b ∷ [])) (sym (read-constant V true zero_false)))
    (λ a. and-with_true (read V a) ∙ ap (λ y. and_of (read V a ∷ y ∷ [])) (sym (read-constant V true zero_false)))
    (λ a b _. two-ascending (λ ss. and_of (map (read V) ss) ≡ and_of (read V a ∷ read V b ∷ [])) a b refl (and-comm (read V a) (read V b)))
