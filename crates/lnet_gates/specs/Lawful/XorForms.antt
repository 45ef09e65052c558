-- The table of Xor: its cases, and what each of them gives.
use Rattle.std.proofs.Common.{◌≡◌, ℕ, Bool, true, false, [], ◌∷◌, map, refl, sym, ap, subst, ◌∙◌}
use Rattle.lnet_gates.specs.declared.signal.Signal.{Signal}
use Rattle.lnet_gates.specs.declared.gate.Op.TheVariants.{Xor}
use Rattle.lnet_gates.specs.declared.normal.Normal.{Normal}
use Rattle.lnet_gates.specs.declared.normal.Normal.TheVariants.{Is, Gate}
use Rattle.lnet_gates.specs.Gates.{flip, xor_of}
use Rattle.lnet_gates.specs.Operands.{flipped, complemented, plain, constant, is_same, ascending, read, moved}
use Rattle.lnet_gates.specs.NormalForms.{carried, key_form, xor_of_two, xor_form}
use Rattle.lnet_gates.specs.NormalLaws.{form_reading}
use Rattle.lnet_gates.specs.Lawful.OperandLemmas.{by_test, untrue, same-signal, same-self, flip-flip, flip-comm, flipped-flipped, flipped-plain, complemented-twice, Apart, apart-sym, apart-not_same, not_same-apart, ascending-sym, two-ascending, not_complement, read-flipped, read-constant, moved-flipped}
use Rattle.lnet_gates.specs.Lawful.FormLaws.{carried-carried, carried-false}

-- operands that no earlier case takes
pub record IsXorKey (a b : Signal) : Type 0 where
  pub apart : Apart a b
  pub first : Apart (constant false) a
  pub second : Apart (constant false) b

-- the key of two operands
abbrev pub xor_key : Signal → Signal → Normal
xor_key a b = key_form Xor (plain a ∷ plain b ∷ []) (flip a.complement b.complement)

-- what each case of the table has, the table has
pub xor-by : (P : Signal → Signal → Normal → Type 0)
    → ((a : Signal) → P a a (Is (constant false)))
    → ((a : Signal) → P a (complemented a) (Is (constant true)))
    → ((c : Bool) (b : Signal) → P (constant c) b (Is (flipped c b)))
    → ((c : Bool) (a : Signal) → P a (constant c) (Is (flipped c a)))
    → ((a b : Signal) → IsXorKey a b → P a b (xor_key a b))
    → (a b : Signal) → P a b (xor_of_two a b)
xor-by P same opposite first second key a b =
    by_test (P a b) _ _ _ (λ h. subst (λ s. P a s (Is (constant false))) (same-signal a b h) (same a)) (λ apart.
    by_test (P a b) _ _ _ (λ h. subst (λ s. P a s (Is (constant true))) (same-signal (complemented a) b h) (opposite a)) (λ unlike.
    by_test (P a b) _ _ _ (λ h. subst (λ s. P s b (Is b)) (same-signal (constant false) a h) (first false b)) (λ not_false_first.
    by_test (P a b) _ _ _ (λ h. subst (λ s. P a s (Is a)) (same-signal (constant false) b h) (second false a)) (λ not_false_second.
    by_test (P a b) _ _ _ (λ h. subst (λ s. P s b (Is (complemented b))) (same-signal (constant true) a h) (first true b)) (λ not_true_first.
    by_test (P a b) _ _ _ (λ h. subst (λ s. P a s (Is (complemented a))) (same-signal (constant true) b h) (second true a)) (λ not_true_second.
    key a b (record {
      apart = not_same-apart a b apart unlike;
      first = not_same-apart (constant false) a not_false_first not_true_first;
      second = not_same-apart (constant false) b not_false_second not_true_second;
    })))))))

-- ---- what each case gives, also where an earlier case takes the operands

pub xor-same : (a : Signal) → xor_of_two a a ≡ Is (constant false)
xor-same a = by_test (λ n. n ≡ Is (constant false)) _ _ _ (λ _. refl) (λ h. untrue (is_same a a) (same-self a) h)

pub xor-opposite : (a : Signal) → xor_of_two a (complemented a) ≡ Is (constant true)
xor-opposite a =
    by_test (λ n. n ≡ Is (constant true)) _ _ _ (λ h. not_complement a (same-signal a (complemented a) h)) (λ _.
    by_test (λ n. n ≡ Is (constant true)) _ _ _ (λ _. refl) (λ h. untrue (is_same (complemented a) (complemented a)) (same-self (complemented a)) h))

pub xor-first : (c : Bool) (b : Signal) → xor_of_two (constant c) b ≡ Is (flipped c b)
xor-first false b =
    let P : Normal → Type 0 = λ n. n ≡ Is b in
    by_test P (is_same (constant false) b) (Is (constant false)) _ (λ h. ap Is (same-signal (constant false) b h)) (λ _.
    by_test P (is_same (constant true) b) (Is (constant true)) _ (λ h. ap Is (same-signal (constant true) b h)) (λ _. refl))
xor-first true b =
    let P : Normal → Type 0 = λ n. n ≡ Is (complemented b) in
    by_test P (is_same (constant true) b) (Is (constant false)) _ (λ h. ap (λ s. Is (complemented s)) (same-signal (constant true) b h)) (λ _.
    by_test P (is_same (constant false) b) (Is (constant true)) _ (λ h. ap (λ s. Is (complemented s)) (same-signal (constant false) b h)) (λ _.
    by_test P (is_same (constant false) b) (Is (constant true)) (Is (complemented b)) (λ h. ap (λ s. Is (complemented s)) (same-signal (constant false) b h)) (λ _. refl)))

pub xor-second : (c : Bool) (a : Signal) → xor_of_two a (constant c) ≡ Is (flipped c a)
xor-second false a =
    let P : Normal → Type 0 = λ n. n ≡ Is a in
    by_test P _ _ _ (λ h. ap Is (sym (same-signal a (constant false) h))) (λ _.
    by_test P _ _ _ (λ h. ap Is (ap complemented (sym (same-signal (complemented a) (constant false) h)) ∙ complemented-twice a)) (λ _.
    by_test P (is_same (constant false) a) (Is (constant false)) (Is a) (λ h. ap Is (same-signal (constant false) a h)) (λ _. refl)))
xor-second true a =
    let P : Normal → Type 0 = λ n. n ≡ Is (complemented a) in
    by_test P _ _ _ (λ h. ap (λ s. Is (complemented s)) (sym (same-signal a (constant true) h))) (λ _.
    by_test P _ _ _ (λ h. ap Is (sym (same-signal (complemented a) (constant true) h))) (λ _.
    by_test P (is_same (constant false) a) (Is (constant true)) _ (λ h. ap (λ s. Is (complemented s)) (same-signal (constant false) a h)) (λ _.
    by_test P (is_same (constant true) a) (Is (constant false)) (Is (complemented a)) (λ h. ap (λ s. Is (complemented s)) (same-signal (constant true) a h)) (λ _. refl))))

pub xor-key : (a b : Signal) → IsXorKey a b → xor_of_two a b ≡ xor_key a b
xor-key a b k =
    let P : Normal → Type 0 = λ n. n ≡ xor_key a b in
    by_test P _ _ _ (λ h. untrue (is_same a b) h (apart-not_same a b k.apart)) (λ _.
    by_test P _ _ _ (λ h. untrue (is_same (complemented a) b) h (apart-not_same (complemented a) b k.apart)) (λ _.
    by_test P _ _ _ (λ h. untrue (is_same (constant false) a) h (apart-not_same (constant false) a k.first)) (λ _.
    by_test P _ _ _ (λ h. untrue (is_same (constant false) b) h (apart-not_same (constant false) b k.second)) (λ _.
    by_test P _ _ _ (λ h. untrue (is_same (constant true) a) h (apart-not_same (constant true) a k.first)) (λ _.
    by_test P _ _ _ (λ h. untrue (is_same (constant true) b) h (apart-not_same (constant true) b k.second)) (λ _. refl))))))

-- ---- the order of the operands doesn't matter, and their complements go into the phase

pub xor-sym : (a b : Signal) → xor_of_two b a ≡ xor_of_two a b
xor-sym = xor-by (λ a b n. xor_of_two b a ≡ n)
    xor-same
    (λ a. subst (λ s. xor_of_two (complemented a) s ≡ Is (constant true)) (complemented-twice a) (xor-opposite (complemented a)))
    xor-second
    xor-first
    (λ a b k. xor-key b a (record { apart = apart-sym a b k.apart; first = k.second; second = k.first })
    ∙ (λ i. Gate (record { op = Xor; fanins = ascending-sym (plain b) (plain a) i }) (flip-comm b.complement a.complement i)))

pub xor-complemented : (a b : Signal) → xor_of_two (complemented a) b ≡ carried true (xor_of_two a b)
xor-complemented = xor-by (λ a b n. xor_of_two (complemented a) b ≡ carried true n)
    (λ a. xor-sym a (complemented a) ∙ xor-opposite a)
    (λ a. xor-same (complemented a))
    (λ c b. xor-first (flip true c) b ∙ ap Is (sym (flipped-flipped true c b)))
    (λ c a. xor-second c (complemented a) ∙ ap Is (flipped-flipped c true a ∙ ap (λ d. flipped d a) (flip-comm c true) ∙ sym (flipped-flipped true c a)))
    (λ a b k. xor-key (complemented a) b (record { apart = k.apart; first = k.first; second = k.second })
    ∙ ap (Gate (record { op = Xor; fanins = ascending (plain a ∷ plain b ∷ []) })) (flip-flip true a.complement b.complement))

pub xor-flipped : (c : Bool) (a b : Signal) → xor_of_two (flipped c a) b ≡ carried c (xor_of_two a b)
xor-flipped true a b = xor-complemented a b
xor-flipped false a b = sym (carried-false (xor_of_two a b))

-- both operands' complements are the key's phase
pub xor-plain : (c d : Bool) (a b : Signal) → xor_of_two (flipped c a) (flipped d b) ≡ carried (flip c d) (xor_of_two a b)
xor-plain c d a b =
    xor-flipped c a (flipped d b)
    ∙ ap (carried c) (xor-sym (flipped d b) a ∙ xor-flipped d b a ∙ ap (carried d) (xor-sym a b))
    ∙ carried-carried c d (xor_of_two a b)

-- ---- replacement

-- the operands of a key, replaced, have the form of the replaced operands up to the phase
pub xor-moved : (place : ℕ → Signal) (a b : Signal) → carried (flip a.complement b.complement) (xor_form (map (moved place) (ascending (plain a ∷ plain b ∷ [])))) ≡ xor_of_two (moved place a) (moved place b)
xor-moved place a b =
    let f : Signal → Signal = moved place in
    let turn = ap (carried (flip a.complement b.complement)) (two-ascending (λ ss. xor_form (map f ss) ≡ xor_of_two (f (plain a)) (f (plain b))) (plain a) (plain b) refl (xor-sym (f (plain a)) (f (plain b)))) in
    turn ∙ sym (xor-plain a.complement b.complement (f (plain a)) (f (plain b)))
    ∙ (λ i. xor_of_two (back a i) (back b i))
  where
    back : (s : Signal) → flipped s.complement (moved place (plain s)) ≡ moved place s
    back s = sym (moved-flipped place s.complement (plain s)) ∙ ap (moved place) (flipped-plain s)

-- ---- values

xor-self : (x : Bool) → false ≡ xor_of (x ∷ x ∷ [])
xor-self true = refl
xor-self false = refl

xor-not : (x : Bool) → true ≡ xor_of (x ∷ flip true x ∷ [])
xor-not true = refl
xor-not false = refl

xor-bits : (c d x y : Bool) → flip (flip c d) (xor_of (x ∷ y ∷ [])) ≡ xor_of (flip c x ∷ flip d y ∷ [])
xor-bits true true true true = refl
xor-bits true true true false = refl
xor-bits true true false true = refl
xor-bits true true false false = refl
xor-bits true false true true = refl
xor-bits true false true false = refl
xor-bits true false false true = refl
xor-bits true false false false = refl
xor-bits false true true true = refl
xor-bits false true true false = refl
xor-bits false true false true = refl
xor-bits false true false false = refl
xor-bits false false x y = refl

-- a form of Xor has the value of the Xor
pub xor-value : (V : ℕ → Bool) → V 0 ≡ false → (a b : Signal) → form_reading V (xor_of_two a b) ≡ xor_of (read V a ∷ read V b ∷ [])
xor-value V zero_false = xor-by (λ a b n. form_reading V n ≡ xor_of (read V a ∷ read V b ∷ []))
    (λ a. zero_false ∙ xor-self (read V a))
    (λ a. ap (flip true) zero_false ∙ xor-not (read V a) ∙ ap (λ y. xor_of (read V a ∷ y ∷ [])) (sym (read-flipped V true a)))
    (λ c b. read-flipped V c b ∙ ap (λ x. xor_of (x ∷ read V b ∷ [])) (sym (read-constant V c zero_false)))
    (λ c a. read-flipped V c a ∙ flip-comm c (read V a) ∙ ap (λ y. xor_of (read V a ∷ y ∷ [])) (sym (read-constant V c zero_false)))
    (λ a b _. ap (flip (flip a.complement b.complement)) (two-ascending (λ ss. xor_of (map (read V) ss) ≡ xor_of (V a.node.0 ∷ V b.node.0 ∷ [])) (plain a) (plain b) refl (flip-comm (V b.node.0) (V a.node.0)))
    ∙ xor-bits a.complement b.complement (V a.node.0) (V b.node.0))
