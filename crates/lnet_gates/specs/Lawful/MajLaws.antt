-- The laws of Maj's normal form.
use Rattle.std.proofs.Common.{◌≡◌, ℕ, Bool, true, false, [], ◌∷◌, map, refl, sym, ap, ◌∙◌, inl, inr}
use Rattle.lnet_gates.specs.declared.signal.Signal.{Signal}
use Rattle.lnet_gates.specs.declared.gate.Op.TheVariants.{Maj}
use Rattle.lnet_gates.specs.Gates.{flip, maj_of, operate}
use Rattle.lnet_gates.specs.Operands.{flipped, ascending, read, moved}
use Rattle.lnet_gates.specs.NormalForms.{maj_of_three, maj_form, normal_maj}
use Rattle.lnet_gates.specs.NormalLaws.{IsGateOf, NormalLaws, NamesOnly, IsNativeForm, form_reading}
use Rattle.lnet_gates.specs.Lawful.OperandLemmas.{named-ascending, length-ascending, three-ascending, read-flipped, moved-flipped}
use Rattle.lnet_gates.specs.Lawful.FormLaws.{FormLaws, formed, normal_laws, three}
use Rattle.lnet_gates.specs.Lawful.MajForms.{maj-by, maj-same_12, maj-same_13, maj-same_23, maj-unlike_12, maj-unlike_13, maj-unlike_23, maj-key_moved, most-swap, most-turn}

-- ---- values

most-same : (x z : Bool) → x ≡ maj_of (x ∷ x ∷ z ∷ [])
most-same true z = refl
most-same false true = refl
most-same false false = refl

most-unlike : (x z : Bool) → z ≡ maj_of (x ∷ flip true x ∷ z ∷ [])
most-unlike true true = refl
most-unlike true false = refl
most-unlike false true = refl
most-unlike false false = refl

most-flipped : (t x y z : Bool) → flip t (maj_of (flip t x ∷ flip t y ∷ flip t z ∷ [])) ≡ maj_of (x ∷ y ∷ z ∷ [])
most-flipped false x y z = refl
most-flipped true true true true = refl
most-flipped true true true false = refl
most-flipped true true false true = refl
most-flipped true true false false = refl
most-flipped true false true true = refl
most-flipped true false true false = refl
most-flipped true false false true = refl
most-flipped true false false false = refl

most-ascending : (V : ℕ → Bool) (a b c : Signal) → maj_of (map (read V) (ascending (a ∷ b ∷ c ∷ []))) ≡ maj_of (read V a ∷ read V b ∷ read V c ∷ [])
most-ascending V a b c =
    let x = read V a in
    let y = read V b in
    let z = read V c in
    three-ascending (λ ss. maj_of (map (read V) ss) ≡ maj_of (x ∷ y ∷ z ∷ [])) a b c
    refl
    (most-swap x y z)
    (most-turn y x z ∙ most-swap x y z)
    (most-turn x y z)
    (most-swap x z y ∙ most-turn x y z)
    (most-turn z x y ∙ most-swap x z y ∙ most-turn x y z)

-- a key of Maj has the value of the Maj
key-value : (V : ℕ → Bool) (t : Bool) (a b c : Signal) → flip t (maj_of (map (read V) (ascending (flipped t a ∷ flipped t b ∷ flipped t c ∷ [])))) ≡ maj_of (read V a ∷ read V b ∷ read V c ∷ [])
key-value V t a b c =
    ap (flip t) (most-ascending V (flipped t a) (flipped t b) (flipped t c) ∙ (λ i. maj_of (read-flipped V t a i ∷ read-flipped V t b i ∷ read-flipped V t c i ∷ [])))
    ∙ most-flipped t (read V a) (read V b) (read V c)

-- a form of Maj has the value of the Maj
maj-value : (V : ℕ → Bool) (a b c : Signal) → form_reading V (maj_of_three a b c) ≡ maj_of (read V a ∷ read V b ∷ read V c ∷ [])
maj-value V =
    let r : Signal → Bool = read V in
    let unlike = λ (s : Signal). sym (read-flipped V true s) in
    maj-by (λ a b c n. form_reading V n ≡ maj_of (r a ∷ r b ∷ r c ∷ []))
    (λ a c. most-same (r a) (r c))
    (λ a b. most-same (r a) (r b) ∙ most-turn (r a) (r b) (r a))
    (λ a b. most-same (r b) (r a) ∙ most-turn (r b) (r a) (r b) ∙ most-swap (r a) (r b) (r b))
    (λ a c. most-unlike (r a) (r c) ∙ ap (λ y. maj_of (r a ∷ y ∷ r c ∷ [])) (unlike a))
    (λ a b. most-unlike (r a) (r b) ∙ most-turn (r a) (r b) (flip true (r a)) ∙ ap (λ z. maj_of (r a ∷ r b ∷ z ∷ [])) (unlike a))
    (λ a b. most-unlike (r b) (r a) ∙ most-turn (r b) (r a) (flip true (r b)) ∙ most-swap (r a) (r b) (flip true (r b)) ∙ ap (λ z. maj_of (r a ∷ r b ∷ z ∷ [])) (unlike b))
    (λ a b c _. key-value V (maj_of (a.complement ∷ b.complement ∷ c.complement ∷ [])) a b c)

-- ---- the other laws

maj-names : (a b c : Signal) → NamesOnly (a ∷ b ∷ c ∷ []) (maj_of_three a b c)
maj-names = maj-by (λ a b c n. NamesOnly (a ∷ b ∷ c ∷ []) n)
    (λ a c. inl (inl refl))
    (λ a b. inl (inl refl))
    (λ a b. inl (inr (inl refl)))
    (λ a c. inl (inr (inr (inl refl))))
    (λ a b. inl (inr (inl refl)))
    (λ a b. inl (inl refl))
    (λ a b c _ n h. let t = maj_of (a.complement ∷ b.complement ∷ c.complement ∷ []) in inl (named-ascending n (flipped t a ∷ flipped t b ∷ flipped t c ∷ []) h))

maj-native : (a b c : Signal) → IsNativeForm (IsGateOf Maj 3) (maj_of_three a b c)
maj-native = maj-by (λ _ _ _ n. IsNativeForm (IsGateOf Maj 3) n)
    (λ _ _. tt) (λ _ _. tt) (λ _ _. tt) (λ _ _. tt) (λ _ _. tt) (λ _ _. tt)
    (λ a b c _. let t = maj_of (a.complement ∷ b.complement ∷ c.complement ∷ []) in record { op_is = refl; count_is = length-ascending (flipped t a ∷ flipped t b ∷ flipped t c ∷ []) })

maj-agrees : (place : ℕ → Signal) (a b c : Signal) → maj_of_three (moved place a) (moved place b) (moved place c) ≡ formed maj_form place (maj_of_three a b c)
maj-agrees place =
    let f : Signal → Signal = moved place in
    maj-by (λ a b c n. maj_of_three (f a) (f b) (f c) ≡ formed maj_form place n)
    (λ a c. maj-same_12 (f a) (f c))
    (λ a b. maj-same_13 (f a) (f b))
    (λ a b. maj-same_23 (f a) (f b))
    (λ a c. ap (λ s. maj_of_three (f a) s (f c)) (moved-flipped place true a) ∙ maj-unlike_12 (f a) (f c))
    (λ a b. ap (maj_of_three (f a) (f b)) (moved-flipped place true a) ∙ maj-unlike_13 (f a) (f b))
    (λ a b. ap (maj_of_three (f a) (f b)) (moved-flipped place true b) ∙ maj-unlike_23 (f a) (f b))
    (λ a b c _. sym (maj-key_moved place (maj_of (a.complement ∷ b.complement ∷ c.complement ∷ [])) a b c))

maj_table_laws : FormLaws Maj 3 maj_form
maj_table_laws = record {
  value = λ V ss _ h. three (λ ss. form_reading V (maj_form ss) ≡ operate Maj (map (read V) ss)) (maj-value V) ss h;
  names = three (λ ss. NamesOnly ss (maj_form ss)) maj-names;
  native = three (λ ss. IsNativeForm (IsGateOf Maj 3) (maj_form ss)) maj-native;
  agrees = λ place ss _ h. three (λ ss. maj_form (map (moved place) ss) ≡ formed maj_form place (maj_form ss)) (maj-agrees place) ss h;
}

-- Maj's normal form has the laws of normal forms
pub maj_laws : NormalLaws (IsGateOf Maj 3) normal_maj
maj_laws = normal_laws Maj 3 maj_form maj_table_laws
