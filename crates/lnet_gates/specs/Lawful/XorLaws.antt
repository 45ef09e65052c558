-- The laws of Xor's normal form.
use Rattle.std.proofs.Common.{◌≡◌, ℕ, Bool, true, false, [], ◌∷◌, map, refl, sym, ap, ◌∙◌, inl, inr}
use Rattle.lnet_gates.specs.declared.signal.Signal.{Signal}
use Rattle.lnet_gates.specs.declared.gate.Op.TheVariants.{Xor}
use Rattle.lnet_gates.specs.declared.normal.Normal.TheVariants.{Is}
use Rattle.lnet_gates.specs.Gates.{operate}
use Rattle.lnet_gates.specs.Operands.{constant, plain, read, moved}
use Rattle.lnet_gates.specs.NormalForms.{xor_of_two, xor_form, normal_xor}
use Rattle.lnet_gates.specs.NormalLaws.{IsGateOf, NormalLaws, NamesOnly, IsNativeForm, form_reading}
use Rattle.lnet_gates.specs.Lawful.OperandLemmas.{named-ascending, length-ascending, moved-flipped, moved-constant}
use Rattle.lnet_gates.specs.Lawful.FormLaws.{FormLaws, formed, normal_laws, two}
use Rattle.lnet_gates.specs.Lawful.XorForms.{xor-by, xor-same, xor-opposite, xor-first, xor-second, xor-moved, xor-value}

xor-names : (a b : Signal) → NamesOnly (a ∷ b ∷ []) (xor_of_two a b)
xor-names = xor-by (λ a b n. NamesOnly (a ∷ b ∷ []) n)
    (λ a. inr refl)
    (λ a. inr refl)
    (λ c b. inl (inr (inl refl)))
    (λ c a. inl (inl refl))
    (λ a b _ n h. inl (named-ascending n (plain a ∷ plain b ∷ []) h))

xor-native : (a b : Signal) → IsNativeForm (IsGateOf Xor 2) (xor_of_two a b)
xor-native = xor-by (λ _ _ n. IsNativeForm (IsGateOf Xor 2) n)
    (λ _. tt) (λ _. tt) (λ _ _. tt) (λ _ _. tt)
    (λ a b _. record { op_is = refl; count_is = length-ascending (plain a ∷ plain b ∷ []) })

xor-agrees : (place : ℕ → Signal) → place 0 ≡ constant false → (a b : Signal) → xor_of_two (moved place a) (moved place b) ≡ formed xor_form place (xor_of_two a b)
xor-agrees place kept =
    let f : Signal → Signal = moved place in
    let keeps = λ (c : Bool). moved-constant place c kept in
    xor-by (λ a b n. xor_of_two (f a) (f b) ≡ formed xor_form place n)
    (λ a. xor-same (f a) ∙ ap Is (sym (keeps false)))
    (λ a. ap (xor_of_two (f a)) (moved-flipped place true a) ∙ xor-opposite (f a) ∙ ap Is (sym (keeps true)))
    (λ c b. ap (λ s. xor_of_two s (f b)) (keeps c) ∙ xor-first c (f b) ∙ ap Is (sym (moved-flipped place c b)))
    (λ c a. ap (xor_of_two (f a)) (keeps c) ∙ xor-second c (f a) ∙ ap Is (sym (moved-flipped place c a)))
    (λ a b _. sym (xor-moved place a b))

xor_table_laws : FormLaws Xor 2 xor_form
xor_table_laws = record {
  value = λ V ss zero_false h. two (λ ss. form_reading V (xor_form ss) ≡ operate Xor (map (read V) ss)) (xor-value V zero_false) ss h;
  names = two (λ ss. NamesOnly ss (xor_form ss)) xor-names;
  native = two (λ ss. IsNativeForm (IsGateOf Xor 2) (xor_form ss)) xor-native;
  agrees = λ place ss kept h. two (λ ss. xor_form (map (moved place) ss) ≡ formed xor_form place (xor_form ss)) (xor-agrees place kept) ss h;
}

-- Xor's normal form has the laws of normal forms
pub xor_laws : NormalLaws (IsGateOf Xor 2) normal_xor
xor_laws = normal_laws Xor 2 xor_form xor_table_laws
