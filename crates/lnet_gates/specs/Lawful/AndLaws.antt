-- The laws of And's normal form.
use Rattle.std.proofs.Common.{◌≡◌, ℕ, Bool, true, false, [], ◌∷◌, map, refl, sym, ap, subst, ◌∙◌, inl, inr}
use Rattle.lnet_gates.specs.declared.signal.Signal.{Signal}
use Rattle.lnet_gates.specs.declared.gate.Op.TheVariants.{And}
use Rattle.lnet_gates.specs.declared.normal.Normal.{Normal}
use Rattle.lnet_gates.specs.declared.normal.Normal.TheVariants.{Is, Gate}
use Rattle.lnet_gates.specs.Gates.{GateValue, KeyValue, flip, operate}
use Rattle.lnet_gates.specs.Operands.{constant, read, moved, ascending}
use Rattle.lnet_gates.specs.NormalForms.{carried, and_of_two, and_form, normal_and}
use Rattle.lnet_gates.specs.NormalLaws.{IsGateOf, NormalLaws, NamesOnly, IsNativeForm, form_reading}
use Rattle.lnet_gates.specs.Lawful.OperandLemmas.{flip-comm, named-ascending, length-ascending, moved-flipped, moved-constant}
use Rattle.lnet_gates.specs.Lawful.FormLaws.{FormLaws, formed, carried-false, normal_laws, two}
use Rattle.lnet_gates.specs.Lawful.AndForms.{and-by, and-same, and-opposite, and-false_first, and-false_second, and-true_first, and-true_second, and-moved, and-value}

and-names : (a b : Signal) → NamesOnly (a ∷ b ∷ []) (and_of_two a b)
and-names = and-by (λ a b n. NamesOnly (a ∷ b ∷ []) n)
    (λ a. inl (inl refl))
    (λ a. inr refl)
    (λ b. inr refl)
    (λ a. inr refl)
    (λ b. inl (inr (inl refl)))
    (λ a. inl (inl refl))
    (λ a b _ n h. inl (named-ascending n (a ∷ b ∷ []) h))

and-native : (a b : Signal) → IsNativeForm (IsGateOf And 2) (and_of_two a b)
and-native = and-by (λ _ _ n. IsNativeForm (IsGateOf And 2) n)
    (λ _. tt) (λ _. tt) (λ _. tt) (λ _. tt) (λ _. tt) (λ _. tt)
    (λ a b _. record { op_is = refl; count_is = length-ascending (a ∷ b ∷ []) })

and-agrees : (place : ℕ → Signal) → place 0 ≡ constant false → (a b : Signal) → and_of_two (moved place a) (moved place b) ≡ formed and_form place (and_of_two a b)
and-agrees place kept =
    let f : Signal → Signal = moved place in
    let keeps = λ (c : Bool). moved-constant place c kept in
    and-by (λ a b n. and_of_two (f a) (f b) ≡ formed and_form place n)
    (λ a. and-same (f a))
    (λ a. ap (and_of_two (f a)) (moved-flipped place true a) ∙ and-opposite (f a) ∙ ap Is (sym (keeps false)))
    (λ b. ap (λ s. and_of_two s (f b)) (keeps false) ∙ and-false_first (f b) ∙ ap Is (sym (keeps false)))
    (λ a. ap (and_of_two (f a)) (keeps false) ∙ and-false_second (f a) ∙ ap Is (sym (keeps false)))
    (λ b. ap (λ s. and_of_two s (f b)) (keeps true) ∙ and-true_first (f b))
    (λ a. ap (and_of_two (f a)) (keeps true) ∙ and-true_second (f a))
    (λ a b _. sym (and-moved place a b) ∙ sym (carried-false (and_form (map f (ascending (a ∷ b ∷ []))))))

and_table_laws : FormLaws And 2 and_form
and_table_laws = record {
  value = λ V ss zero_false h. two (λ ss. form_reading V (and_form ss) ≡ operate And (map (read V) ss)) (and-value V zero_false) ss h;
  names = two (λ ss. NamesOnly ss (and_form ss)) and-names;
  native = two (λ ss. IsNativeForm (IsGateOf And 2) (and_form ss)) and-native;
  agrees = λ place ss kept h. two (λ ss. and_form (map (moved place) ss) ≡ formed and_form place (and_form ss)) (and-agrees place kept) ss h;
}

-- And's normal form has the laws of normal forms
pub and_laws : NormalLaws (IsGateOf And 2) normal_and
and_laws = normal_laws And 2 and_form and_table_laws

-- a form whose key, if it is one, has the phase c
abbrev HasPhase : Bool → Normal → Type 0
HasPhase c (Is s) = Unit
HasPhase c (Gate k phase) = phase ≡ c

carried-phase : (c : Bool) (n : Normal) → HasPhase false n → HasPhase c (carried c n)
carried-phase c (Is s) h = tt
carried-phase c (Gate k phase) h = ap (flip c) h ∙ flip-comm c false

-- a key of an And has the gate's phase
pub and-key_phase : (g : GateValue) (k : KeyValue) (phase : Bool) → IsGateOf And 2 g → normal_and g ≡ Gate k phase → phase ≡ g.phase
and-key_phase g k phase of is_key = subst (HasPhase g.phase) is_key (carried-phase g.phase (and_form g.fanins) (two (λ ss. HasPhase false (and_form ss)) no_phase g.fanins of.count_is))
  where
    no_phase : (a b : Signal) → HasPhase false (and_of_two a b)
    no_phase = and-by (λ _ _ n. HasPhase false n) (λ _. tt) (λ _. tt) (λ _. tt) (λ _. tt) (λ _. tt) (λ _. tt) (λ _ _ _. refl)
