-- In a network of any kind a key of an And is the form of an And gate alone, and has its phase.
use Rattle.std.proofs.Common.{◌≡◌, ℕ, Bool, true, List, [], ◌∷◌, length, refl, sym, ap, ◌∙◌, subst}
use Rattle.std.proofs.lemmas.Bool.{false≢true}
use Rattle.lnet_gates.specs.declared.gate.Kind.{Kind}
use Rattle.lnet_gates.specs.declared.gate.Kind.TheVariants.{Aig, Xag, Mig, Klut}
use Rattle.lnet_gates.specs.declared.gate.Op.{Op}
use Rattle.lnet_gates.specs.declared.gate.Op.TheVariants.{And, Xor, Maj, Lut}
use Rattle.lnet_gates.specs.declared.normal.Normal.{Normal}
use Rattle.lnet_gates.specs.declared.normal.Normal.TheVariants.{Is, Gate}
use Rattle.lnet_gates.specs.Gates.{GateValue, KeyValue}
use Rattle.lnet_gates.specs.NormalForms.{normal_xor, normal_maj}
use Rattle.lnet_gates.specs.NormalLaws.{IsGateOf, IsNativeForm, AndsKeepPhase}
use Rattle.lnet_gates.specs.Plans.{is_native, Takes}
use Rattle.lnet_gates.specs.LutForms.{normal_lut, form_over, function_of, bound_of, support}
use Rattle.lnet_gates.specs.Natives.{IsNativeGate, normal_by_op}
use Rattle.lnet_gates.specs.Forms.{form_of}
use Rattle.lnet_gates.specs.Lawful.AndLaws.{and-key_phase}
use Rattle.lnet_gates.specs.Lawful.XorLaws.{xor_laws}
use Rattle.lnet_gates.specs.Lawful.MajLaws.{maj_laws}
use Rattle.lnet_gates.specs.Lawful.KindLaws.{and_same, xor_same, maj_same}

-- a key keeps the operation of the gates that it is native for
key_op : (op : Op) (count : ℕ) (n : Normal) (k : KeyValue) (phase : Bool) → IsNativeForm (IsGateOf op count) n → n ≡ Gate k phase → k.op ≡ op
key_op op count n k phase h e = let of = subst (IsNativeForm (IsGateOf op count)) e h in of.op_is

xor_apart : (op : Op) → op ≡ And → op ≡ Xor → ⊥
xor_apart op e f = absurd (cc (e, f))

maj_apart : (op : Op) → op ≡ And → op ≡ Maj → ⊥
maj_apart op e f = absurd (cc (e, f))

lut_apart : (op : Op) (t : ℕ) → op ≡ And → op ≡ Lut t → ⊥
lut_apart op t e f = absurd (cc (e, f))

at_op : (op : Op) (g : GateValue) (k : KeyValue) (phase : Bool) → g.op ≡ op → is_native Klut op ≡ true → (((t : ℕ) → op ≡ Lut t → ⊥)) → Takes op (length g.fanins) → normal_by_op g ≡ Gate k phase → k.op ≡ And → (g.op ≡ And) × (phase ≡ g.phase)
at_op And g k phase e has no_lut takes form is = let of : IsGateOf And 2 g = record { op_is = e; count_is = takes } in (e, and-key_phase g k phase of (sym (and_same g of) ∙ form))
at_op Xor g k phase e has no_lut takes form is = let of : IsGateOf Xor 2 g = record { op_is = e; count_is = takes } in absurd (xor_apart k.op is (key_op Xor 2 (normal_xor g) k phase (xor_laws.native g of) (sym (xor_same g of) ∙ form)))
at_op Maj g k phase e has no_lut takes form is = let of : IsGateOf Maj 3 g = record { op_is = e; count_is = takes } in absurd (maj_apart k.op is (key_op Maj 3 (normal_maj g) k phase (maj_laws.native g of) (sym (maj_same g of) ∙ form)))
at_op (Lut t) g k phase e has no_lut takes form is = absurd (no_lut t refl)

-- a kind without look-up tables
abbrev HasNoLut : Kind → Type 0
HasNoLut kind = (t : ℕ) → is_native kind (Lut t) ≡ true → ⊥

by_kind : (kind : Kind) → HasNoLut kind → AndsKeepPhase (IsNativeGate kind) normal_by_op
by_kind kind none g k phase n form is = at_op g.op g k phase refl (native_klut g.op) (λ t e. none t (sym (ap (is_native kind) e) ∙ n.has)) n.takes form is where
  native_klut : (op : Op) → is_native Klut op ≡ true
  native_klut And = refl
  native_klut Xor = refl
  native_klut Maj = refl
  native_klut (Lut t) = refl

-- each key is a Lut
abbrev IsLutKey : Normal → Type 0
IsLutKey (Is s) = Unit {0}
IsLutKey (Gate k phase) = (t : ℕ) × (k.op ≡ Lut t)

lut_key : (f : (ℕ → Bool) → Bool) (ns : List ℕ) → IsLutKey (form_over f ns)
lut_key f [] = tt
lut_key f (n ∷ []) = tt
lut_key f (n ∷ m ∷ ns) = (_, refl)

klut_phases : AndsKeepPhase (IsNativeGate Klut) normal_lut
klut_phases g k phase n form is =
    let key = subst IsLutKey form (lut_key (function_of g) (support (function_of g) (bound_of g.fanins))) in
    absurd (lut_apart k.op key.0 is key.1)

-- in a network of each kind a key of an And is the form of an And gate alone, and has its phase
pub kind_phases : (kind : Kind) → AndsKeepPhase (IsNativeGate kind) (form_of kind)
kind_phases Aig = by_kind Aig (λ t has. false≢true has)
kind_phases Xag = by_kind Xag (λ t has. false≢true has)
kind_phases Mig = by_kind Mig (λ t has. false≢true has)
kind_phases Klut = klut_phases
