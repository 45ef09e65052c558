-- The normal forms of a kind have the laws that those of each of its operations have.
use Rattle.std.proofs.Common.{◌≡◌, ℕ, Bool, true, false, length, refl, sym, ap, ◌∙◌, subst}
use Rattle.std.proofs.lemmas.List.{length-map}
use Rattle.std.proofs.lemmas.Bool.{false≢true}
use Rattle.lnet_gates.specs.declared.signal.Signal.{Signal}
use Rattle.lnet_gates.specs.declared.gate.Kind.{Kind}
use Rattle.lnet_gates.specs.declared.gate.Kind.TheVariants.{Aig, Xag, Mig, Klut}
use Rattle.lnet_gates.specs.declared.gate.Op.{Op}
use Rattle.lnet_gates.specs.declared.gate.Op.TheVariants.{And, Xor, Maj, Lut}
use Rattle.lnet_gates.specs.declared.normal.Normal.{Normal}
use Rattle.lnet_gates.specs.declared.normal.Normal.TheVariants.{Is, Gate}
use Rattle.lnet_gates.specs.Gates.{GateValue, KeyValue}
use Rattle.lnet_gates.specs.Operands.{constant, moved}
use Rattle.lnet_gates.specs.NormalForms.{carried, normal_and, normal_xor, normal_maj}
use Rattle.lnet_gates.specs.NormalLaws.{IsGateOf, NormalLaws, NamesOnly, IsNativeForm, form_reading, gate_reading, formed_again, keyed_gate, replaced_in}
use Rattle.lnet_gates.specs.Plans.{is_native, Takes}
use Rattle.lnet_gates.specs.Natives.{IsNativeGate, FitsWord, form_by_op, normal_by_op}
use Rattle.lnet_gates.specs.LutForms.{HasCount, IsLutGate, normal_lut}
use Rattle.lnet_gates.specs.Forms.{form_of}
use Rattle.lnet_gates.specs.Lawful.FormLaws.{carried-carried}
use Rattle.lnet_gates.specs.Lawful.AndLaws.{and_laws}
use Rattle.lnet_gates.specs.Lawful.XorLaws.{xor_laws}
use Rattle.lnet_gates.specs.Lawful.MajLaws.{maj_laws}
use Rattle.lnet_gates.specs.Lawful.LutLaws.{lut_laws}

-- a form that is native for one test is native for a wider one
native_as : (P Q : GateValue → Type 0) → ((g : GateValue) → P g → Q g) → (n : Normal) → IsNativeForm P n → IsNativeForm Q n
native_as P Q wider (Is s) h = h
native_as P Q wider (Gate k phase) h = wider (keyed_gate k phase) h

-- what holds of one gate of the kind
record LawsAt (kind : Kind) (g : GateValue) : Type 0 where
  value : (V : ℕ → Bool) → V 0 ≡ false → form_reading V (normal_by_op g) ≡ gate_reading V g
  names : NamesOnly g.fanins (normal_by_op g)
  native : IsNativeForm (IsNativeGate kind) (normal_by_op g)
  stable : (k : KeyValue) (phase : Bool) → normal_by_op g ≡ Gate k phase → normal_by_op (keyed_gate k phase) ≡ Gate k phase
  agrees : (place : ℕ → Signal) → place 0 ≡ constant false → normal_by_op (replaced_in place g) ≡ formed_again normal_by_op place (normal_by_op g)

-- an operation of the kind, with its laws
module _ (kind : Kind) (op : Op) (count : ℕ) (normal : GateValue → Normal) (laws : NormalLaws (IsGateOf op count) normal)
    (same : (g : GateValue) → IsGateOf op count g → normal_by_op g ≡ normal g)
    (wider : (g : GateValue) → IsGateOf op count g → IsNativeGate kind g) where
  formed_same : (place : ℕ → Signal) (n : Normal) → IsNativeForm (IsGateOf op count) n → formed_again normal place n ≡ formed_again normal_by_op place n
  formed_same place (Is s) h = refl
  formed_same place (Gate k phase) h =
      sym (same (replaced_in place (keyed_gate k phase)) (record { op_is = h.op_is; count_is = length-map k.fanins (moved place) ∙ h.count_is }))

  key_is : (g : GateValue) (k : KeyValue) (phase : Bool) → IsGateOf op count g → normal g ≡ Gate k phase → IsGateOf op count (keyed_gate k phase)
  key_is g k phase of e = subst (λ (n : Normal). IsNativeForm (IsGateOf op count) n) e (laws.native g of)

  laws_at : (g : GateValue) → IsGateOf op count g → LawsAt kind g
  laws_at g of = record {
    value = λ V zero_false. ap (form_reading V) (same g of) ∙ laws.value V g zero_false of;
    names = subst (λ (n : Normal). NamesOnly g.fanins n) (sym (same g of)) (laws.names g of);
    native = subst (λ (n : Normal). IsNativeForm (IsNativeGate kind) n) (sym (same g of)) (native_as (IsGateOf op count) (IsNativeGate kind) wider (normal g) (laws.native g of));
    stable = λ k phase e.
        let f : normal g ≡ Gate k phase = sym (same g of) ∙ e in
        same (keyed_gate k phase) (key_is g k phase of f) ∙ laws.stable g k phase of f;
    agrees = λ place kept.
        same (replaced_in place g) (record { op_is = of.op_is; count_is = length-map g.fanins (moved place) ∙ of.count_is })
        ∙ laws.agrees place g kept of
        ∙ formed_same place (normal g) (laws.native g of)
        ∙ ap (formed_again normal_by_op place) (sym (same g of));
  }

-- the laws of a kind, from those at each of its gates
laws_from : (kind : Kind) → ((g : GateValue) → IsNativeGate kind g → LawsAt kind g) → NormalLaws (IsNativeGate kind) normal_by_op
laws_from kind at = record {
  value = λ V g zero_false n. let l = at g n in l.value V zero_false;
  names = λ g n. let l = at g n in l.names;
  native = λ g n. let l = at g n in l.native;
  stable = λ g k phase n e. let l = at g n in l.stable k phase e;
  carries = λ c g. sym (carried-carried c g.phase (form_by_op g.op g.fanins));
  agrees = λ place g kept n. let l = at g n in l.agrees place kept;
}

-- ---- the operations
pub and_same : (g : GateValue) → IsGateOf And 2 g → normal_by_op g ≡ normal_and g
and_same g of = ap (λ (op : Op). carried g.phase (form_by_op op g.fanins)) of.op_is

pub xor_same : (g : GateValue) → IsGateOf Xor 2 g → normal_by_op g ≡ normal_xor g
xor_same g of = ap (λ (op : Op). carried g.phase (form_by_op op g.fanins)) of.op_is

pub maj_same : (g : GateValue) → IsGateOf Maj 3 g → normal_by_op g ≡ normal_maj g
maj_same g of = ap (λ (op : Op). carried g.phase (form_by_op op g.fanins)) of.op_is

native_by : (kind : Kind) (op : Op) (g : GateValue) → g.op ≡ op → is_native kind op ≡ true → Takes op (length g.fanins) → FitsWord op → IsNativeGate kind g
native_by kind op g e has takes fits = record {
  has = ap (is_native kind) e ∙ has;
  takes = subst (λ (o : Op). Takes o (length g.fanins)) (sym e) takes;
  fits = subst FitsWord (sym e) fits;
}

and_in : (kind : Kind) → is_native kind And ≡ true → (g : GateValue) → IsGateOf And 2 g → LawsAt kind g
and_in kind has = laws_at kind And 2 normal_and and_laws and_same (λ g of. native_by kind And g of.op_is has of.count_is tt)

xor_in : (kind : Kind) → is_native kind Xor ≡ true → (g : GateValue) → IsGateOf Xor 2 g → LawsAt kind g
xor_in kind has = laws_at kind Xor 2 normal_xor xor_laws xor_same (λ g of. native_by kind Xor g of.op_is has of.count_is tt)

maj_in : (kind : Kind) → is_native kind Maj ≡ true → (g : GateValue) → IsGateOf Maj 3 g → LawsAt kind g
maj_in kind has = laws_at kind Maj 3 normal_maj maj_laws maj_same (λ g of. native_by kind Maj g of.op_is has of.count_is tt)

-- ---- the kinds
aig_at : (op : Op) (g : GateValue) → g.op ≡ op → is_native Aig op ≡ true → Takes op (length g.fanins) → LawsAt Aig g
aig_at And g e has takes = and_in Aig refl g (record { op_is = e; count_is = takes })
aig_at Xor g e has takes = absurd (false≢true has)
aig_at Maj g e has takes = absurd (false≢true has)
aig_at (Lut t) g e has takes = absurd (false≢true has)

xag_at : (op : Op) (g : GateValue) → g.op ≡ op → is_native Xag op ≡ true → Takes op (length g.fanins) → LawsAt Xag g
xag_at And g e has takes = and_in Xag refl g (record { op_is = e; count_is = takes })
xag_at Xor g e has takes = xor_in Xag refl g (record { op_is = e; count_is = takes })
xag_at Maj g e has takes = absurd (false≢true has)
xag_at (Lut t) g e has takes = absurd (false≢true has)

mig_at : (op : Op) (g : GateValue) → g.op ≡ op → is_native Mig op ≡ true → Takes op (length g.fanins) → LawsAt Mig g
mig_at And g e has takes = absurd (false≢true has)
mig_at Xor g e has takes = absurd (false≢true has)
mig_at Maj g e has takes = maj_in Mig refl g (record { op_is = e; count_is = takes })
mig_at (Lut t) g e has takes = absurd (false≢true has)

-- ---- look-up tables
-- the gates of a network of look-up tables, by their operation
lut_gate : (op : Op) (n : ℕ) → Takes op n → FitsWord op → HasCount op n
lut_gate And n takes fits = takes
lut_gate Xor n takes fits = takes
lut_gate Maj n takes fits = takes
lut_gate (Lut t) n takes fits = (takes, fits)

lut_native : (op : Op) (n : ℕ) → HasCount op n → (is_native Klut op ≡ true) × Takes op n × FitsWord op
lut_native And n h = (refl, h, tt)
lut_native Xor n h = (refl, h, tt)
lut_native Maj n h = (refl, h, tt)
lut_native (Lut t) n h = (refl, h.0, h.1)

to_lut : (g : GateValue) → IsNativeGate Klut g → IsLutGate g
to_lut g n = lut_gate g.op (length g.fanins) n.takes n.fits

from_lut : (g : GateValue) → IsLutGate g → IsNativeGate Klut g
from_lut g h = let n = lut_native g.op (length g.fanins) h in record { has = n.0; takes = n.1; fits = n.2 }

klut_laws : NormalLaws (IsNativeGate Klut) normal_lut
klut_laws = record {
  value = λ V g zero_false n. lut_laws.value V g zero_false (to_lut g n);
  names = λ g n. lut_laws.names g (to_lut g n);
  native = λ g n. native_as IsLutGate (IsNativeGate Klut) from_lut (normal_lut g) (lut_laws.native g (to_lut g n));
  stable = λ g k phase n e. lut_laws.stable g k phase (to_lut g n) e;
  carries = λ c g. lut_laws.carries c g;
  agrees = λ place g kept n. lut_laws.agrees place g kept (to_lut g n);
}

-- the normal forms of each kind have the laws
pub kind_laws : (kind : Kind) → NormalLaws (IsNativeGate kind) (form_of kind)
kind_laws Aig = laws_from Aig (λ g n. aig_at g.op g refl n.has n.takes)
kind_laws Xag = laws_from Xag (λ g n. xag_at g.op g refl n.has n.takes)
kind_laws Mig = laws_from Mig (λ g n. mig_at g.op g refl n.has n.takes)
kind_laws Klut = klut_laws
