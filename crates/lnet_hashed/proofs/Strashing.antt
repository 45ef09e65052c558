-- Structural hashing stays with each change: with what is placed, with an input, and with what goes.
use Rattle.std.proofs.Common.{◌≡◌, ℕ, Bool, true, false, length, Option, None, Some, refl, sym, ap, subst, ◌∙◌, inl, inr}
use Rattle.std.specs.FinMap.{FinMap}
use Rattle.std.specs.Ordering.{nat_cmp}
use Rattle.std.proofs.lemmas.Bool.Decides.{eqb_tells}
use Rattle.lnet_gates.specs.declared.signal.Signal.{Signal}
use Rattle.lnet_gates.specs.declared.gate.Kind.{Kind}
use Rattle.lnet_gates.specs.declared.gate.Op.TheVariants.{And}
use Rattle.lnet_gates.specs.declared.normal.Normal.{Normal}
use Rattle.lnet_gates.specs.declared.normal.Normal.TheVariants.{Is, Gate}
use Rattle.lnet_gates.specs.Gates.{GateValue, KeyValue, flip}
use Rattle.lnet_gates.specs.Natives.{IsNativeGate}
use Rattle.lnet_gates.specs.NormalForms.{carried}
use Rattle.lnet_gates.specs.NormalLaws.{IsNativeForm, keyed_gate}
use Rattle.lnet_gates.specs.Forms.{form_of}
use Rattle.lnet_gates.specs.Lawful.KindLaws.{kind_laws}
use Rattle.lnet_model.specs.Networks.{NetworkValue, Entry, Input, IsGate, entry_at}
use Rattle.lnet_model.specs.Changes.{GateAt, with_entry}
use Rattle.lnet_model.proofs.Changes.{with_entry-here, with_entry-apart}
use Rattle.lnet_store.specs.StoreValues.{with_input}
use Rattle.lnet_hashed.specs.Strashed.{key_of, IsStrashed, found, least_free, placed, placed_form, placed_key}
use Rattle.lnet_hashed.proofs.KeyLemmas.{found-none}

-- ---- with no new gate

-- a network whose gates are those of a hashed network at the same numbers, or some of them, is hashed
pub strashed-fewer : (kind : Kind) (M N : NetworkValue) → ((n : ℕ) (g : GateValue) → GateAt M n g → GateAt N n g) → IsStrashed kind N → IsStrashed kind M
strashed-fewer kind M N old h = record {
  native = λ n g at. h.native n g (old n g at);
  own_form = λ n g at. h.own_form n g (old n g at);
  and_phase = λ n g at. h.and_phase n g (old n g at);
  apart = λ m n g k at_m at_n. h.apart m n g k (old m g at_m) (old n k at_n);
}

-- hashing is a matter of what stands where alone, not of the inputs and outputs
pub strashed-same : (kind : Kind) (M N : NetworkValue) → M.nodes ≡ N.nodes → IsStrashed kind N → IsStrashed kind M
unfolding entry_at
strashed-same kind M N same = strashed-fewer kind M N (λ n g at. ap (λ (nodes : FinMap nat_cmp Entry). entry_at (record N { nodes = nodes }) n) (sym same) ∙ at)

-- an input at a number keeps hashing
pub strashed-input : (kind : Kind) (N : NetworkValue) (n i : ℕ) → IsStrashed kind N → IsStrashed kind (with_entry N n (Input i))
strashed-input kind N n i = strashed-fewer kind (with_entry N n (Input i)) N (λ m g at. elim (eqb_tells m n) as (λ _. GateAt N m g) [
  | inl p ↦ (let z : Some (Input i) ≡ Some (IsGate g) = sym (ap (entry_at (with_entry N n (Input i))) p.1 ∙ with_entry-here N n (Input i)) ∙ at in cc)
  | inr p ↦ sym (with_entry-apart N n (Input i) m p.1) ∙ at
])

-- so do an input with its place in the list of inputs, and an output
pub strashed-with_input : (kind : Kind) (N : NetworkValue) (n : ℕ) → IsStrashed kind N → IsStrashed kind (with_input N n)
unfolding with_input with_entry
strashed-with_input kind N n h = strashed-same kind (with_input N n) (with_entry N n (Input (length N.inputs))) refl (strashed-input kind N n (length N.inputs) h)

-- ---- with a new gate

module _ (kind : Kind) (N : NetworkValue) (n : ℕ) (g : GateValue) (native : IsNativeGate kind g) (own : form_of kind g ≡ Gate (key_of g) g.phase) (plain : g.op ≡ And → g.phase ≡ false) (new : (m : ℕ) (h : GateValue) → GateAt N m h → key_of h ≡ key_of g → ⊥) (h : IsStrashed kind N) where
  -- a gate is the new one, or an old one
  case : (P : ℕ → GateValue → Type 0) → P n g → ((m : ℕ) (f : GateValue) → GateAt N m f → P m f) → (m : ℕ) (f : GateValue) → GateAt (with_entry N n (IsGate g)) m f → P m f
  case P here there m f at = elim (eqb_tells m n) as (λ _. P m f) [
    | inl p ↦
        let z : Some (IsGate g) ≡ Some (IsGate f) = sym (ap (entry_at (with_entry N n (IsGate g))) p.1 ∙ with_entry-here N n (IsGate g)) ∙ at in
        let same : g ≡ f = cc in
        let number = sym p.1 in
        subst (λ z. P z f) number (subst (P n) same here)
    | inr p ↦ there m f (sym (with_entry-apart N n (IsGate g) m p.1) ∙ at)
  ]

  -- a native gate that is its own normal form and whose key no gate has keeps hashing
  pub strashed-gate : IsStrashed kind (with_entry N n (IsGate g))
  strashed-gate = record {
    native = case (λ m f. IsNativeGate kind f) native h.native;
    own_form = case (λ m f. form_of kind f ≡ Gate (key_of f) f.phase) own h.own_form;
    and_phase = case (λ m f. f.op ≡ And → f.phase ≡ false) plain h.and_phase;
    apart = λ l m e f at_l at_m. case (λ l e. key_of e ≡ key_of f → l ≡ m)
        (case (λ m f. key_of g ≡ key_of f → n ≡ m) (λ _. refl) (λ m f at same. absurd (new m f at (sym same))) m f at_m)
        (λ l e old_l. case (λ m f. key_of e ≡ key_of f → l ≡ m) (λ same. absurd (new l e old_l same)) (λ m f old_m. h.apart l m e f old_l old_m) m f at_m)
        l e at_l;
  }

-- ---- what is placed

flip-self : (b : Bool) → flip b b ≡ false
flip-self true = refl
flip-self false = refl

-- the gate of a normal form's key, with no phase, is its own normal form
pub key-own_form : (kind : Kind) (g : GateValue) (k : KeyValue) (phase : Bool) → IsNativeGate kind g → form_of kind g ≡ Gate k phase → form_of kind (keyed_gate k false) ≡ Gate k false
key-own_form kind g k phase native is =
    ap (λ b. form_of kind (keyed_gate k b)) (sym (flip-self phase))
    ∙ (kind_laws kind).carries phase (keyed_gate k phase)
    ∙ ap (carried phase) ((kind_laws kind).stable g k phase native is)
    ∙ ap (Gate k) (flip-self phase)

-- a key's gate is native with any phase
pub key-native : (kind : Kind) (k : KeyValue) (a b : Bool) → IsNativeGate kind (keyed_gate k a) → IsNativeGate kind (keyed_gate k b)
key-native kind k a b h = record { has = h.has; takes = h.takes; fits = h.fits }

module _ (kind : Kind) (N : NetworkValue) (h : IsStrashed kind N) where
  strashed-key : (k : KeyValue) (phase : Bool) (o : Option Signal) → found N k ≡ o → IsNativeGate kind (keyed_gate k false) → form_of kind (keyed_gate k false) ≡ Gate k false → IsStrashed kind (placed_key N k phase o).network
  strashed-key k phase None none native own = strashed-gate kind N (least_free N) (keyed_gate k false) native own (λ _. refl) (found-none N k none) h
  strashed-key k phase (Some s) there native own = h

  strashed-form : (g : GateValue) (f : Normal) → form_of kind g ≡ f → IsNativeGate kind g → IsStrashed kind (placed_form N f).network
  strashed-form g (Is s) is native = h
  strashed-form g (Gate k phase) is native = strashed-key k phase (found N k) refl
      (key-native kind k phase false (subst (IsNativeForm (IsNativeGate kind)) is ((kind_laws kind).native g native)))
      (key-own_form kind g k phase native is)

  -- a gate of the kind is placed, and the network stays hashed
  pub strashed-placed : (g : GateValue) → IsNativeGate kind g → IsStrashed kind (placed kind N g).network
  unfolding placed
  strashed-placed g native = strashed-form g (form_of kind g) refl native
