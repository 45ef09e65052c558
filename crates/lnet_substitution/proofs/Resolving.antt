-- How normal forms resolve to signals, and that a merge and a settled gate keep it.
use Rattle.std.proofs.Common.{◌≡◌, ◌≢◌, ℕ, Bool, true, false, cond, List, [], ◌∷◌, map, eqb, Some, refl, sym, ap, subst, ◌∙◌, inl, inr}
use Rattle.std.specs.Prelude.{option_map}
use Rattle.std.proofs.lemmas.List.{length-map}
use Rattle.std.proofs.lemmas.Bool.Decides.{eqb_tells}
use Rattle.lnet_gates.specs.declared.signal.Signal.{Signal}
use Rattle.lnet_gates.specs.declared.gate.Kind.{Kind}
use Rattle.lnet_gates.specs.declared.normal.Normal.{Normal}
use Rattle.lnet_gates.specs.declared.normal.Normal.TheVariants.{Is, Gate}
use Rattle.lnet_gates.specs.Gates.{GateValue, KeyValue, flip}
use Rattle.lnet_gates.specs.Operands.{flipped, moved, constant}
use Rattle.lnet_gates.specs.Plans.{Takes}
use Rattle.lnet_gates.specs.Natives.{IsNativeGate}
use Rattle.lnet_gates.specs.NormalForms.{carried}
use Rattle.lnet_gates.specs.NormalLaws.{keyed_gate, replaced_in, formed_again}
use Rattle.lnet_gates.specs.Lawful.OperandLemmas.{flipped-flipped, moved-flipped, cond-false, eqb-apart, eqb-self}
use Rattle.lnet_gates.specs.Lawful.FormLaws.{carried-carried, carried-false}
use Rattle.lnet_gates.specs.Forms.{form_of}
use Rattle.lnet_gates.specs.Lawful.KindLaws.{kind_laws}
use Rattle.lnet_model.specs.Networks.{IsGate, NetworkValue, entry_at}
use Rattle.lnet_model.specs.Changes.{GateAt, with_entry}
use Rattle.lnet_model.proofs.Changes.{with_entry-here, with_entry-apart}
use Rattle.lnet_substitution.specs.Replaced.{signal_of, redirected, redirected_entry, replaced}
use Rattle.lnet_substitution.specs.Cascades.{ResolvesTo}
use Rattle.lnet_substitution.proofs.Replaced.{replaced-apart}

pub flip-false : (c : Bool) → flip c false ≡ c
flip-false true = refl
flip-false false = refl

-- what each node reads once x has given way to t
abbrev pub giving : ℕ → Signal → ℕ → Signal
giving x t n = redirected x t (signal_of n)

redirected-moved : (x : ℕ) (t s : Signal) → redirected x t s ≡ moved (giving x t) s
redirected-moved x t s =
    elim (eqb s.node.0 x) as (λ b. cond b (flipped s.complement t) s ≡ flipped s.complement (cond b (flipped false t) (signal_of s.node.0))) [
      | true ↦ refl
      | false ↦ λ i. record { node = s.node; complement = sym (flip-false s.complement) i }
    ]

pub redirected-is : (x : ℕ) (t : Signal) → redirected x t ≡ moved (giving x t)
redirected-is x t i s = redirected-moved x t s i

pub redirected-apart : (x : ℕ) (t s : Signal) → s.node.0 ≢ x → redirected x t s ≡ s
redirected-apart x t s ne = cond-false (eqb s.node.0 x) (flipped s.complement t) s (eqb-apart s.node.0 x ne)

pub redirected-here : (x : ℕ) (t s : Signal) → s.node.0 ≡ x → redirected x t s ≡ flipped s.complement t
redirected-here x t s is = ap (λ b. cond b (flipped s.complement t) s) (ap (λ n. eqb n x) is ∙ eqb-self x)

pub redirected-flipped : (x : ℕ) (t : Signal) (c : Bool) (s : Signal) → redirected x t (flipped c s) ≡ flipped c (redirected x t s)
redirected-flipped x t c s =
    elim (eqb s.node.0 x) as (λ b. cond b (flipped (flip c s.complement) t) (flipped c s) ≡ flipped c (cond b (flipped s.complement t) s)) [
      | true ↦ sym (flipped-flipped c s.complement t)
      | false ↦ refl
    ]

-- what is read after a second replacement is what was read, redirected
pub map-moved : (x : ℕ) (t : Signal) (rep : ℕ → Signal) (ss : List Signal) → map (moved (λ n. redirected x t (rep n))) ss ≡ map (redirected x t) (map (moved rep) ss)
map-moved x t rep [] = refl
map-moved x t rep (s ∷ ss) = λ i. sym (redirected-flipped x t s.complement (rep s.node.0)) i ∷ map-moved x t rep ss i

pub map-signal_of : (ss : List Signal) → map (moved signal_of) ss ≡ ss
map-signal_of [] = refl
map-signal_of (s ∷ ss) = λ i. record { node = s.node; complement = flip-false s.complement i } ∷ map-signal_of ss i

-- a gate over other fanins, as many, is native where the gate is
pub native-again : (kind : Kind) (rep : ℕ → Signal) (g : GateValue) → IsNativeGate kind g → IsNativeGate kind (replaced_in rep g)
native-again kind rep g h = record { has = h.has; takes = subst (Takes g.op) (sym (length-map g.fanins (moved rep))) h.takes; fits = h.fits }

pub same-gates : {g h : GateValue} → Some (IsGate g) ≡ Some (IsGate h) → g ≡ h
same-gates e = cc

-- where nothing was replaced yet, each gate's form is its own
pub resolves-start : (kind : Kind) (M : NetworkValue) (n : ℕ) (g : GateValue) → GateAt M n g → ResolvesTo kind M (form_of kind (replaced_in signal_of g)) (signal_of n)
resolves-start kind M n g at = inr (g, at, ap (λ ss. form_of kind (record { op = g.op; phase = g.phase; fanins = ss })) (map-signal_of g.fanins) ∙ sym (carried-false (form_of kind g)))

module _ (kind : Kind) where
  again-carried : (rep : ℕ → Signal) (c : Bool) (n : Normal) → formed_again (form_of kind) rep (carried c n) ≡ carried c (formed_again (form_of kind) rep n)
  again-carried rep c (Is s) = ap Is (moved-flipped rep c s)
  again-carried rep c (Gate k phase) = (kind_laws kind).carries c (replaced_in rep (keyed_gate k phase))

  -- x gives way to t, to which its form resolves
  module _ (C : NetworkValue) (x : ℕ) (t : Signal) (gx : GateValue) (at_x : GateAt C x gx) (some : x ≢ 0) (apart : t.node.0 ≢ x) (natives : (n : ℕ) (g : GateValue) → GateAt C n g → IsNativeGate kind g) (joins : ResolvesTo kind C (form_of kind gx) t) where
    constant-stays : giving x t 0 ≡ constant false
    constant-stays = redirected-apart x t (signal_of 0) (λ e. some (sym e))

    gate-after : (m : ℕ) (g : GateValue) → m ≢ x → GateAt C m g → GateAt (replaced C x t) m (replaced_in (giving x t) g)
    gate-after m g ne at =
        replaced-apart C x t m ne ∙ ap (option_map (redirected_entry x t)) at ∙ ap (λ f. Some (IsGate (record { op = g.op; phase = g.phase; fanins = map f g.fanins }))) (redirected-is x t)

    -- what has the form of a gate that stays has its form afterwards
    stays :
        (f : Normal) (u : Signal) (g : GateValue) → u.node.0 ≢ x → GateAt C u.node.0 g → f ≡ carried u.complement (form_of kind g) →
        ResolvesTo kind (replaced C x t) (formed_again (form_of kind) (giving x t) f) u
    stays f u g ne at is = inr (
      replaced_in (giving x t) g,
      gate-after u.node.0 g ne at,
      ap (formed_again (form_of kind) (giving x t)) is
          ∙ again-carried (giving x t) u.complement (form_of kind g)
          ∙ ap (carried u.complement) (sym ((kind_laws kind).agrees (giving x t) g constant-stays (natives u.node.0 g at))),
    )

    resolves-after : (f : Normal) (u : Signal) → ResolvesTo kind C f u → ResolvesTo kind (replaced C x t) (formed_again (form_of kind) (giving x t) f) (redirected x t u)
    resolves-after f u (inl is) = inl (ap (formed_again (form_of kind) (giving x t)) is ∙ ap Is (sym (redirected-moved x t u)))
    resolves-after f u (inr r) =
        elim (eqb_tells u.node.0 x) as (λ _. ResolvesTo kind (replaced C x t) (formed_again (form_of kind) (giving x t) f) (redirected x t u)) [
          | inr p ↦ subst (ResolvesTo kind (replaced C x t) (formed_again (form_of kind) (giving x t) f)) (sym (redirected-apart x t u p.1)) (stays f u r.0 p.1 r.1 r.2)
          | inl p ↦
              let same : form_of kind r.0 ≡ form_of kind gx = ap (form_of kind) (same-gates (sym r.1 ∙ ap (entry_at C) p.1 ∙ at_x)) in
              let P : Signal → Type 0 = λ v. ResolvesTo kind (replaced C x t) (formed_again (form_of kind) (giving x t) f) v in
              subst P (sym (redirected-here x t u p.1)) (elim joins as (λ _. P (flipped u.complement t)) [
                | inl is ↦ inl (ap (formed_again (form_of kind) (giving x t)) (r.2 ∙ ap (carried u.complement) (same ∙ is)) ∙ ap Is (sym (redirected-moved x t (flipped u.complement t)) ∙ redirected-apart x t (flipped u.complement t) apart))
                | inr q ↦ stays f (flipped u.complement t) q.0 apart q.1 (r.2 ∙ ap (carried u.complement) (same ∙ q.2) ∙ carried-carried u.complement t.complement (form_of kind q.0))
              ])
        ]

    -- a gate is merged into what it resolves to
    pub resolves-merge : (rep : ℕ → Signal) (n : ℕ) (g : GateValue) → IsNativeGate kind g → ResolvesTo kind C (form_of kind (replaced_in rep g)) (rep n) → ResolvesTo kind (replaced C x t) (form_of kind (replaced_in (λ m. redirected x t (rep m)) g)) (redirected x t (rep n))
    resolves-merge rep n g native resolves =
        subst (λ f. ResolvesTo kind (replaced C x t) f (redirected x t (rep n)))
        (
        sym ((kind_laws kind).agrees (giving x t) (replaced_in rep g) constant-stays (native-again kind rep g native))
        ∙ ap (λ ss. form_of kind (record { op = g.op; phase = g.phase; fanins = ss })) (ap (λ f. map f (map (moved rep) g.fanins)) (sym (redirected-is x t)) ∙ sym (map-moved x t rep g.fanins))
        )
        (resolves-after (form_of kind (replaced_in rep g)) (rep n) resolves)

  -- a gate is set to its normal form
  module _ (C : NetworkValue) (x : ℕ) (gx : GateValue) (k : KeyValue) (phase : Bool) (at_x : GateAt C x gx) (native : IsNativeGate kind gx) (is_key : form_of kind gx ≡ Gate k phase) where
    pub resolves-settle : (f : Normal) (u : Signal) → ResolvesTo kind C f u → ResolvesTo kind (with_entry C x (IsGate (keyed_gate k phase))) f u
    resolves-settle f u (inl is) = inl is
    resolves-settle f u (inr r) =
        elim (eqb_tells u.node.0 x) as (λ _. ResolvesTo kind (with_entry C x (IsGate (keyed_gate k phase))) f u) [
          | inl p ↦ inr (
            keyed_gate k phase,
            ap (entry_at (with_entry C x (IsGate (keyed_gate k phase)))) p.1 ∙ with_entry-here C x (IsGate (keyed_gate k phase)),
            r.2 ∙ ap (carried u.complement) (ap (form_of kind) (same-gates (sym r.1 ∙ ap (entry_at C) p.1 ∙ at_x)) ∙ is_key ∙ sym ((kind_laws kind).stable gx k phase native is_key)),
          )
          | inr p ↦ inr (r.0, with_entry-apart C x (IsGate (keyed_gate k phase)) u.node.0 p.1 ∙ r.1, r.2)
        ]
