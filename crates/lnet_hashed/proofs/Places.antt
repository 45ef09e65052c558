-- What a placed gate names, and where it comes.
use Rattle.std.proofs.Common.{◌≡◌, ℕ, Bool, List, [], ◌∷◌, IsSome, refl, sym, ap, subst, inl, inr}
use Rattle.lnet_gates.specs.declared.signal.Signal.{Signal}
use Rattle.lnet_gates.specs.declared.normal.Normal.{Normal}
use Rattle.lnet_gates.specs.declared.normal.Normal.TheVariants.{Is, Gate}
use Rattle.lnet_gates.specs.Gates.{GateValue, KeyValue}
use Rattle.lnet_gates.specs.Operands.{IsNamedBy}
use Rattle.lnet_gates.specs.NormalLaws.{NamesOnly}
use Rattle.lnet_gates.specs.Forms.{form_of}
use Rattle.lnet_gates.specs.declared.gate.Kind.{Kind}
use Rattle.lnet_model.specs.Networks.{NetworkValue, IsLive}
use Rattle.lnet_model.specs.Along.{In, IsWhole, nodes_read}
use Rattle.lnet_model.specs.Changes.{AreLive}
use Rattle.lnet_hashed.specs.Strashed.{placed, placed_form}

pub named-read : (n : ℕ) (ss : List Signal) → IsNamedBy n ss → In n (nodes_read ss)
named-read n [] i = i
named-read n (s ∷ ss) (inl e) = inl e
named-read n (s ∷ ss) (inr i) = inr (named-read n ss i)

pub read-named : (n : ℕ) (ss : List Signal) → In n (nodes_read ss) → IsNamedBy n ss
read-named n [] i = i
read-named n (s ∷ ss) (inl e) = inl e
read-named n (s ∷ ss) (inr i) = inr (read-named n ss i)

-- node 0 is live
pub first-live : (N : NetworkValue) → IsWhole N → IsLive N 0
first-live N whole = subst IsSome (sym whole.first) refl

-- the fanins of a gate's key are live where those of the gate are
pub key-live : (N : NetworkValue) (g : GateValue) (form : Normal) (k : KeyValue) (phase : Bool) → IsWhole N → AreLive N (nodes_read g.fanins) → NamesOnly g.fanins form → form ≡ Gate k phase → AreLive N (nodes_read k.fanins)
key-live N g form k phase whole live names is m i =
    let here : NamesOnly g.fanins (Gate k phase) = subst (NamesOnly g.fanins) is names in
    elim (here m (read-named m k.fanins i)) [
      | inl named ↦ live m (named-read m g.fanins named)
      | inr zero ↦ subst (IsLive N) (sym zero) (first-live N whole)
    ]

-- the signal that a gate's form is reads a live node
pub form-live : (N : NetworkValue) (g : GateValue) (form : Normal) (s : Signal) → IsWhole N → AreLive N (nodes_read g.fanins) → NamesOnly g.fanins form → form ≡ Is s → IsLive N s.node.0
form-live N g form s whole live names is =
    let here : NamesOnly g.fanins (Is s) = subst (NamesOnly g.fanins) is names in
    elim here [
      | inl named ↦ live s.node.0 (named-read s.node.0 g.fanins named)
      | inr zero ↦ subst (IsLive N) (sym zero) (first-live N whole)
    ]

pub placed-as : (kind : Kind) (N : NetworkValue) (g : GateValue) (f : Normal) → form_of kind g ≡ f → placed kind N g ≡ placed_form N f
unfolding placed
placed-as kind N g f is = ap (placed_form N) is
