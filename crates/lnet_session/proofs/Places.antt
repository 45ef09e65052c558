-- What is kept in a session over a change of its views.
use Rattle.std.proofs.Common.{◌≡◌, false, All, Option, Some, IsSome, Result, Err, refl, sym, ap, subst, ◌∙◌, Global}
use Rattle.std.specs.declared.dyn_box.DynBox.{DynBox}
use Rattle.std.specs.Prelude.{IfOk, OnErr}
use Rattle.lnet_gates.specs.declared.gate.Kind.TheVariants.{Aig}
use Rattle.lnet_edge.specs.declared.circuit.Rule.TheVariants.{And}
use Rattle.lnet_edge.specs.Circuits.{CircuitValue, EquationValue}
use Rattle.lnet_store.specs.declared.view.View.{Ghosts}
use Rattle.lnet_network.specs.Cores.{CoreValue}
use Rattle.lnet_any.specs.declared.any.AnyNet.{AnyNet}
use Rattle.lnet_any.specs.AnyNets.{core_in, network_in}
use Rattle.lnet_names.specs.NameLists.{NamesValue}
use Rattle.lnet_subscriptions.specs.declared.roll.Subscriptions.{Subscriptions}
use Rattle.lnet_subscriptions.specs.Kept.{Follow, InStepWith, roll_of}
use Rattle.lnet_session.specs.declared.session.Place.{Place}
use Rattle.lnet_session.specs.declared.session.Session.{Session}
use Rattle.lnet_build.specs.Sound.{IsSound}
use Rattle.lnet_session.specs.Sessions.{FitNames, IsGood, IsGoodPlace, held_in, kept_in, kind_in, room_in, spec_in, state_of}

-- ---- results

pub on-err : {T E : Type 0} (r : Result T E) (e : E) (P : Type 0) → r ≡ Err e → OnErr r P → P
on-err r e P is h = subst (λ r. OnErr r P) is h

-- ---- networks in any kind

-- what is known of a circuit of a network in its kind, of the network in any
pub ands-in : {X : Type 0} {F : X → Type 0} {E : Type 0} (r : Result CircuitValue E) (n m : AnyNet X F) → n ≡ m → IfOk r (λ c. (network_in m).kind ≡ Aig → All (λ (e : EquationValue). e.rule ≡ And false) c.equations) → IfOk r (λ c. (network_in n).kind ≡ Aig → All (λ (e : EquationValue). e.rule ≡ And false) c.equations)
ands-in {X} {F} r n m same h = subst (λ (k : AnyNet X F). IfOk r (λ c. (network_in k).kind ≡ Aig → All (λ (e : EquationValue). e.rule ≡ And false) c.equations)) (sym same) h

module _ {X : Type 0} {F : X → Type 0} where
  -- what was in place is some
  pub held-some : (o : Option (Place X F)) (p : Place X F) → o ≡ Some p → IsSome (held_in o)
  held-some o p is = subst (λ (q : Option (Place X F)). IsSome (held_in q)) (sym is) refl

  -- a network with the core of the one in place, under the same names, is held as that is
  pub held-after : (o q : Option (Place X F)) (p : Place X F) (n : AnyNet X F) → o ≡ Some p → q ≡ Some (record { network = n; names = p.names }) → core_in n ≡ core_in p.network → held_in q ≡ held_in o
  held-after o q p n is after core =
      ap held_in after
      ∙ ap (λ (c : CoreValue). Some (record { network = c.network; names = p.names })) core
      ∙ sym (ap held_in is)

  pub state-after : (ghosts : (b : DynBox X Global F) → Ghosts (F b.vtable)) (s : Session X F) (q : Option (Place X F)) (views : Subscriptions X F) (p : Place X F) (n : AnyNet X F) → s.place ≡ Some p → q ≡ Some (record { network = n; names = p.names }) → core_in n ≡ core_in p.network → roll_of (kind_in ghosts) views ≡ roll_of (kind_in ghosts) s.views → state_of ghosts (record { place = q; views = views }) ≡ state_of ghosts s
  state-after ghosts s q views p n is after core roll = λ i. record { held = held-after s.place q p n is after core i; roll = roll i }

  module _ (ghosts : (b : DynBox X Global F) → Ghosts (F b.vtable)) where
    sound-after : (n m : AnyNet X F) → core_in n ≡ core_in m → IsSound (network_in m) → IsSound (network_in n)
    sound-after n m core h = subst (λ (c : CoreValue). IsSound c.network) (sym core) h

    names-after : (n m : AnyNet X F) (names : NamesValue) → core_in n ≡ core_in m → FitNames (network_in m) names → FitNames (network_in n) names
    names-after n m names core h = subst (λ (c : CoreValue). FitNames c.network names) (sym core) h

    -- what is kept in place, after a change of the network's views alone
    pub good-after : (s : Session X F) (q : Option (Place X F)) (views : Subscriptions X F) (p : Place X F) (n : AnyNet X F) → s.place ≡ Some p → q ≡ Some (record { network = n; names = p.names }) → core_in n ≡ core_in p.network → IsGood ghosts s → InStepWith (spec_in ghosts) (kept_in ghosts) (room_in ghosts) n → Follow (kind_in ghosts) (spec_in ghosts) n views → IsGood ghosts (record { place = q; views = views })
    good-after s q views p n is after core good in_step follow =
        let old = subst (IsGoodPlace ghosts s.views) is good in
        subst (IsGoodPlace ghosts views) (sym after) (sound-after n p.network core old.0, names-after n p.network p.names core old.1, in_step, follow)
