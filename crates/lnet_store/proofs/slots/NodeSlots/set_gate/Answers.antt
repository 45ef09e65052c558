use Rattle.std.proofs.Common.{Some, List, Option, IsSome, length, length-set, subst, ap, sym, ◌∙◌}
use Rattle.std.specs.FinMap.{get, insert}
use Rattle.lnet_model.specs.Networks.{IsGate, gate_in}
use Rattle.lnet_store.specs.Held.{Numbered, held, entry_in, IsCounted}
use Rattle.lnet_store.specs.declared.slots.Slot.{Slot}
use Rattle.lnet_store.specs.declared.slots.Slot.TheVariants as slot
use Rattle.lnet_store.proofs.SlotLemmas.{get-held, held-set}
use Rattle.lnet_store.proofs.CountedSlots.{fitting, there-inside, counted-set, gate-live}
use Rattle.lnet_store.proofs.slots.NodeSlots.set_gate.Goals as goal

pub exchange-requires : goal.exchange-requires
exchange-requires c =
    let e = ap (λ (h : Numbered). h.nodes) c.self.view_is in
    there-inside c.self.inside.slots.items c.self.inside.live c.self.inside.numbers c.self.inside.free c.self.invariant c.args.n.0 (subst (λ m. IsSome (get m c.args.n.0)) (sym e) (gate-live c.args.self.now.nodes c.args.n.0 c.requires))

pub gate_from-requires : goal.gate_from-requires
gate_from-requires c =
    let e = ap (λ (h : Numbered). h.nodes) c.self.view_is in
    subst (λ o. IsSome (gate_in o)) (sym (ap (λ m. get m c.args.n.0) e) ∙ get-held c.self.inside.slots.items c.args.n.0 ∙ ap entry_in (sym c.exchange.ensures.old)) c.requires

pub invariant_of-self : goal.invariant_of-self
invariant_of-self c =
    let e = ap (λ (h : Numbered). h.nodes) c.self.view_is in
    subst (λ (xs : List (Option Slot)). IsCounted xs c.self.inside.live c.self.inside.numbers c.self.inside.free) (sym c.exchange.ensures.new) (counted-set c.self.inside.slots.items c.self.inside.live c.self.inside.numbers c.self.inside.free c.self.invariant c.args.n.0 (subst (λ m. IsSome (get m c.args.n.0)) (sym e) (gate-live c.args.self.now.nodes c.args.n.0 c.requires)) (slot.Gate c.args.gate))

pub returns-clause-nodes : goal.returns-clause-nodes
returns-clause-nodes c =
    let e = ap (λ (h : Numbered). h.nodes) c.self.view_is in
    ap held c.exchange.ensures.new ∙ held-set c.self.inside.slots.items c.args.n.0 (slot.Gate c.args.gate) (there-inside c.self.inside.slots.items c.self.inside.live c.self.inside.numbers c.self.inside.free c.self.invariant c.args.n.0 (subst (λ m. IsSome (get m c.args.n.0)) (sym e) (gate-live c.args.self.now.nodes c.args.n.0 c.requires))) ∙ ap (λ m. insert m c.args.n.0 (IsGate c.args.gate)) e

pub returns-clause-old : goal.returns-clause-old
returns-clause-old c =
    let e = ap (λ (h : Numbered). h.nodes) c.self.view_is in
    sym (ap (λ m. gate_in (get m c.args.n.0)) e) ∙ ap gate_in (get-held c.self.inside.slots.items c.args.n.0 ∙ ap entry_in (sym c.exchange.ensures.old)) ∙ c.gate_from.ensures

pub returns-clause-fitting : goal.returns-clause-fitting
returns-clause-fitting c =
    let e = ap (λ (h : Numbered). h.nodes) c.self.view_is in
    fitting c.exchange.new.slots.items c.self.inside.live c.self.inside.numbers c.self.inside.free (subst (λ (xs : List (Option Slot)). IsCounted xs c.self.inside.live c.self.inside.numbers c.self.inside.free) (sym c.exchange.ensures.new) (counted-set c.self.inside.slots.items c.self.inside.live c.self.inside.numbers c.self.inside.free c.self.invariant c.args.n.0 (subst (λ m. IsSome (get m c.args.n.0)) (sym e) (gate-live c.args.self.now.nodes c.args.n.0 c.requires)) (slot.Gate c.args.gate)))

pub returns-clause-room : goal.returns-clause-room
returns-clause-room c = ap (λ (xs : List (Option Slot)). length xs) c.exchange.ensures.new ∙ length-set c.self.inside.slots.items c.args.n.0 (Some (slot.Gate c.args.gate)) ∙ ap (λ (h : Numbered). h.room) c.self.view_is
