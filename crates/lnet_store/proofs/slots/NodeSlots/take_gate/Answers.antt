use Rattle.std.proofs.Common.{Bool, ◌≡◌, ◌-◌, None, List, Option, IsSome, get_or, length, length-set, subst, ap, sym, ◌∙◌, arith}
use Rattle.std.proofs.Math.ListN.{set}
use Rattle.std.specs.FinMap.{get, remove}
use Rattle.lnet_model.specs.Networks.{gate_in}
use Rattle.lnet_store.specs.Held.{Numbered, held, entry_in, IsCounted}
use Rattle.lnet_store.specs.declared.slots.Slot.{Slot}
use Rattle.lnet_store.proofs.SlotLemmas.{get-held, held-clear}
use Rattle.lnet_store.proofs.CountedSlots.{fitting, there-inside, counted-cleared, some-live, gate-live, numbers-fit}
use Rattle.lnet_store.proofs.FreeSlots.{frees-length}
use Rattle.lnet_store.proofs.slots.NodeSlots.take_gate.Goals as goal

pub exchange-old-requires : goal.exchange-old-requires
exchange-old-requires c =
    let e = ap (λ (h : Numbered). h.nodes) c.self.view_is in
    there-inside c.self.inside.slots.items c.self.inside.live c.self.inside.numbers c.self.inside.free c.self.invariant c.args.n.0
    (subst (λ m. IsSome (get m c.args.n.0)) (sym e) (gate-live c.args.self.now.nodes c.args.n.0 c.requires))

pub gate_from-requires : goal.gate_from-requires
gate_from-requires c =
    let e = ap (λ (h : Numbered). h.nodes) c.self.view_is in
    subst (λ o. IsSome (gate_in o)) (sym (ap (λ m. get m c.args.n.0) e) ∙ get-held c.self.inside.slots.items c.args.n.0 ∙ ap entry_in (sym c.exchange-old.ensures.old)) c.requires

pub overflow_sub-self : goal.overflow_sub-self
overflow_sub-self c =
    let e = ap (λ (h : Numbered). h.nodes) c.self.view_is in
    some-live c.self.inside.slots.items c.self.inside.live c.self.inside.numbers c.self.inside.free c.self.invariant c.args.n.0
    (subst (λ m. IsSome (get m c.args.n.0)) (sym e) (gate-live c.args.self.now.nodes c.args.n.0 c.requires))

pub top_of-self-inside-requires : goal.top_of-self-inside-requires
top_of-self-inside-requires c =
    let h = numbers-fit c.self.inside.slots.items c.self.inside.live c.self.inside.numbers c.self.inside.free c.self.invariant in
    let same = ap (λ (xs : List (Option Slot)). length xs) (c.deref.ensures.value ∙ c.exchange-old.ensures.new) ∙ length-set c.self.inside.slots.items c.args.n.0 None in
    omega arith

pub invariant_of-self : goal.invariant_of-self
invariant_of-self c =
    let e = ap (λ (h : Numbered). h.nodes) c.self.view_is in
    let slots : c.deref.result.now ≡ set c.self.inside.slots.items c.args.n.0 None = c.deref.ensures.value ∙ c.exchange-old.ensures.new in
    subst (λ (xs : List (Option Slot)). IsCounted xs (c.self.inside.live - 1) c.top_of-self-inside.result c.insert.new.self) (sym c.exchange-old.ensures.new)
    (subst (λ z. IsCounted (set c.self.inside.slots.items c.args.n.0 None) (c.self.inside.live - 1) c.top_of-self-inside.result z) (sym c.insert.ensures)
    (counted-cleared c.self.inside.slots.items c.self.inside.live c.self.inside.numbers c.self.inside.free c.self.invariant c.args.n.0
    (subst (λ m. IsSome (get m c.args.n.0)) (sym e) (gate-live c.args.self.now.nodes c.args.n.0 c.requires)) c.top_of-self-inside.result
    (λ m ge lt. ap (λ (xs : List (Option Slot)). get_or xs m None) (sym slots) ∙ c.top_of-self-inside.ensures.past m ge lt)
    (λ m is. subst (λ (xs : List (Option Slot)). IsSome (get_or xs m None)) slots (c.top_of-self-inside.ensures.top m is))))

pub returns-clause-nodes : goal.returns-clause-nodes
returns-clause-nodes c =
    let e = ap (λ (h : Numbered). h.nodes) c.self.view_is in
    ap held c.exchange-old.ensures.new ∙ held-clear c.self.inside.slots.items c.args.n.0
    (there-inside c.self.inside.slots.items c.self.inside.live c.self.inside.numbers c.self.inside.free c.self.invariant c.args.n.0
    (subst (λ m. IsSome (get m c.args.n.0)) (sym e) (gate-live c.args.self.now.nodes c.args.n.0 c.requires))) ∙ ap (λ m. remove m c.args.n.0) e

pub returns-clause-old : goal.returns-clause-old
returns-clause-old c =
    let e = ap (λ (h : Numbered). h.nodes) c.self.view_is in
    sym (ap (λ m. gate_in (get m c.args.n.0)) e) ∙ ap gate_in (get-held c.self.inside.slots.items c.args.n.0 ∙ ap entry_in (sym c.exchange-old.ensures.old)) ∙ c.gate_from.ensures

pub returns-clause-fitting : goal.returns-clause-fitting
returns-clause-fitting c =
    let e = ap (λ (h : Numbered). h.nodes) c.self.view_is in
    let slots : c.deref.result.now ≡ set c.self.inside.slots.items c.args.n.0 None = c.deref.ensures.value ∙ c.exchange-old.ensures.new in
    fitting c.exchange-old.new.slots.items (c.self.inside.live - 1) c.top_of-self-inside.result c.insert.new.self
    (subst (λ (xs : List (Option Slot)). IsCounted xs (c.self.inside.live - 1) c.top_of-self-inside.result c.insert.new.self) (sym c.exchange-old.ensures.new)
    (subst (λ z. IsCounted (set c.self.inside.slots.items c.args.n.0 None) (c.self.inside.live - 1) c.top_of-self-inside.result z) (sym c.insert.ensures)
    (counted-cleared c.self.inside.slots.items c.self.inside.live c.self.inside.numbers c.self.inside.free c.self.invariant c.args.n.0
    (subst (λ m. IsSome (get m c.args.n.0)) (sym e) (gate-live c.args.self.now.nodes c.args.n.0 c.requires)) c.top_of-self-inside.result
    (λ m ge lt. ap (λ (xs : List (Option Slot)). get_or xs m None) (sym slots) ∙ c.top_of-self-inside.ensures.past m ge lt)
    (λ m is. subst (λ (xs : List (Option Slot)). IsSome (get_or xs m None)) slots (c.top_of-self-inside.ensures.top m is)))))

pub returns-clause-room : goal.returns-clause-room
returns-clause-room c = ap (λ (xs : List (Option Slot)). length xs) c.exchange-old.ensures.new ∙ length-set c.self.inside.slots.items c.args.n.0 None ∙ ap (λ (h : Numbered). h.room) c.self.view_is

pub insert-requires : goal.insert-requires
insert-requires c =
    let e = ap (λ (h : Numbered). h.nodes) c.self.view_is in
    let inside = there-inside c.self.inside.slots.items c.self.inside.live c.self.inside.numbers c.self.inside.free c.self.invariant c.args.n.0
    (subst (λ m. IsSome (get m c.args.n.0)) (sym e) (gate-live c.args.self.now.nodes c.args.n.0 c.requires)) in
    let len = ap (λ (fs : List Bool). length fs) c.self.invariant.frees ∙ frees-length c.self.inside.slots.items in
    omega arith
