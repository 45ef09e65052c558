use Rattle.std.proofs.Common.{◌≡◌, ◌-◌, ◌++◌, Bool, true, replicate, None, List, Option, length, subst, ap, sym, ◌∙◌, arith}
use Rattle.lnet_store.specs.Held.{Numbered, held, IsCounted}
use Rattle.lnet_store.specs.declared.slots.Slot.{Slot}
use Rattle.lnet_store.proofs.SlotLemmas.{held-grown}
use Rattle.lnet_store.proofs.CountedSlots.{fitting, counted-grown}
use Rattle.lnet_store.proofs.FreeSlots.{frees-length}
use Rattle.lnet_store.proofs.slots.NodeSlots.grow.Goals as goal

pub returns-in_err-reserve-clause-fitting : goal.returns-in_err-reserve-clause-fitting
returns-in_err-reserve-clause-fitting c = fitting c.reserve.new.self.items c.self.inside.live c.self.inside.numbers c.self.inside.free
    (subst (λ (xs : List (Option Slot)). IsCounted xs c.self.inside.live c.self.inside.numbers c.self.inside.free) (sym c.in_err-reserve.ensures.items) c.self.invariant)

pub returns-in_err-grow-clause-fitting : goal.returns-in_err-grow-clause-fitting
returns-in_err-grow-clause-fitting c = fitting c.reserve.new.self.items c.self.inside.live c.self.inside.numbers c.self.inside.free
    (subst (λ (xs : List (Option Slot)). IsCounted xs c.self.inside.live c.self.inside.numbers c.self.inside.free) (sym c.in_ok-reserve.ensures.items) c.self.invariant)

pub invariant_of-self-2 : goal.invariant_of-self-2
invariant_of-self-2 c =
    let r = ap (λ (h : Numbered). h.room) c.self.view_is in
    let within = c.requires.within in
    let more = c.requires.more in
    let len = c.len.ensures in
    let slots : c.extend.new.slots.items ≡ c.self.inside.slots.items ++ replicate (c.args.room - c.len.result) None = c.extend.ensures
    ∙ ap (λ (xs : List (Option Slot)). xs ++ replicate (c.args.room - c.len.result) None) c.in_ok-reserve.ensures.items in
    let frees = ap (λ (fs : List Bool). length fs) c.self.invariant.frees ∙ frees-length c.self.inside.slots.items in
    let same : c.args.room - length c.self.inside.free ≡ c.args.room - c.len.result = omega arith in
    let free = c.in_ok-grow.ensures.ok ∙ ap (λ k. c.self.inside.free ++ replicate k true) same in
    subst (λ (xs : List (Option Slot)). IsCounted xs c.self.inside.live c.self.inside.numbers c.grow.new.self) (sym slots)
    (subst (IsCounted (c.self.inside.slots.items ++ replicate (c.args.room - c.len.result) None) c.self.inside.live c.self.inside.numbers) (sym free)
    (counted-grown c.self.inside.slots.items c.self.inside.live c.self.inside.numbers c.self.inside.free (c.args.room - c.len.result) c.self.invariant (omega arith)))

pub returns-clause-nodes : goal.returns-clause-nodes
returns-clause-nodes c =
    ap held (c.extend.ensures ∙ ap (λ (xs : List (Option Slot)). xs ++ replicate (c.args.room - c.len.result) None) c.in_ok-reserve.ensures.items)
    ∙ held-grown c.self.inside.slots.items (c.args.room - c.len.result)
    ∙ ap (λ (h : Numbered). h.nodes) c.self.view_is

pub returns-clause-fitting : goal.returns-clause-fitting
returns-clause-fitting c = fitting c.extend.new.slots.items c.self.inside.live c.self.inside.numbers c.grow.new.self (invariant_of-self-2 c)
