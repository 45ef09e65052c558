use Rattle.std.proofs.Common.{Bool, false, List, get_or, length, IsSome, subst, ap, sym, ◌∙◌, arith}
use Rattle.std.specs.FinMap.{get, len}
use Rattle.lnet_store.specs.Held.{Numbered, held, entry_in}
use Rattle.lnet_store.proofs.SlotLemmas.{get-held, all-live, full-live}
use Rattle.lnet_store.proofs.FreeSlots.{frees-empty, frees-length}
use Rattle.lnet_store.proofs.slots.NodeSlots.next_free.Goals as goal

pub unreachable-requires : goal.unreachable-requires
unreachable-requires c =
    let e = ap (λ (h : Numbered). h.nodes) c.self.view_is in
    let r = ap (λ (h : Numbered). h.room) c.self.view_is in
    let full = all-live (held c.self.inside.slots.items) (length c.self.inside.slots.items)
    (λ m lt. full-live c.self.inside.slots.items m lt (ap (λ fs. get_or fs m false) (sym c.self.invariant.frees) ∙ c.in-None.ensures m)) in
    let s = c.requires in
    let l = ap len e in
    absurd (omega arith)

pub returns-clause-free : goal.returns-clause-free
returns-clause-free c =
    let e = ap (λ (h : Numbered). h.nodes) c.self.view_is in
    sym (ap (λ m. get m c.in-Some.n) e) ∙ get-held c.self.inside.slots.items c.in-Some.n
    ∙ ap entry_in (frees-empty c.self.inside.slots.items c.in-Some.n (ap (λ fs. get_or fs c.in-Some.n false) (sym c.self.invariant.frees) ∙ c.in-Some.ensures.member))

pub returns-clause-least : goal.returns-clause-least
returns-clause-least c m lt =
    let e = ap (λ (h : Numbered). h.nodes) c.self.view_is in
    let within = c.in-Some.ensures.within in
    let len = ap (λ (fs : List Bool). length fs) c.self.invariant.frees ∙ frees-length c.self.inside.slots.items in
    subst (λ z. IsSome (get z m)) e (full-live c.self.inside.slots.items m (omega arith) (ap (λ fs. get_or fs m false) (sym c.self.invariant.frees) ∙ c.in-Some.ensures.below m lt))

pub returns-clause-within : goal.returns-clause-within
returns-clause-within c =
    let r = ap (λ (h : Numbered). h.room) c.self.view_is in
    let within = c.in-Some.ensures.within in
    let len = ap (λ (fs : List Bool). length fs) c.self.invariant.frees ∙ frees-length c.self.inside.slots.items in
    omega arith
