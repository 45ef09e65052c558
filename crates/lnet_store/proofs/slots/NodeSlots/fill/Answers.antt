use Rattle.std.proofs.Common.{Bool, List, length, false, ◌+◌, Some, IsSome, subst, ap, sym, ◌∙◌, arith}
use Rattle.std.proofs.Math.ListN.{set}
use Rattle.std.specs.FinMap.{get, insert, len}
use Rattle.lnet_store.specs.Held.{Numbered, entry_of, IsCounted}
use Rattle.lnet_store.proofs.SlotLemmas.{held-set}
use Rattle.lnet_store.proofs.CountedSlots.{fitting, free-inside, counted-filled}
use Rattle.lnet_store.proofs.FreeSlots.{frees-length}
use Rattle.lnet_store.proofs.slots.NodeSlots.fill.Goals as goal

pub index_mut-requires : goal.index_mut-requires
index_mut-requires c =
    let e = ap (λ (h : Numbered). h.nodes) c.self.view_is in
    let r = ap (λ (h : Numbered). h.room) c.self.view_is in
    let h = free-inside c.self.inside.slots.items c.self.inside.live c.self.inside.numbers c.self.inside.free c.self.invariant c.args.n.0 c.args.slot
    (ap (λ m. get m c.args.n.0) e ∙ c.requires.free) (λ m lt. subst (λ z. IsSome (get z m)) (sym e) (c.requires.least m lt)) (let s = c.requires.space in let l = ap len e in omega arith) in
    omega arith

pub overflow_add-n : goal.overflow_add-n
overflow_add-n c =
    let e = ap (λ (h : Numbered). h.nodes) c.self.view_is in
    let r = ap (λ (h : Numbered). h.room) c.self.view_is in
    let h = free-inside c.self.inside.slots.items c.self.inside.live c.self.inside.numbers c.self.inside.free c.self.invariant c.args.n.0 c.args.slot
    (ap (λ m. get m c.args.n.0) e ∙ c.requires.free) (λ m lt. subst (λ z. IsSome (get z m)) (sym e) (c.requires.least m lt)) (let s = c.requires.space in let l = ap len e in omega arith) in
    let w = c.self.invariant.within in
    omega arith

pub invariant_of-self : goal.invariant_of-self
invariant_of-self c =
    let e = ap (λ (h : Numbered). h.nodes) c.self.view_is in
    let r = ap (λ (h : Numbered). h.room) c.self.view_is in
    subst (IsCounted (set c.self.inside.slots.items c.args.n.0 (Some c.args.slot)) (c.self.inside.live + 1) c.max-self-inside.result) (sym c.remove.ensures)
    (subst (λ z. IsCounted (set c.self.inside.slots.items c.args.n.0 (Some c.args.slot)) (c.self.inside.live + 1) z (set c.self.inside.free c.args.n.0 false)) (sym c.max-self-inside.ensures)
    (counted-filled c.self.inside.slots.items c.self.inside.live c.self.inside.numbers c.self.inside.free c.self.invariant c.args.n.0 c.args.slot (ap (λ m. get m c.args.n.0) e ∙ c.requires.free)
    (λ m lt. subst (λ z. IsSome (get z m)) (sym e) (c.requires.least m lt)) (let s = c.requires.space in let l = ap len e in omega arith)))

pub returns-clause-nodes : goal.returns-clause-nodes
returns-clause-nodes c =
    let e = ap (λ (h : Numbered). h.nodes) c.self.view_is in
    let r = ap (λ (h : Numbered). h.room) c.self.view_is in
    let h = free-inside c.self.inside.slots.items c.self.inside.live c.self.inside.numbers c.self.inside.free c.self.invariant c.args.n.0 c.args.slot
    (ap (λ m. get m c.args.n.0) e ∙ c.requires.free) (λ m lt. subst (λ z. IsSome (get z m)) (sym e) (c.requires.least m lt)) (let s = c.requires.space in let l = ap len e in omega arith) in
    held-set c.self.inside.slots.items c.args.n.0 c.args.slot h ∙ ap (λ m. insert m c.args.n.0 (entry_of c.args.slot)) e

pub returns-clause-fitting : goal.returns-clause-fitting
returns-clause-fitting c =
    let e = ap (λ (h : Numbered). h.nodes) c.self.view_is in
    let r = ap (λ (h : Numbered). h.room) c.self.view_is in
    fitting (set c.self.inside.slots.items c.args.n.0 (Some c.args.slot)) (c.self.inside.live + 1) c.max-self-inside.result c.remove.new.self (
    subst (IsCounted (set c.self.inside.slots.items c.args.n.0 (Some c.args.slot)) (c.self.inside.live + 1) c.max-self-inside.result) (sym c.remove.ensures)
    (subst (λ z. IsCounted (set c.self.inside.slots.items c.args.n.0 (Some c.args.slot)) (c.self.inside.live + 1) z (set c.self.inside.free c.args.n.0 false)) (sym c.max-self-inside.ensures)
    (counted-filled c.self.inside.slots.items c.self.inside.live c.self.inside.numbers c.self.inside.free c.self.invariant c.args.n.0 c.args.slot (ap (λ m. get m c.args.n.0) e ∙ c.requires.free)
    (λ m lt. subst (λ z. IsSome (get z m)) (sym e) (c.requires.least m lt)) (let s = c.requires.space in let l = ap len e in omega arith)))
    )

pub returns-clause-within : goal.returns-clause-within
returns-clause-within c =
    let e = ap (λ (h : Numbered). h.nodes) c.self.view_is in
    let r = ap (λ (h : Numbered). h.room) c.self.view_is in
    let h = free-inside c.self.inside.slots.items c.self.inside.live c.self.inside.numbers c.self.inside.free c.self.invariant c.args.n.0 c.args.slot
    (ap (λ m. get m c.args.n.0) e ∙ c.requires.free) (λ m lt. subst (λ z. IsSome (get z m)) (sym e) (c.requires.least m lt)) (let s = c.requires.space in let l = ap len e in omega arith) in
    let w = c.self.invariant.within in
    omega arith

pub remove-requires : goal.remove-requires
remove-requires c =
    let e = ap (λ (h : Numbered). h.nodes) c.self.view_is in
    let r = ap (λ (h : Numbered). h.room) c.self.view_is in
    let h = free-inside c.self.inside.slots.items c.self.inside.live c.self.inside.numbers c.self.inside.free c.self.invariant c.args.n.0 c.args.slot
    (ap (λ m. get m c.args.n.0) e ∙ c.requires.free) (λ m lt. subst (λ z. IsSome (get z m)) (sym e) (c.requires.least m lt)) (let s = c.requires.space in let l = ap len e in omega arith) in
    let len = ap (λ (fs : List Bool). length fs) c.self.invariant.frees ∙ frees-length c.self.inside.slots.items in
    omega arith
