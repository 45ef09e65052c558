use Rattle.std.proofs.Common.{◌≡◌, ◌∷◌, [], List, ℕ, Bool, true, false, get_or, subst, sym, ap, ◌∙◌, arith}
use Rattle.std.proofs.Math.ListN.{set}
use Rattle.std.specs.Vec.{vec_capacity}
use Rattle.lnet_store.specs.Search.{AreMarked, Enters}
use Rattle.lnet_store.proofs.SearchLemmas.{place-left, marked-more, entered-new}
use Rattle.lnet_store.proofs.reaching.enter.Goals as goal

pub push_reserved-requires : goal.push_reserved-requires
push_reserved-requires c =
    let clear : get_or c.args.marks.now.items c.args.n false ≡ false = ap (λ (bs : List Bool). get_or bs c.args.n false) (sym c.deref.ensures.value) ∙ sym c.is_marked.ensures ∙ c.if-is_marked.false in
    let lt = place-left c.args.marks.now.items c.args.queue.now.items c.requires.marked c.args.n (vec_capacity c.args.queue.now) clear c.requires.places in
    omega arith

pub returns-clause-marked : goal.returns-clause-marked
returns-clause-marked c =
    let clear : get_or c.args.marks.now.items c.args.n false ≡ false = ap (λ (bs : List Bool). get_or bs c.args.n false) (sym c.deref.ensures.value) ∙ sym c.is_marked.ensures ∙ c.if-is_marked.false in
    subst (AreMarked (set c.args.marks.now.items c.args.n true)) (sym c.push_reserved.ensures.items) (marked-more c.args.marks.now.items c.args.queue.now.items c.requires.marked c.args.n clear c.requires.known)

pub returns-clause-enters : goal.returns-clause-enters
returns-clause-enters c = subst (λ (q : List ℕ). Enters c.args.queue.now.items q (c.args.n ∷ [])) (sym c.push_reserved.ensures.items) (entered-new c.args.marks.now.items c.args.queue.now.items c.requires.marked c.args.n)
