use Rattle.std.proofs.Common.{List, reverse, ap, subst, sym, ◌∙◌, arith}
use Rattle.lnet_gates.specs.declared.signal.Node.{Node}
use Rattle.lnet_gates.specs.Lawful.KindLaws.{kind_laws}
use Rattle.lnet_model.specs.Networks.{IsLive, live_count}
use Rattle.lnet_hashed.specs.Strashed.{Placed}
use Rattle.lnet_hashed.specs.Undoing.{undone, IsUndoable}
use Rattle.lnet_hashed.proofs.Newly.{IsTakenBack, placed-keeps-live, placed-same, placed-taken, reverse-after}
use Rattle.lnet_hashed.proofs.laying.place_noting.Goals as goal

pub returns-then-before-live_count-clause-lives : goal.returns-then-before-live_count-clause-lives
returns-then-before-live_count-clause-lives g c m live =
    subst (λ (p : Placed). IsLive p.network m) c.in-Ok.ensures.placed (placed-keeps-live g.G.Gates.KIND c.args.hashed.now.store.network c.args.gate.now m live)

pub returns-else-before-live_count-clause-lives : goal.returns-else-before-live_count-clause-lives
returns-else-before-live_count-clause-lives g c m live =
    subst (λ (p : Placed). IsLive p.network m) c.in-Ok.ensures.placed (placed-keeps-live g.G.Gates.KIND c.args.hashed.now.store.network c.args.gate.now m live)

pub returns-then-before-live_count-clause-undoable : goal.returns-then-before-live_count-clause-undoable
returns-then-before-live_count-clause-undoable g c =
    let more = c.if-before-live_count.true in
    let count = ap (λ (p : Placed). live_count p.network) c.in-Ok.ensures.placed in
    let before = c.live_count-before.ensures.value in
    let after = c.live_count.ensures.value in
    let old : List Node = reverse c.args.added.now.items in
    let rev = ap reverse c.push.ensures.items ∙ reverse-after c.args.added.now.items c.in-Ok.signal.node in
    let taken = subst (λ (p : Placed). IsTakenBack c.args.hashed.now.store.network p.network p.signal.node old) c.in-Ok.ensures.placed (placed-taken g.G.Gates.KIND c.args.hashed.now.store.network c.args.gate.now old c.live_count-before.ensures.stored c.requires.live ((kind_laws g.G.Gates.KIND).names c.args.gate.now c.requires.native) c.requires.undoable (omega arith)) in
    subst (λ ns. IsUndoable ns c.place.new.hashed.store.network) (sym rev) taken.may

pub returns-then-before-live_count-clause-undone : goal.returns-then-before-live_count-clause-undone
returns-then-before-live_count-clause-undone g c =
    let more = c.if-before-live_count.true in
    let count = ap (λ (p : Placed). live_count p.network) c.in-Ok.ensures.placed in
    let before = c.live_count-before.ensures.value in
    let after = c.live_count.ensures.value in
    let old : List Node = reverse c.args.added.now.items in
    let rev = ap reverse c.push.ensures.items ∙ reverse-after c.args.added.now.items c.in-Ok.signal.node in
    let taken = subst (λ (p : Placed). IsTakenBack c.args.hashed.now.store.network p.network p.signal.node old) c.in-Ok.ensures.placed (placed-taken g.G.Gates.KIND c.args.hashed.now.store.network c.args.gate.now old c.live_count-before.ensures.stored c.requires.live ((kind_laws g.G.Gates.KIND).names c.args.gate.now c.requires.native) c.requires.undoable (omega arith)) in
    ap (λ ns. undone ns c.place.new.hashed.store.network) rev ∙ taken.back

pub returns-else-before-live_count-clause-undoable : goal.returns-else-before-live_count-clause-undoable
returns-else-before-live_count-clause-undoable g c =
    let few = c.if-before-live_count.false in
    let count = ap (λ (p : Placed). live_count p.network) c.in-Ok.ensures.placed in
    let same = sym (ap (λ (p : Placed). p.network) c.in-Ok.ensures.placed) ∙ placed-same g.G.Gates.KIND c.args.hashed.now.store.network c.args.gate.now (omega arith) in
    subst (IsUndoable (reverse c.args.added.now.items)) (sym same) c.requires.undoable

pub returns-else-before-live_count-clause-undone : goal.returns-else-before-live_count-clause-undone
returns-else-before-live_count-clause-undone g c =
    let few = c.if-before-live_count.false in
    let count = ap (λ (p : Placed). live_count p.network) c.in-Ok.ensures.placed in
    let same = sym (ap (λ (p : Placed). p.network) c.in-Ok.ensures.placed) ∙ placed-same g.G.Gates.KIND c.args.hashed.now.store.network c.args.gate.now (omega arith) in
    ap (undone (reverse c.args.added.now.items)) same
