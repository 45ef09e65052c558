use Rattle.std.proofs.Common.{List, ◌++◌, nat_eq, arith, sym, ap, subst, ◌∙◌, length}
use Rattle.std.specs.HashMap.{get}
use Rattle.lnet_edge.specs.CircuitLists.{equation_views}
use Rattle.lnet_order.specs.declared.ordering.Frame.{Frame}
use Rattle.lnet_order.specs.Paths.{finished, opened, AreWithin}
use Rattle.lnet_order.proofs.PathLemmas.{finished-opened, within-opened, within-pop}
use Rattle.lnet_order.proofs.CallLemmas.{driver-within}
use Rattle.lnet_order.proofs.ordering.take.Goals as goal

pub enter-requires : goal.enter-requires
enter-requires c k is = let h = driver-within c.args.places.now c.args.equations.now c.args.wire k c.requires.places is in let n = c.requires.marked.sized in omega arith

pub loop-frame-init : goal.loop-frame-init
loop-frame-init c =
    let es = equation_views c.args.equations.now in
    let is = c.in_ok-enter.ensures ∙ ap (λ (p : List Frame). p ++ opened c.args.marks.now (get nat_eq c.args.places.now c.args.wire)) c.requires.start ∙ ap (opened c.args.marks.now) (c.requires.places c.args.wire) in
    record {
      whole = ap (finished es c.args.order.now.items) is ∙ finished-opened es c.requires.short c.args.marks.now c.args.order.now.items (length c.args.equations.now) c.requires.marked c.args.wire;
      marked = c.requires.marked;
      within = subst (AreWithin (length c.args.equations.now)) (sym is) (within-opened (length c.args.equations.now) c.args.marks.now _ (λ k found. driver-within c.args.places.now c.args.equations.now c.args.wire k c.requires.places (c.requires.places c.args.wire ∙ found)));
    }

pub advance-requires-clause-within : goal.advance-requires-clause-within
advance-requires-clause-within c = (within-pop (length c.args.equations.now) c.pop.new.self.items c.in-Some.frame (subst (AreWithin (length c.args.equations.now)) c.in-Some.ensures.items c.loop-frame.invariant.within)).0

pub advance-requires-clause-place : goal.advance-requires-clause-place
advance-requires-clause-place c = (within-pop (length c.args.equations.now) c.pop.new.self.items c.in-Some.frame (subst (AreWithin (length c.args.equations.now)) c.in-Some.ensures.items c.loop-frame.invariant.within)).1
