use Rattle.std.proofs.Common.{◌<◌, ◌++◌, ◌∷◌, [], List, true, length, set, sym, ap, subst, ◌∙◌, arith}
use Rattle.lnet_gates.specs.declared.signal.Node.{Node}
use Rattle.lnet_simulate.specs.Cones.{IsCone, IsListed, IsPath, StartsAt}
use Rattle.lnet_simulate.proofs.PathLemmas.{last-unmarked, path-more, path-settled, starts-more, starts-settled, work, work-settled, work-more}
use Rattle.lnet_simulate.proofs.OrderLemmas.{cone-more, kept-more}
use Rattle.lnet_simulate.proofs.cone.visit.Goals as goal

pub loop-top-smaller-in-Continue-branch-2 : goal.loop-top-smaller-in-Continue-branch-2
loop-top-smaller-in-Continue-branch-2 g c =
    let N = c.args.net.now.core.network in
    let whole = c.in-Some.ensures.items in
    let last = last-unmarked N c.loop-top.marks c.pop.new.self.items c.in-Some.top (subst (IsPath N c.loop-top.marks) whole c.loop-top.invariant.path) in
    let sized = c.loop-top.invariant.cone.sized in
    let below = last.0 in
    subst (λ (p : List Node). work N (set c.loop-top.marks c.in-Some.top.0 true) c.pop.new.self.items < work N c.loop-top.marks p) (sym whole)
    (work-settled N c.loop-top.marks c.pop.new.self.items c.in-Some.top (omega arith) last.1)

pub loop-top-preserved-in-Continue-branch-2 : goal.loop-top-preserved-in-Continue-branch-2
loop-top-preserved-in-Continue-branch-2 g c =
    let N = c.args.net.now.core.network in
    let whole = c.in-Some.ensures.items in
    let now = c.in_ok-push-in-None.ensures.items in
    let path = subst (IsPath N c.loop-top.marks) whole c.loop-top.invariant.path in
    let last = last-unmarked N c.loop-top.marks c.pop.new.self.items c.in-Some.top path in
    let sized = c.loop-top.invariant.cone.sized in
    let below = last.0 in
    let within : c.in-Some.top.0 < length c.loop-top.marks = omega arith in
    record {
      cone = subst (λ (o : List Node). IsCone N (set c.loop-top.marks c.in-Some.top.0 true) o) (sym now) (cone-more N c.loop-top.marks c.loop-top.order.items c.in-Some.top last.0 c.loop-top.invariant.cone c.in-None.ensures);
      path = path-settled N c.loop-top.marks c.pop.new.self.items c.in-Some.top path;
      starts = starts-settled c.loop-top.marks c.pop.new.self.items c.args.n c.in-Some.top within (subst (λ (p : List Node). StartsAt c.loop-top.marks p c.args.n) whole c.loop-top.invariant.starts);
      kept = λ m listed. subst (λ (o : List Node). IsListed o m) (sym now) (kept-more c.loop-top.order.items c.in-Some.top m (c.loop-top.invariant.kept m listed));
    }

pub loop-top-smaller : goal.loop-top-smaller
loop-top-smaller g c =
    let N = c.args.net.now.core.network in
    let whole = c.in-Some.ensures.items in
    let now = c.in_ok-push-in-Some-waiting_fanin-2.ensures.items ∙ ap (λ (p : List Node). p ++ c.in-Some-waiting_fanin.fanin ∷ []) c.in_ok-push-in-Some-waiting_fanin.ensures.items in
    let less = work-more N c.loop-top.marks c.pop.new.self.items c.in-Some.top c.in-Some-waiting_fanin.fanin c.live_count-live.ensures.stored c.in-Some-waiting_fanin.ensures.0 in
    subst (λ (p : List Node). work N c.loop-top.marks c.push-in-Some-waiting_fanin-2.new.self.items < work N c.loop-top.marks p) (sym whole)
    (subst (λ (p : List Node). work N c.loop-top.marks p < work N c.loop-top.marks (c.pop.new.self.items ++ c.in-Some.top ∷ [])) (sym now) less)

pub loop-top-preserved : goal.loop-top-preserved
loop-top-preserved g c =
    let N = c.args.net.now.core.network in
    let whole = c.in-Some.ensures.items in
    let now = c.in_ok-push-in-Some-waiting_fanin-2.ensures.items ∙ ap (λ (p : List Node). p ++ c.in-Some-waiting_fanin.fanin ∷ []) c.in_ok-push-in-Some-waiting_fanin.ensures.items in
    record {
      cone = c.loop-top.invariant.cone;
      path = subst (IsPath N c.loop-top.marks) (sym now) (path-more N c.loop-top.marks c.pop.new.self.items c.in-Some.top c.in-Some-waiting_fanin.fanin c.live_count-live.ensures.stored (subst (IsPath N c.loop-top.marks) whole c.loop-top.invariant.path) c.in-Some-waiting_fanin.ensures.0 c.in-Some-waiting_fanin.ensures.1);
      starts = subst (λ (p : List Node). StartsAt c.loop-top.marks p c.args.n) (sym now) (starts-more c.loop-top.marks c.pop.new.self.items c.args.n c.in-Some.top c.in-Some-waiting_fanin.fanin (subst (λ (p : List Node). StartsAt c.loop-top.marks p c.args.n) whole c.loop-top.invariant.starts));
      kept = c.loop-top.invariant.kept;
    }
