use Rattle.std.proofs.Common.{◌≡◌, ◌<◌, ◌++◌, ◌∷◌, [], List, length, Some, set, sym, ap, subst, ◌∙◌, arith}
use Rattle.lnet_gates.specs.declared.signal.Node.{Node}
use Rattle.lnet_export.specs.Settling.{IsPath, StartsAt}
use Rattle.lnet_export.proofs.PathLemmas.{last-unknown, path-more, levels-more, known-more, path-settled, starts-more, starts-settled, work, work-settled, work-more}
use Rattle.lnet_export.proofs.levels.settle.Goals as goal

pub loop-top-smaller-in-Level : goal.loop-top-smaller-in-Level
loop-top-smaller-in-Level g c =
    let N = c.args.net.now.core.network in
    let whole = c.in-Some.ensures.items in
    let last = last-unknown N c.loop-top.levels c.pop.new.self.items c.in-Some.top (subst (IsPath N c.loop-top.levels) whole c.loop-top.invariant.path) in
    let sized = c.loop-top.invariant.levels.sized in
    let below = last.0 in
    subst (λ (p : List Node). work N (set c.loop-top.levels c.in-Some.top.0 (Some c.in-Level.level)) c.pop.new.self.items < work N c.loop-top.levels p) (sym whole)
    (work-settled N c.loop-top.levels c.pop.new.self.items c.in-Some.top c.in-Level.level (omega arith) last.1)

pub loop-top-preserved-in-Level : goal.loop-top-preserved-in-Level
loop-top-preserved-in-Level g c =
    let N = c.args.net.now.core.network in
    let whole = c.in-Some.ensures.items in
    let path = subst (IsPath N c.loop-top.levels) whole c.loop-top.invariant.path in
    let last = last-unknown N c.loop-top.levels c.pop.new.self.items c.in-Some.top path in
    let sized = c.loop-top.invariant.levels.sized in
    let below = last.0 in
    let within : c.in-Some.top.0 < length c.loop-top.levels = omega arith in
    record {
      levels = levels-more N c.loop-top.levels c.in-Some.top.0 c.in-Level.level c.loop-top.invariant.levels c.in-Level.ensures;
      path = path-settled N c.loop-top.levels c.pop.new.self.items c.in-Some.top c.in-Level.level path;
      starts = starts-settled c.loop-top.levels c.pop.new.self.items c.args.n c.in-Some.top c.in-Level.level within (subst (λ (p : List Node). StartsAt c.loop-top.levels p c.args.n) whole c.loop-top.invariant.starts);
      kept = λ m known. known-more c.loop-top.levels c.in-Some.top.0 c.in-Level.level within m (c.loop-top.invariant.kept m known);
    }

pub loop-top-smaller : goal.loop-top-smaller
loop-top-smaller g c =
    let N = c.args.net.now.core.network in
    let whole = c.in-Some.ensures.items in
    let now = c.in_ok-push-in-Wait-2.ensures.items ∙ ap (λ (p : List Node). p ++ c.in-Wait.fanin ∷ []) c.in_ok-push-in-Wait.ensures.items in
    let less = work-more N c.loop-top.levels c.pop.new.self.items c.in-Some.top c.in-Wait.fanin c.live_count-live.ensures.stored c.in-Wait.ensures.0 in
    subst (λ (p : List Node). work N c.loop-top.levels c.push-in-Wait-2.new.self.items < work N c.loop-top.levels p) (sym whole)
    (subst (λ (p : List Node). work N c.loop-top.levels p < work N c.loop-top.levels (c.pop.new.self.items ++ c.in-Some.top ∷ [])) (sym now) less)

pub loop-top-preserved : goal.loop-top-preserved
loop-top-preserved g c =
    let N = c.args.net.now.core.network in
    let whole = c.in-Some.ensures.items in
    let now = c.in_ok-push-in-Wait-2.ensures.items ∙ ap (λ (p : List Node). p ++ c.in-Wait.fanin ∷ []) c.in_ok-push-in-Wait.ensures.items in
    record {
      levels = c.loop-top.invariant.levels;
      path = subst (IsPath N c.loop-top.levels) (sym now) (path-more N c.loop-top.levels c.pop.new.self.items c.in-Some.top c.in-Wait.fanin c.live_count-live.ensures.stored (subst (IsPath N c.loop-top.levels) whole c.loop-top.invariant.path) c.in-Wait.ensures.0 c.in-Wait.ensures.1);
      starts = subst (λ (p : List Node). StartsAt c.loop-top.levels p c.args.n) (sym now) (starts-more c.loop-top.levels c.pop.new.self.items c.args.n c.in-Some.top c.in-Wait.fanin (subst (λ (p : List Node). StartsAt c.loop-top.levels p c.args.n) whole c.loop-top.invariant.starts));
      kept = c.loop-top.invariant.kept;
    }
