use Rattle.std.proofs.Common.{arith, ap, ◌<◌, length, Some, None, sym, ◌∙◌}
use Rattle.lnet_views.specs.Chains.{at}
use Rattle.lnet_views.proofs.Links.{head-waits, head-lowest, raise-floor, get_or-is}
use Rattle.lnet_views.proofs.queue.Queue.take.Goals as goal

pub returns-in-Some-clause-taken : goal.returns-in-Some-clause-taken
returns-in-Some-clause-taken c =
    let inside : c.levels.self.floor < length c.levels.self.heads.items = omega arith in
    let e = get_or-is c.levels.self.heads.items c.levels.self.floor c.index.result.now None inside c.index.ensures in
    head-lowest c.levels.self.heads.items c.levels.self.next.items c.levels.self.levels.items c.args.self.now.levels.items c.levels.self.floor c.in-Some.n c.levels.invariant.queue.chains inside (sym e ∙ c.in-Some.is) c.levels.invariant.same

pub levels-preserved : goal.levels-preserved
levels-preserved c =
    let inside : c.levels.self.floor < length c.levels.self.heads.items = omega arith in
    let e = get_or-is c.levels.self.heads.items c.levels.self.floor c.index.result.now None inside c.index.ensures in
    let rises = c.levels.invariant.rises in
    record {
      queue = record { chains = raise-floor c.levels.self.heads.items c.levels.self.next.items c.levels.self.levels.items c.levels.self.floor c.levels.invariant.queue.chains inside (sym e ∙ c.in-None.is); count = c.levels.invariant.queue.count };
      rises = omega arith;
      heads = c.levels.invariant.heads;
      same = c.levels.invariant.same;
    }

pub returns-in-Some-clause-floor : goal.returns-in-Some-clause-floor
returns-in-Some-clause-floor c =
    let inside : c.levels.self.floor < length c.levels.self.heads.items = omega arith in
    let e = get_or-is c.levels.self.heads.items c.levels.self.floor c.index.result.now None inside c.index.ensures in
    ap (λ z. at z c.in-Some.n) (sym c.levels.invariant.same) ∙ head-waits c.levels.self.heads.items c.levels.self.next.items c.levels.self.levels.items c.levels.self.floor c.in-Some.n c.levels.self.floor c.levels.invariant.queue.chains inside (sym e ∙ c.in-Some.is) ∙ ap (λ z. Some z) (sym c.unlink.ensures.floor)
