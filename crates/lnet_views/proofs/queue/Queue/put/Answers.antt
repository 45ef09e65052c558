use Rattle.std.proofs.Common.{arith, ap, ◌+◌, ◌∙◌, ◌≡◌, Some, None, sym, subst, set}
use Rattle.lnet_views.specs.Chains.{at, AreChains}
use Rattle.lnet_views.proofs.Waits.{waiting-put, waiting-le}
use Rattle.lnet_views.proofs.Links.{put-chains, get_or-is}
use Rattle.lnet_views.proofs.queue.Queue.put.Goals as goal

pub returns-clause-queue : goal.returns-clause-queue
returns-clause-queue c =
    let e : c.index.result.now ≡ at c.args.self.now.heads.items c.args.level = get_or-is c.args.self.now.heads.items c.args.level c.index.result.now None c.requires.level c.index.ensures in
    record {
      chains = subst (λ z. AreChains (set c.args.self.now.heads.items c.args.level (Some c.args.n)) (set c.args.self.now.next.items c.args.n z) (set c.args.self.now.levels.items c.args.n (Some c.args.level)) c.args.self.now.floor) (sym e) (put-chains c.args.self.now.heads.items c.args.self.now.next.items c.args.self.now.levels.items c.args.self.now.floor c.args.n c.args.level c.requires.queue.chains c.requires.number c.requires.level c.requires.floor c.requires.idle);
      count = ap (λ z. z + 1) c.requires.queue.count ∙ waiting-put c.args.self.now.levels.items c.args.n c.args.level c.requires.number c.requires.idle;
    }

pub overflow_add-self : goal.overflow_add-self
overflow_add-self c = let e = c.requires.queue.count in let h = waiting-le c.args.self.now.levels.items in let l = c.args.self.now.levels.ok in let k = c.args.self.now.levels.small in omega arith
