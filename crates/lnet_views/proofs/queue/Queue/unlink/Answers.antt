use Rattle.std.proofs.Common.{arith, ◌≡◌, ◌<◌, length, None, sym, subst, set}
use Rattle.lnet_views.specs.Chains.{at, AreChains}
use Rattle.lnet_views.proofs.Waits.{waiting-off}
use Rattle.lnet_views.proofs.Links.{head-waits, take-chains, head-inside, get_or-is}
use Rattle.lnet_views.proofs.queue.Queue.unlink.Goals as goal

pub index-requires : goal.index-requires
index-requires c =
    let h = head-inside c.args.self.now.heads.items c.args.self.now.next.items c.args.self.now.levels.items c.args.self.now.floor c.args.n c.args.level c.requires.queue.chains c.requires.level c.requires.head in
    let e = c.requires.queue.chains.len in
    let l = c.args.self.now.next.ok in
    omega arith

pub index_mut-requires-2 : goal.index_mut-requires-2
index_mut-requires-2 c =
    let h = head-inside c.args.self.now.heads.items c.args.self.now.next.items c.args.self.now.levels.items c.args.self.now.floor c.args.n c.args.level c.requires.queue.chains c.requires.level c.requires.head in
    let l = c.args.self.now.levels.ok in
    omega arith

pub returns-clause-queue : goal.returns-clause-queue
returns-clause-queue c =
    let h = head-inside c.args.self.now.heads.items c.args.self.now.next.items c.args.self.now.levels.items c.args.self.now.floor c.args.n c.args.level c.requires.queue.chains c.requires.level c.requires.head in
    let long = c.requires.queue.chains.len in
    let inside : c.args.n < length c.args.self.now.next.items = omega arith in
    let e : c.index.result.now ≡ at c.args.self.now.next.items c.args.n = get_or-is c.args.self.now.next.items c.args.n c.index.result.now None inside c.index.ensures in
    let off = waiting-off c.args.self.now.levels.items c.args.n c.args.level h (head-waits c.args.self.now.heads.items c.args.self.now.next.items c.args.self.now.levels.items c.args.self.now.floor c.args.n c.args.level c.requires.queue.chains c.requires.level c.requires.head) in
    let count = c.requires.queue.count in
    record {
      chains = subst (λ z. AreChains (set c.args.self.now.heads.items c.args.level z) c.args.self.now.next.items (set c.args.self.now.levels.items c.args.n None) c.args.self.now.floor) (sym e) (take-chains c.args.self.now.heads.items c.args.self.now.next.items c.args.self.now.levels.items c.args.self.now.floor c.args.n c.args.level c.requires.queue.chains c.requires.level c.requires.head);
      count = omega arith;
    }

pub overflow_sub-self : goal.overflow_sub-self
overflow_sub-self c =
    let h = head-inside c.args.self.now.heads.items c.args.self.now.next.items c.args.self.now.levels.items c.args.self.now.floor c.args.n c.args.level c.requires.queue.chains c.requires.level c.requires.head in
    let off = waiting-off c.args.self.now.levels.items c.args.n c.args.level h (head-waits c.args.self.now.heads.items c.args.self.now.next.items c.args.self.now.levels.items c.args.self.now.floor c.args.n c.args.level c.requires.queue.chains c.requires.level c.requires.head) in
    let count = c.requires.queue.count in
    omega arith
