use Rattle.std.proofs.Common.{arith, ap, ◌∙◌, ◌≢◌, length}
use Rattle.lnet_views.specs.declared.queue.Queue.{Queue}
use Rattle.lnet_views.specs.Keeping.{level_or}
use Rattle.lnet_model.proofs.Levels.{level-falls}
use Rattle.lnet_model.specs.Levels.{level}
use Rattle.lnet_views.proofs.Links.{inside-list}
use Rattle.lnet_views.proofs.Queueing.{lowest-next}
use Rattle.lnet_views.proofs.Renewal.{renewed-settled}
use Rattle.lnet_views.proofs.repairing.advance.Goals as goal

pub mark_parents-requires-clause-wide : goal.mark_parents-requires-clause-wide
mark_parents-requires-clause-wide g c p i =
    let f = level-falls c.args.look.now.network c.requires.dag.acyclic p c.in-Some.next i in
    let ne : p ≢ c.in-Some.next = λ e. (let z = ap (level c.args.look.now.network) e in omega arith) in
    let heads = ap (λ (q : Queue). length q.heads.items) c.renew.ensures.queue ∙ c.take.ensures.heads in
    let same = ap level_or (c.renew.ensures.levels p ne) in
    let w = c.requires.wide p in
    omega arith

pub mark_parents-requires-clause-high : goal.mark_parents-requires-clause-high
mark_parents-requires-clause-high g c p i =
    let f = level-falls c.args.look.now.network c.requires.dag.acyclic p c.in-Some.next i in
    let ne : p ≢ c.in-Some.next = λ e. (let z = ap (level c.args.look.now.network) e in omega arith) in
    let floor = ap (λ (q : Queue). q.floor) c.renew.ensures.queue in
    let tied = c.requires.tied c.in-Some.next c.take.new.self.floor c.in-Some.ensures.floor in
    let same = ap level_or (c.renew.ensures.levels p ne) in
    let up = c.requires.rises c.in-Some.next p (lowest-next c.args.kept.now.levels.items c.args.kept.now.queue.levels.items c.in-Some.next c.requires.tied c.in-Some.ensures.taken) i in
    omega arith

pub returns-else-renew-clause-settled : goal.returns-else-renew-clause-settled
returns-else-renew-clause-settled g c =
    let inside = inside-list c.args.kept.now.queue.levels.items c.in-Some.next c.take.new.self.floor c.in-Some.ensures.floor in
    renewed-settled g.R.Value.PartialEq.eq (g.R.Rule.first_of c.args.rule.now 0) _ c.args.look.now.network c.in-Some.next _ _ c.args.kept.now.queue.levels.items c.renew.new.kept.queue.levels.items c.mark_parents.new.queue.levels.items c.renew.result c.requires.dag.acyclic inside c.renew.ensures.each c.renew.ensures.is c.renew.ensures.same (ap (λ (q : Queue). q.levels.items) c.renew.ensures.queue ∙ c.in-Some.ensures.levels) c.mark_parents.ensures.kept (λ f. c.mark_parents.ensures.parents) c.mark_parents.ensures.only
