use Rattle.std.proofs.Common.{arith, refl, sym, ◌∙◌, ap, subst, length, ◌<◌, ◌≤◌}
use Rattle.lnet_views.specs.Keeping.{height}
use Rattle.lnet_views.proofs.Marking.{marking-start, marking-parent, marking-inside, marking-step, marking-end}
use Rattle.lnet_views.proofs.Parents.{each-parent, all-parents}
use Rattle.lnet_views.proofs.repairing.mark_parents.Goals as goal

pub steps-init : goal.steps-init
steps-init c = record {
  marking = marking-start _ _ _ _ (each-parent c.args.look.now.network c.args.n.0 c.parents-parents.result.rest c.parents-parents.ensures.each) (all-parents c.args.look.now.network c.args.n.0 c.parents-parents.result.rest c.parents-parents.ensures.all);
  queue = c.requires.queue;
  tied = c.requires.tied;
  heads = refl;
  floor = refl;
  own = c.parents-parents.ensures.stamp;
  stamp = refl;
  more = let e = c.parents-parents.ensures.len in omega arith;
  count = let e = c.parents-parents.ensures.len in omega arith;
}

pub let_wait-requires : goal.let_wait-requires
let_wait-requires c =
    let parent = marking-parent _ _ _ _ _ _ _ c.in-Some.ensures.given c.steps.invariant.marking in
    record {
      queue = c.steps.invariant.queue;
      number = marking-inside _ _ _ _ _ _ _ c.requires.room c.in-Some.ensures.given c.steps.invariant.marking;
      wide = subst (λ z. height c.args.levels.now.items c.in-Some.parent.0 < z) (sym c.steps.invariant.heads) (c.requires.wide c.in-Some.parent.0 parent);
      high = subst (λ z. z ≤ height c.args.levels.now.items c.in-Some.parent.0) (sym c.steps.invariant.floor) (c.requires.high c.in-Some.parent.0 parent);
      tied = c.steps.invariant.tied;
    }

pub steps-smaller : goal.steps-smaller
steps-smaller c = let e = ap length c.in-Some.ensures.given in omega arith

pub steps-preserved : goal.steps-preserved
steps-preserved c = record {
  marking = marking-step _ _ _ _ _ _ _ _ c.let_wait.ensures.len c.let_wait.ensures.here c.let_wait.ensures.others c.in-Some.ensures.given c.steps.invariant.marking;
  queue = c.let_wait.ensures.queue;
  tied = c.let_wait.ensures.tied;
  heads = c.let_wait.ensures.heads ∙ c.steps.invariant.heads;
  floor = c.let_wait.ensures.floor ∙ c.steps.invariant.floor;
  own = c.in-Some.ensures.same ∙ c.steps.invariant.own;
  stamp = c.in-Some.ensures.stamp ∙ c.steps.invariant.stamp;
  more = let e = ap length c.in-Some.ensures.given in let w = c.let_wait.ensures.count in let k = c.steps.invariant.more in omega arith;
  count = let e = ap length c.in-Some.ensures.given in let w = c.let_wait.ensures.count in let k = c.steps.invariant.count in let v = c.in-Some.ensures.count in omega arith;
}

pub returns-in-None-clause-parents : goal.returns-in-None-clause-parents
returns-in-None-clause-parents c = marking-end _ _ _ _ _ c.in-None.ensures.given c.steps.invariant.marking
