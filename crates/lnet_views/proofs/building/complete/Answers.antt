use Rattle.std.proofs.Common.{ap, sym, subst, ◌∙◌, ◌+◌, ◌*◌, ◌<◌, IsSome, None, get_or}
use Rattle.lnet_model.specs.Networks.{live_count}
use Rattle.lnet_model.specs.Levels.{level}
use Rattle.lnet_views.specs.Building.{undone, AreTodo}
use Rattle.lnet_views.proofs.FromScratch.{pushed-live, pushed-lowest, pushed-falls, pushed-todo, pushed-smaller, popped-live, popped-none, popped-lowest, popped-falls, popped-todo, popped-smaller, some-kept}
use Rattle.lnet_views.proofs.building.complete.Goals as goal

pub steps-smaller-in-Some : goal.steps-smaller-in-Some
steps-smaller-in-Some g c =
    let step = c.in-Some.ensures.step in
    subst (λ z. undone z * (live_count c.args.store.now.network + 1) + level c.args.store.now.network c.in-Some.fanin.0 < undone c.steps.kept.levels.items * (live_count c.args.store.now.network + 1) + level c.args.store.now.network c.steps.at.0) (sym step.0)
    (pushed-smaller c.args.store.now.network c.steps.kept.levels.items c.steps.at c.in-Some.fanin c.steps.stack.items c.push.new.self.items c.in_ok-push-in-Some.ensures.items c.requires.stored.dag.acyclic c.requires.stored.dag.closed step.1 (undone c.steps.kept.levels.items))

pub steps-preserved-in-Some : goal.steps-preserved-in-Some
steps-preserved-in-Some g c =
    let step = c.in-Some.ensures.step in
    record {
      building = c.in-Some.ensures.building;
      len = c.in-Some.ensures.len ∙ c.steps.invariant.len;
      queue = c.in-Some.ensures.queue ∙ c.steps.invariant.queue;
      grows = λ q h. subst (λ z. IsSome (get_or z q None)) (sym step.0) (c.steps.invariant.grows q h);
      live = pushed-live c.args.store.now.network c.steps.kept.levels.items c.steps.at c.in-Some.fanin c.steps.stack.items c.push.new.self.items c.in_ok-push-in-Some.ensures.items c.requires.stored.dag.acyclic c.requires.stored.dag.closed step.1;
      todo = ap (λ z. get_or z c.in-Some.fanin.0 None) step.0 ∙ step.2;
      lowest = pushed-lowest c.args.store.now.network c.steps.kept.levels.items c.steps.at c.in-Some.fanin c.steps.stack.items c.push.new.self.items c.in_ok-push-in-Some.ensures.items c.requires.stored.dag.acyclic c.requires.stored.dag.closed step.1 ∙ c.steps.invariant.lowest;
      falls = pushed-falls c.args.store.now.network c.steps.kept.levels.items c.steps.at c.in-Some.fanin c.steps.stack.items c.push.new.self.items c.in_ok-push-in-Some.ensures.items c.requires.stored.dag.acyclic c.requires.stored.dag.closed step.1 c.steps.invariant.falls;
      rest = subst (λ z. AreTodo c.args.store.now.network z c.push.new.self.items) (sym step.0) (pushed-todo c.args.store.now.network c.steps.kept.levels.items c.steps.at c.in-Some.fanin c.steps.stack.items c.push.new.self.items c.in_ok-push-in-Some.ensures.items c.requires.stored.dag.acyclic c.requires.stored.dag.closed step.1 c.steps.invariant.live c.steps.invariant.todo c.steps.invariant.rest);
    }

pub steps-smaller : goal.steps-smaller
steps-smaller g c = popped-smaller c.args.store.now.network c.steps.at.0 c.in-Some-pop.below.0 (undone c.visit.new.kept.levels.items) (undone c.steps.kept.levels.items) c.in-None.ensures.step.1

pub steps-preserved : goal.steps-preserved
steps-preserved g c =
    record {
      building = c.in-None.ensures.building;
      len = c.in-None.ensures.len ∙ c.steps.invariant.len;
      queue = c.in-None.ensures.queue ∙ c.steps.invariant.queue;
      grows = λ q h. some-kept c.steps.kept.levels.items c.visit.new.kept.levels.items c.steps.at.0 c.in-None.ensures.same c.in-None.ensures.step.0 q (c.steps.invariant.grows q h);
      live = popped-live c.args.store.now.network c.steps.kept.levels.items c.visit.new.kept.levels.items c.steps.at c.in-Some-pop.below c.pop.new.self.items c.steps.stack.items c.in-Some-pop.ensures.items c.steps.invariant.falls c.steps.invariant.rest c.in-None.ensures.same;
      todo = popped-none c.args.store.now.network c.steps.kept.levels.items c.visit.new.kept.levels.items c.steps.at c.in-Some-pop.below c.pop.new.self.items c.steps.stack.items c.in-Some-pop.ensures.items c.steps.invariant.falls c.steps.invariant.rest c.in-None.ensures.same;
      lowest = popped-lowest c.args.store.now.network c.steps.kept.levels.items c.visit.new.kept.levels.items c.steps.at c.in-Some-pop.below c.pop.new.self.items c.steps.stack.items c.in-Some-pop.ensures.items c.steps.invariant.falls c.steps.invariant.rest c.in-None.ensures.same ∙ c.steps.invariant.lowest;
      falls = popped-falls c.args.store.now.network c.steps.kept.levels.items c.visit.new.kept.levels.items c.steps.at c.in-Some-pop.below c.pop.new.self.items c.steps.stack.items c.in-Some-pop.ensures.items c.steps.invariant.falls c.steps.invariant.rest c.in-None.ensures.same;
      rest = popped-todo c.args.store.now.network c.steps.kept.levels.items c.visit.new.kept.levels.items c.steps.at c.in-Some-pop.below c.pop.new.self.items c.steps.stack.items c.in-Some-pop.ensures.items c.steps.invariant.falls c.steps.invariant.rest c.in-None.ensures.same;
    }
