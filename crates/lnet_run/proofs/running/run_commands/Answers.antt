use Rattle.std.proofs.Common.{◌+◌, true, false, arith}
use Rattle.lnet_session.specs.declared.stepping.StepEnd.TheVariants as ends
use Rattle.lnet_session.specs.Sessions.{state_of}
use Rattle.lnet_session.specs.Steps.{World, world_of}
use Rattle.lnet_run.proofs.Chain.{ran_nothing, ran_next, ran_all, stopped_at, after_fault, after_memory, met_is, unmet_is, with_met, with_unmet}
use Rattle.lnet_run.proofs.running.run_commands.Goals as goal
use Rattle.lnet_run.proofs.running.run_commands.Goals.{in-Met, in-Unmet}

pub loop-index-init : goal.loop-index-init
loop-index-init g c = record {
  runs = ran_nothing (world_of g.F.Files g.S.Sink (state_of (λ b. goal.View-dyn g (b.vtable, b.value)) c.args.session.now) c.args.files.now c.args.out.now);
  good = c.requires.good;
  next = omega arith;
}

pub loop-index-preserved : goal.loop-index-preserved
loop-index-preserved g c = record {
  runs = λ start.
      let old : World = world_of g.F.Files g.S.Sink (state_of (λ b. goal.View-dyn g (b.vtable, b.value)) c.args.session.now) c.args.files.now c.args.out.now in
      let mid : World = world_of g.F.Files g.S.Sink (state_of (λ b. goal.View-dyn g (b.vtable, b.value)) c.loop-index.session) c.loop-index.files c.loop-index.out in
      let new : World = world_of g.F.Files g.S.Sink (state_of (λ b. goal.View-dyn g (b.vtable, b.value)) c.step.new.self) c.step.new.files c.step.new.out in
      elim c.match-step.branch [
        | in-Met w ↦ ran_next c.args.commands.now c.loop-index.index c.index-commands-index.result ends.Met c.loop-index.unmet c.match-step.unmet false start old mid new c.loop-index-test.true c.index-commands-index.is (c.loop-index.invariant.runs start) w.in-Met.ensures.step met_is (with_met c.loop-index.unmet c.match-step.unmet w.unmet-is)
        | in-Unmet w ↦ ran_next c.args.commands.now c.loop-index.index c.index-commands-index.result (ends.Unmet w.in-Unmet.field-0) c.loop-index.unmet c.match-step.unmet true start old mid new c.loop-index-test.true c.index-commands-index.is (c.loop-index.invariant.runs start) w.in-Unmet.ensures.step (unmet_is w.in-Unmet.field-0) (with_unmet c.loop-index.unmet c.match-step.unmet w.unmet-is)
      ];
  good = c.step.ensures.good;
  next = (let before = c.loop-index.invariant.next in let more = c.step.ensures.numbers in omega arith);
}

pub returns-in-Fault-clause-runs : goal.returns-in-Fault-clause-runs
returns-in-Fault-clause-runs g c = λ start.
    let old : World = world_of g.F.Files g.S.Sink (state_of (λ b. goal.View-dyn g (b.vtable, b.value)) c.args.session.now) c.args.files.now c.args.out.now in
    let mid : World = world_of g.F.Files g.S.Sink (state_of (λ b. goal.View-dyn g (b.vtable, b.value)) c.loop-index.session) c.loop-index.files c.loop-index.out in
    let new : World = world_of g.F.Files g.S.Sink (state_of (λ b. goal.View-dyn g (b.vtable, b.value)) c.step.new.self) c.step.new.files c.step.new.out in
    stopped_at c.args.commands.now c.loop-index.index c.index-commands-index.result ends.Fault c.loop-index.unmet start old mid new c.loop-index-test.true c.index-commands-index.is (c.loop-index.invariant.runs start) c.in-Fault.ensures.step (λ origin. after_fault c.index-commands-index.result (c.loop-index.index + 1) mid new origin c.in-Fault.ensures.step)

pub returns-in-NoMemory-clause-runs : goal.returns-in-NoMemory-clause-runs
returns-in-NoMemory-clause-runs g c = λ start.
    let old : World = world_of g.F.Files g.S.Sink (state_of (λ b. goal.View-dyn g (b.vtable, b.value)) c.args.session.now) c.args.files.now c.args.out.now in
    let mid : World = world_of g.F.Files g.S.Sink (state_of (λ b. goal.View-dyn g (b.vtable, b.value)) c.loop-index.session) c.loop-index.files c.loop-index.out in
    let new : World = world_of g.F.Files g.S.Sink (state_of (λ b. goal.View-dyn g (b.vtable, b.value)) c.step.new.self) c.step.new.files c.step.new.out in
    stopped_at c.args.commands.now c.loop-index.index c.index-commands-index.result ends.NoMemory c.loop-index.unmet start old mid new c.loop-index-test.true c.index-commands-index.is (c.loop-index.invariant.runs start) c.in-NoMemory.ensures.step (λ origin. after_memory c.index-commands-index.result (c.loop-index.index + 1) mid new origin c.in-NoMemory.ensures.step)

pub returns-then-unmet-clause-runs : goal.returns-then-unmet-clause-runs
returns-then-unmet-clause-runs g c = λ start. ran_all c.args.commands.now c.loop-index.index c.loop-index.unmet true start _ _ c.loop-index-test.false c.if-unmet.true (c.loop-index.invariant.runs start)

pub returns-else-unmet-clause-runs : goal.returns-else-unmet-clause-runs
returns-else-unmet-clause-runs g c = λ start. ran_all c.args.commands.now c.loop-index.index c.loop-index.unmet false start _ _ c.loop-index-test.false c.if-unmet.false (c.loop-index.invariant.runs start)
