use Rattle.std.proofs.Common.{◌+◌, ◌≤◌, take, Option}
use Rattle.lnet_edge.specs.Circuits.{CircuitValue}
use Rattle.lnet_session.specs.Sessions.{IsGood, state_of}
use Rattle.lnet_run.proofs.Chain.{RanSomehow}
use Rattle.lnet_session.specs.Steps.{world_of}
use Rattle.lnet_run.proofs.running.run_commands.Given as goal

abbrev pub invariant-loop-index : goal.invariant-loop-index
invariant-loop-index g l = record {
  runs : (start : Option CircuitValue) → RanSomehow (take l.index l.commands) l.unmet start
      (world_of g.F.Files g.S.Sink (state_of (λ b. goal.View-dyn g (b.vtable, b.value)) l.initial.session) l.initial.files l.initial.out)
      (world_of g.F.Files g.S.Sink (state_of (λ b. goal.View-dyn g (b.vtable, b.value)) l.session) l.files l.out);
  good : IsGood (λ b. goal.View-dyn g (b.vtable, b.value)) l.session;
  next : (state_of (λ b. goal.View-dyn g (b.vtable, b.value)) l.session).roll.next ≤ (state_of (λ b. goal.View-dyn g (b.vtable, b.value)) l.initial.session).roll.next + l.index;
}
