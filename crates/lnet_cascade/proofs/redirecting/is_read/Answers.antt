use Rattle.std.proofs.Common.{inl, inr, refl, false}
use Rattle.lnet_cascade.proofs.ReadSignals.{read-more, read-at}
use Rattle.lnet_cascade.proofs.redirecting.is_read.Goals as goal

pub returns-then-signal-node : goal.returns-then-signal-node
returns-then-signal-node c = (λ _. read-at c.args.node.0 c.args.signals.now c.loop-signal.signal-index _ c.loop-signal-test.true c.if-signal-node.true, λ _. refl)

pub loop-signal-preserved : goal.loop-signal-preserved
loop-signal-preserved c h =
    elim (read-more c.args.node.0 c.args.signals.now c.loop-signal.signal-index (record { node = record { 0 = 0 }; complement = false }) c.loop-signal-test.true h) as (λ _. ⊥) [
      | inl old ↦ c.loop-signal.invariant old
      | inr e ↦ c.if-signal-node.false e
    ]
