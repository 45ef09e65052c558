use Rattle.std.proofs.Common.{subst, ◌++◌, take, false}
use Rattle.lnet_benchwriter.specs.Kept.{KnowsTurned}
use Rattle.lnet_benchwriter.proofs.Uses.{pushed}
use Rattle.lnet_benchwriter.proofs.complements.note_operands.Goals as goal

pub loop-operand-preserved : goal.loop-operand-preserved
loop-operand-preserved c = λ uses knows. subst (KnowsTurned c.note_use.new.turned) (pushed uses c.args.operands.now c.loop-operand.operand-index (record { wire = record { 0 = 0 }; complement = false }) c.loop-operand-test.true) (c.in_ok-note_use.ensures (uses ++ take c.loop-operand.operand-index c.args.operands.now) (c.loop-operand.invariant uses knows))
