use Rattle.std.proofs.Common.{subst, ◌++◌, take}
use Rattle.lnet_benchwriter.specs.Nodes.{output_uses}
use Rattle.lnet_benchwriter.specs.Kept.{KnowsTurned}
use Rattle.lnet_benchwriter.proofs.Uses.{pushed_output}
use Rattle.lnet_benchwriter.proofs.complements.note_outputs.Goals as goal

pub loop-port-preserved : goal.loop-port-preserved
loop-port-preserved c = λ uses knows. subst (KnowsTurned c.note_use.new.turned) (pushed_output uses c.args.ports.now c.loop-port.port-index c.port-item.result c.loop-port-test.true c.port-item.is) (c.in_ok-note_use.ensures (uses ++ output_uses (take c.loop-port.port-index c.args.ports.now)) (c.loop-port.invariant uses knows))
