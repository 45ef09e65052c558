use Rattle.lnet_kept.specs.Kept.{IsKeptOutput}
use Rattle.lnet_kept.proofs.Taken.{take_more, all_taken}
use Rattle.lnet_kept.proofs.keeping.keep_outputs.Goals as goal

pub loop-port-init : goal.loop-port-init
loop-port-init c = tt

pub loop-port-preserved : goal.loop-port-preserved
loop-port-preserved c = take_more IsKeptOutput c.args.ports.now c.loop-port.port-index c.port-item.result c.loop-port-test.true c.port-item.is c.keep_output.ensures c.loop-port.invariant

pub returns : goal.returns
returns c = all_taken IsKeptOutput c.args.ports.now c.loop-port.port-index c.loop-port-test.false c.loop-port.invariant
