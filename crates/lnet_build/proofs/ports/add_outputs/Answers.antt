use Rattle.std.proofs.Common.{ap, ◌∙◌, arith}
use Rattle.lnet_store.specs.StoreValues.{with_new_output}
use Rattle.lnet_build.proofs.StandLemmas.{output-next, output-count, outputs-next}
use Rattle.lnet_hashed.proofs.KeptViews.{bare_told}
use Rattle.lnet_build.proofs.ports.add_outputs.Goals as goal

pub loop-port-preserved : goal.loop-port-preserved
loop-port-preserved g c =
    let is = c.in_ok-output.ensures.added.network ∙ ap (with_new_output c.loop-port.net.core.network) c.signal_of.ensures in
    record {
      few = (let n = output-count c.loop-port.net.core.network c.output.new.self.core.network _ is in let old = c.loop-port.invariant.few in let low = c.loop-port-test.true in omega arith);
      live = output-next c.loop-port.net.core.network c.output.new.self.core.network c.args.signals.now _ is c.loop-port.invariant.live;
      none = bare_told c.output.ensures.in_step c.loop-port.invariant.none;
      so_far = outputs-next c.args.signals.now c.args.ports.now c.loop-port.port-index c.port-item.result c.loop-port-test.true c.port-item.is c.loop-port.net.core.network c.output.new.self.core.network _ is c.loop-port.invariant.so_far;
    }
