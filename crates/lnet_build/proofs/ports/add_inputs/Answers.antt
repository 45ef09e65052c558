use Rattle.std.proofs.Common.{sym, subst, arith}
use Rattle.lnet_build.specs.Signals.{Stand}
use Rattle.lnet_build.proofs.StandLemmas.{ports-next, ports-end}
use Rattle.lnet_build.specs.Built.{with_port}
use Rattle.lnet_build.proofs.ports.add_inputs.Goals as goal

pub loop-port-preserved : goal.loop-port-preserved
loop-port-preserved g c = record {
  few = (let n = c.in_ok-add_input.ensures.count in let old = c.loop-port.invariant.few in let low = c.loop-port-test.true in omega arith);
  live = c.in_ok-add_input.ensures.live;
  none = c.add_input.ensures.none;
  reached = λ b h.
      let r = c.loop-port.invariant.reached b h in
      (with_port r.0 c.port-item.result, c.in_ok-add_input.ensures.built r.0 r.1, ports-next c.args.ports.now c.loop-port.port-index c.port-item.result c.loop-port-test.true c.port-item.is r.0 _ r.2);
}

pub returns-clause-built : goal.returns-clause-built
returns-clause-built g c b h =
    let r = c.loop-port.invariant.reached b h in
    subst (Stand c.loop-port.net.core.network c.loop-port.signals) (sym (ports-end c.args.ports.now c.loop-port.port-index c.loop-port-test.false r.0 _ r.2)) r.1
