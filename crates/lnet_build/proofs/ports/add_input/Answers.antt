use Rattle.lnet_build.proofs.StandLemmas.{entered-count, entered-live}
use Rattle.lnet_build.proofs.ports.add_input.Goals as goal

pub returns-in-Ok-clause-count : goal.returns-in-Ok-clause-count
returns-in-Ok-clause-count g c = entered-count c.args.net.now.core.network c.input.new.self.core.network c.in_ok-signal.ensures.entered.network

pub returns-in-Ok-clause-live : goal.returns-in-Ok-clause-live
returns-in-Ok-clause-live g c = entered-live c.args.net.now.core.network c.input.new.self.core.network c.args.signals.now c.insert.new.self c.args.port.now.wire.0 c.in_ok-signal.signal c.in_ok-signal.ensures.entered.network c.in_ok-signal.ensures.entered.signal c.requires.live c.in-Ok.ensures.updates
