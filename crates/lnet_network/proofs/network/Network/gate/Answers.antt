use Rattle.lnet_network.proofs.Uses.{answer-made}
use Rattle.lnet_network.proofs.network.Network.gate.Goals as goal

pub returns-clause-made : goal.returns-clause-made
returns-clause-made g c =
    answer-made g.G.Gates.KIND c.args.self.now.core.network c.args.op c.args.operands.now c.requires.arity c.word_fits.ensures
    c.live_count-before.ensures.stored c.requires.live c.make-answer.new.self.core.network c.make-answer.result c.live_count-after.ensures.limit c.make-answer.ensures.made
