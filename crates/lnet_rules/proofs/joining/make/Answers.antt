use Rattle.lnet_rules.proofs.JoinLemmas.{answer-made, answer-live, answer-keeps}
use Rattle.lnet_rules.proofs.joining.make.Goals as goal

pub returns-clause-made : goal.returns-clause-made
returns-clause-made g c = answer-made g.G.Gates.KIND c.args.net.now.core.network c.args.op c.args.operands.now c.gate.new.self.core.network c.gate.result c.gate.ensures.made

pub returns-clause-live : goal.returns-clause-live
returns-clause-live g c = answer-live g.G.Gates.KIND c.args.net.now.core.network c.args.op c.args.operands.now c.gate.new.self.core.network c.gate.result c.gate.ensures.made

pub returns-clause-keeps : goal.returns-clause-keeps
returns-clause-keeps g c = answer-keeps g.G.Gates.KIND c.args.net.now.core.network c.args.op c.args.operands.now c.gate.new.self.core.network c.gate.result c.gate.ensures.made
