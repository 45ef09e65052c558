use Rattle.std.proofs.Common.{◌≡◌, length, get_or, ◌∙◌, length-set}
use Rattle.lnet_gates.specs.declared.signal.Node.{Node}
use Rattle.lnet_simulate.proofs.ValueLemmas.{pass-more}
use Rattle.lnet_simulate.proofs.passing.pass.Goals as goal

abbrev zero_node : Node
zero_node = record { 0 = 0 }

pub loop-n-preserved : goal.loop-n-preserved
loop-n-preserved g c =
    let sized : length c.loop-n.words ≡ length c.args.words.now = c.loop-n.invariant.sized in
    let more = pass-more c.args.net.now.core.network c.args.inputs.now c.loop-n.words c.args.order.now c.loop-n.n-index c.node_word.result zero_node (sized ∙ c.requires.sized) c.requires.order c.loop-n-test.true c.loop-n.invariant.inputs c.loop-n.invariant.right c.node_word.ensures in
    record { sized = length-set c.loop-n.words (get_or c.args.order.now c.loop-n.n-index zero_node).0 c.node_word.result ∙ sized; inputs = more.0; right = more.1 }
