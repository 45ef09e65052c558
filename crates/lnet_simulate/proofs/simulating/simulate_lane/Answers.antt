use Rattle.std.proofs.Common.{◌∙◌}
use Rattle.lnet_simulate.proofs.OutputLemmas.{if-ok, outputs-lane}
use Rattle.lnet_simulate.proofs.simulating.simulate_lane.Goals as goal

pub returns : goal.returns
returns g c =
    let N = c.args.net.now.core.network in
    if-ok c.output_bits.result _ _ (λ values is. is ∙ outputs-lane N c.args.inputs.now c.pass.new.words c.args.order.now c.pass.ensures.right c.requires.outputs) c.output_bits.ensures
