use Rattle.std.proofs.Common.{◌≡◌, ◌^◌, ℕ, length, nat_lt, ap, ◌∙◌, arith}
use Rattle.lnet_simulate.proofs.CompareLemmas.{differ-lane}
use Rattle.lnet_simulate.proofs.comparing.differing_lanes.Goals as goal

pub returns-clause-lanes : goal.returns-clause-lanes
returns-clause-lanes g c = λ j lt.
    let N = c.args.net.now.core.network in
    let sized : length c.set_block.new.inputs ≡ length N.inputs = c.set_block.ensures.length ∙ c.requires.space.inputs in
    differ-lane N c.set_block.new.inputs c.pass.new.words c.args.n.0 c.args.s c.args.block j c.used_lanes.result c.signal_word.result c.live_count-live.ensures.stored sized lt
    (λ i k low within. c.set_block.ensures.lanes i k (let e = c.set_block.ensures.length in omega arith) within)
    (c.pass.ensures.right c.args.n.0 c.requires.cone.node) (c.pass.ensures.right c.args.s.node.0 c.requires.cone.signal) (c.signal_word.ensures j lt)
    (c.used_lanes.ensures j lt ∙ ap (λ (k : ℕ). nat_lt j (2 ^ k)) c.input_count.ensures)
