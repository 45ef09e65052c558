use Rattle.std.proofs.Common.{◌≡◌, sym, ◌∙◌, refl, arith, true, false}
use Rattle.lnet_simulate.proofs.FaninLemmas.{listed-below}
use Rattle.lnet_simulate.proofs.ValueLemmas.{word-of-gate, word-of-other}
use Rattle.lnet_simulate.proofs.passing.node_word.Goals as goal

pub gate_word-requires-clause-inside : goal.gate_word-requires-clause-inside
gate_word-requires-clause-inside g c = λ k d low.
    let below = listed-below c.args.net.now.core.network c.args.n.0 c.in-Some.gate.now c.in-Some.gate.now.fanins k d c.live_count-live.ensures.stored (sym c.in-Some.ensures) refl low in
    let sized = c.requires.sized in
    omega arith

pub returns-in-Some : goal.returns-in-Some
returns-in-Some g c = word-of-gate c.args.net.now.core.network c.args.words.now c.args.n.0 c.gate_word.result c.in-Some.gate.now c.live_count-live.ensures.stored.dag.acyclic (sym c.in-Some.ensures) c.gate_word.ensures

pub returns-else-is_input : goal.returns-else-is_input
returns-else-is_input g c =
    word-of-other c.args.net.now.core.network c.args.words.now c.args.n.0 c.live_count-live.ensures.stored.dag.acyclic (sym c.in-None.ensures)
    (λ k is. let z : false ≡ true = sym c.if-is_input.false ∙ c.is_input.ensures.1 (k, is) in cc)
