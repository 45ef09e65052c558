use Rattle.std.proofs.Common.{◌<◌, ◌^◌, Bool, get_or, sym, ap, ◌∙◌}
use Rattle.lnet_tables.specs.Bits.{is_set}
use Rattle.lnet_tables.proofs.Ops.{set_not}
use Rattle.lnet_gates.specs.Gates.{flip}
use Rattle.lnet_simulate.proofs.gates.signal_word.Goals as goal

pub returns-then-s : goal.returns-then-s
returns-then-s c = λ j lt.
    let fits : get_or c.args.words.now c.args.s.node.0 0 < 2 ^ 64 = (c.type_inv.words c.args.s.node.0).fits in
    set_not (get_or c.args.words.now c.args.s.node.0 0) j fits lt ∙ ap (λ (b : Bool). flip b (is_set (get_or c.args.words.now c.args.s.node.0 0) j)) (sym c.if-s.true)
