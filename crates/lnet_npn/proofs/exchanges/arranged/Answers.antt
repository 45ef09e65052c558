use Rattle.std.proofs.Common.{◌∙◌, ap, arith}
use Rattle.lnet_tables.specs.Bits.{is_set}
use Rattle.lnet_npn.proofs.exchanges.arranged.Goals as goal

pub returns : goal.returns
returns c = λ x lt.
    let two = (c.requires.exchange 2 _ (omega arith)).inside x lt in
    let one = (c.requires.exchange 1 _ (omega arith)).inside _ two in
    c.exchanged.ensures x lt ∙ c.exchanged-second.ensures _ two ∙ c.exchanged-first.ensures _ one ∙ ap (is_set c.args.word) (c.requires.rows x _ lt)
