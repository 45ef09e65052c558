use Rattle.std.proofs.Common.{◌∙◌, ap}
use Rattle.lnet_tables.specs.Bits.{is_set}
use Rattle.lnet_npn.proofs.Arrangements.{flip_at}
use Rattle.lnet_npn.proofs.exchanges.flipped.Goals as goal

pub exchanged-requires : goal.exchanged-requires
exchanged-requires c = (flip_at c.args.variable _ c.requires).lawful

pub returns : goal.returns
returns c = λ x lt. c.exchanged.ensures x lt ∙ ap (is_set c.args.word) ((flip_at c.args.variable _ c.requires).rows x lt)
