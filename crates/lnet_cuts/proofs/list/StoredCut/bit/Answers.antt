use Rattle.std.proofs.Common.{◌∙◌, get_or, ◌/◌, ◌%◌}
use Rattle.lnet_tables.specs.Words.{word_bit}
use Rattle.lnet_tables.proofs.Constants.{test_bit}
use Rattle.lnet_cuts.proofs.KeptCuts.{bit-stored}
use Rattle.lnet_cuts.proofs.list.StoredCut.bit.Goals as goal

pub returns : goal.returns
unfolding word_bit
returns c = test_bit (get_or c.self.inside.table (c.args.row / 64) 0) (c.args.row % 64)
    ∙ bit-stored c.self.inside.leaves.items c.self.inside.table c.args.self.now c.args.row c.self.view_is c.requires.row
