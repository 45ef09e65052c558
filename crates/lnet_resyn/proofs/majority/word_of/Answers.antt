use Rattle.std.proofs.Common.{refl}
use Rattle.lnet_resyn.proofs.Columns.{first-word}
use Rattle.lnet_resyn.proofs.majority.word_of.Goals as goal

pub returns : goal.returns
returns c = first-word c.args.table.now.vars c.args.table.now c.words.result c.requires refl c.words.ensures.table
