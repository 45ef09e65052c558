use Rattle.lnet_tables.proofs.Rowwise.{set_here, set_others}
use Rattle.lnet_tables.proofs.rows.set_row.Goals as goal

pub returns-clause-here : goal.returns-clause-here
returns-clause-here c = set_here c.args.words.now c.args.row c.told-words c.requires

pub returns-clause-others : goal.returns-clause-others
returns-clause-others c = set_others c.args.words.now c.args.row c.told-words c.requires
