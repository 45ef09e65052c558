use Rattle.std.proofs.Common.{rules}
use Rattle.lnet_tables.proofs.Ops.{mask_fields}
use Rattle.lnet_tables.proofs.table.Table.from_words.Goals as goal

pub invariant_of-result : goal.invariant_of-result
invariant_of-result c =
    (mask_fields c.args.vars c.args.words c.ones.result c.requires (search rules) (search rules) (λ k. search rules) c.ones.ensures).0

pub returns : goal.returns
returns c =
    (mask_fields c.args.vars c.args.words c.ones.result c.requires (search rules) (search rules) (λ k. search rules) c.ones.ensures).1
