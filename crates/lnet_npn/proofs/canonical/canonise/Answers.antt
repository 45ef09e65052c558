use Rattle.lnet_npn.proofs.Ranked.{way_back, least_table, first_table}
use Rattle.lnet_npn.proofs.Classes.{least_shared}
use Rattle.lnet_npn.proofs.canonical.canonise.Goals as goal

pub first_back-requires : goal.first_back-requires
first_back-requires c = way_back _ _ c.word_of-word.type_inv c.least_image-least.ensures.made

pub returns-clause-least : goal.returns-clause-least
returns-clause-least c = least_table _ _ _ _ c.least_image-least.type_inv c.word_of-word.ensures.value c.table_of.ensures c.least_image-least.ensures.made c.least_image-least.ensures.least

pub returns-clause-back : goal.returns-clause-back
returns-clause-back c =
    first_table _ _ _ _ _ c.least_image-least.type_inv c.word_of-word.ensures.value (c.word_of-word.ensures.table c.requires) c.table_of.ensures
    c.first_back.ensures.lawful c.first_back.ensures.back c.first_back.ensures.first

pub returns-clause-class : goal.returns-clause-class
returns-clause-class c = least_shared _ _ _ (c.word_of-word.ensures.table c.requires) (returns-clause-least c)
