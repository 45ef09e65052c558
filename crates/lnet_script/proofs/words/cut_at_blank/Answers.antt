use Rattle.lnet_script.specs.Pieces.{is_blank}
use Rattle.lnet_words.proofs.Cuts.{cut_parts, uncut}
use Rattle.lnet_script.proofs.words.cut_at_blank.Goals as goal

pub returns-in-Some-clause-parts : goal.returns-in-Some-clause-parts
returns-in-Some-clause-parts c = cut_parts is_blank c.args.bytes.now c.in-Some.place c.in-Some.ensures

pub returns-in-None-clause-parts : goal.returns-in-None-clause-parts
returns-in-None-clause-parts c = uncut is_blank c.args.bytes.now c.in-None.ensures
