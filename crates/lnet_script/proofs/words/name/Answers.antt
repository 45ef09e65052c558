use Rattle.std.proofs.Common.{sym, subst, ◌∙◌}
use Rattle.std.proofs.lemmas.Str.{IsUtf8-from_ascii}
use Rattle.lnet_edge.specs.Names.{IsName}
use Rattle.lnet_script.proofs.WordBytes.{name_is, word_ascii}
use Rattle.lnet_script.proofs.words.name.Goals as goal

pub new-requires : goal.new-requires
new-requires c =
    let same = c.in_ok-from_str-in-Ok.ensures.ok ∙ c.in-Ok.ensures.cases.0 in
    subst IsName (sym same) (name_is c.args.word.now (sym c.if-not-is_word.ensures))

pub returns-in-Err : goal.returns-in-Err
returns-in-Err c = absurd (c.in-Err.ensures.cases.0 (IsUtf8-from_ascii c.args.word.now (word_ascii c.args.word.now (sym c.if-not-is_word.ensures))))
