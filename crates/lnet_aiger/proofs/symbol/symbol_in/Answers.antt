use Rattle.std.proofs.Common.{sym, ◌∙◌}
use Rattle.std.proofs.lemmas.Str.{IsUtf8-from_ascii}
use Rattle.lnet_aiger.proofs.SymbolLemmas.{symbol_line-no_space, IsAscii-by}
use Rattle.lnet_aiger.proofs.symbol.symbol_in.Goals as goal

pub returns-in_default-name-clause-symbol : goal.returns-in_default-name-clause-symbol
returns-in_default-name-clause-symbol c =
    let whole = rw c.in_default-name.is at c.cut_word.ensures.rest in
    rw c.in-Some.ensures.cases.0 (symbol_line-no_space c.in-Some.letter.now c.in-Some.text.now whole)

pub returns-in-Err-clause-symbol : goal.returns-in-Err-clause-symbol
returns-in-Err-clause-symbol c = absurd (c.in-Err.ensures.cases.0 (IsUtf8-from_ascii c.in-Some-name.name.now (IsAscii-by c.in-Some-name.name.now (sym c.is_name.ensures ∙ c.if-not-is_name.false))))
