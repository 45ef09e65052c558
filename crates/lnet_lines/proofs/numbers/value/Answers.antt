use Rattle.std.proofs.Common.{ℕ, List, subst}
use Rattle.std.specs.Str.Parse.{ParsesUnsigned}
use Rattle.std.proofs.lemmas.Str.{IsUtf8-from_ascii}
use Rattle.std.proofs.lemmas.Fmt.{IsAscii-from_digits}
use Rattle.lnet_lines.proofs.Digits.{own, parse_is}
use Rattle.lnet_lines.proofs.numbers.value.Goals as goal

pub returns-in-Ok : goal.returns-in-Ok
returns-in-Ok c =
    let parsed = subst (λ (t : List ℕ). ParsesUnsigned 32 10 t c.parse.result) c.in-Ok.ensures.cases.0 c.parse.ensures.value.0 in
    rw c.ok.ensures.value (parse_is c.args.digits.now c.parse.result c.requires parsed)

pub returns-in-Err : goal.returns-in-Err
returns-in-Err c = absurd (c.in-Err.ensures.cases.0 (IsUtf8-from_ascii c.args.digits.now (IsAscii-from_digits c.args.digits.now (own.to c.args.digits.now c.requires))))
