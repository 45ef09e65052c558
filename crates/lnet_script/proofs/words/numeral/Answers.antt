use Rattle.std.proofs.Common.{◌≡◌, ℕ, ◌<◌, List, length, get_or, subst, arith}
use Rattle.std.specs.Str.Parse.{ParsesUnsigned}
use Rattle.std.proofs.lemmas.Str.{IsUtf8-from_ascii}
use Rattle.std.proofs.lemmas.Fmt.{IsAscii-from_digits}
use Rattle.lnet_script.proofs.Digits.{own, numeral_is}
use Rattle.lnet_script.proofs.words.numeral.Goals as goal
use Rattle.lnet_script.proofs.words.numeral.Goals.{else-digits-gt1-via-then-digits-gt1+else-digits-eq48, else-digits-gt1-via-else-digits-gt1}

pub returns-in-Ok : goal.returns-in-Ok
returns-in-Ok c =
    let ds = c.args.digits.now in
    let first : 1 < length ds → get_or ds 0 0 ≡ 48 → ⊥ = λ long zero. elim c.else-digits-gt1.branch [ else-digits-gt1-via-then-digits-gt1+else-digits-eq48 w ↦ omega arith | else-digits-gt1-via-else-digits-gt1 w ↦ omega arith ] in
    let parsed = subst (λ (t : List ℕ). ParsesUnsigned 64 10 t c.parse.result) c.in-Ok.ensures.cases.0 c.parse.ensures.value.0 in
    rw c.ok.ensures.value (numeral_is ds c.parse.result c.requires first parsed)

pub returns-in-Err : goal.returns-in-Err
returns-in-Err c = absurd (c.in-Err.ensures.cases.0 (IsUtf8-from_ascii c.args.digits.now (IsAscii-from_digits c.args.digits.now (own.to c.args.digits.now c.requires))))
