use Rattle.std.proofs.Common.{List, ℕ, sym, subst, ◌∙◌}
use Rattle.std.specs.Str.Parse.{ParsesUnsigned}
use Rattle.std.proofs.lemmas.Str.{IsUtf8-from_ascii}
use Rattle.lnet_bench.proofs.HexDigits.{table_read, digits_ascii, table_by}
use Rattle.lnet_bench.proofs.gates.table.Goals as goal

pub returns-in-Ok : goal.returns-in-Ok
returns-in-Ok c =
    let ds = c.args.digits.now in
    let parsed = subst (λ (t : List ℕ). ParsesUnsigned 64 16 t c.from_str_radix.result) c.in-Ok.ensures.cases.0 c.from_str_radix.ensures.value in
    c.ok.ensures.value ∙ table_read ds c.from_str_radix.result (table_by ds (sym c.is_empty.ensures ∙ c.if-is_empty.false) c.if-digits-gt16.false (sym c.if-not-are_hexadecimal.ensures)) parsed

pub returns-in-Err : goal.returns-in-Err
returns-in-Err c = absurd (c.in-Err.ensures.cases.0 (IsUtf8-from_ascii c.args.digits.now (digits_ascii c.args.digits.now (sym c.if-not-are_hexadecimal.ensures))))
