use Rattle.std.proofs.Common.{◌+◌, ◌-◌, string_bytes}
use Rattle.lnet_tables.specs.Digits.{hex_digits}
use Rattle.lnet_tables.proofs.DigitLemmas.{digits-one, onward}
use Rattle.lnet_tables.proofs.digits.put_least_digits.Goals as goal

pub loop-done-preserved : goal.loop-done-preserved
loop-done-preserved c =
    onward (string_bytes c.loop-done.out) (string_bytes c.put_digit.new.out) _ (hex_digits (c.args.count - (c.loop-done.done + 1)) c.args.table)
    (hex_digits (c.args.count - c.loop-done.done) c.args.table) _ c.in_ok-put_digit.ensures
    (digits-one c.args.count c.loop-done.done c.args.table c.loop-done-test.true) c.loop-done.invariant
