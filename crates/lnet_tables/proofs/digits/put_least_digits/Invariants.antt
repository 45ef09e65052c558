use Rattle.std.proofs.Common.{◌≡◌, ◌-◌, ◌++◌, string_bytes}
use Rattle.lnet_tables.specs.Digits.{hex_digits}
use Rattle.lnet_tables.proofs.digits.put_least_digits.Given as goal

abbrev pub invariant-loop-done : goal.invariant-loop-done
invariant-loop-done l = string_bytes l.out ++ hex_digits (l.count - l.done) l.table ≡ string_bytes l.initial.out ++ hex_digits l.count l.table
