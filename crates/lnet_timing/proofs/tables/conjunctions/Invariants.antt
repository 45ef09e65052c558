use Rattle.std.proofs.Common.{◌≡◌}
use Rattle.lnet_timing.proofs.tables.conjunctions.Given as goal

abbrev pub invariant-loop : goal.invariant-loop
invariant-loop l = l.table.vars ≡ l.other.vars
