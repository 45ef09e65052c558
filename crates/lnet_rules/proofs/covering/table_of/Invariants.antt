use Rattle.std.proofs.Common.{◌≡◌, ◌+◌, ◌-◌}
use Rattle.lnet_tables.specs.Bits.{number_by}
use Rattle.lnet_edge.specs.Values.{cover_value}
use Rattle.lnet_rules.specs.Rules.{bits_of}
use Rattle.lnet_rules.proofs.covering.table_of.Given as goal

abbrev pub invariant-loop-number : goal.invariant-loop-number
invariant-loop-number l = l.table ≡ number_by (λ i. cover_value l.cover (bits_of l.operands (l.number + i))) (64 - l.number)
