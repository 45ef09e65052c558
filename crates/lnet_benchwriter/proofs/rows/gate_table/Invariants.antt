use Rattle.std.proofs.Common.{◌≡◌, ◌+◌, ◌-◌, ◌^◌}
use Rattle.lnet_tables.specs.Bits.{number_by}
use Rattle.lnet_edge.specs.CircuitLists.{equation_view}
use Rattle.lnet_nodes.specs.Rows.{gate_value}
use Rattle.lnet_benchwriter.proofs.rows.gate_table.Given as goal

abbrev pub invariant-loop-row : goal.invariant-loop-row
invariant-loop-row l = l.table ≡ number_by (λ i. gate_value (equation_view l.equation) (l.row + i)) (2 ^ l.operands - l.row)
