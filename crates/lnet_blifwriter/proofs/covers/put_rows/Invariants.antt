use Rattle.std.proofs.Common.{◌≡◌, ◌^◌, ◌++◌, string_bytes}
use Rattle.lnet_edge.specs.CircuitLists.{equation_view}
use Rattle.lnet_nodes.specs.Rows.{gate_value}
use Rattle.lnet_blifwriter.proofs.Pieces.{rows_due}
use Rattle.lnet_blifwriter.proofs.covers.put_rows.Given as goal

abbrev pub invariant-loop-row : goal.invariant-loop-row
invariant-loop-row l = string_bytes l.out ++ rows_due (gate_value (equation_view l.equation)) l.operands (2 ^ l.operands) l.row ≡ string_bytes l.initial.out ++ rows_due (gate_value (equation_view l.equation)) l.operands (2 ^ l.operands) 0
