use Rattle.std.proofs.Common.{[], string_bytes, ◌+◌, ◌^◌, ◌<◌, arith}
use Rattle.std.specs.Prelude.{if◌then◌else◌}
use Rattle.lnet_edge.specs.CircuitLists.{equation_view}
use Rattle.lnet_nodes.specs.Rows.{gate_value}
use Rattle.lnet_blifwriter.specs.Texts.{row_line}
use Rattle.lnet_blifwriter.proofs.Pieces.{onward, rows_due, next_row}
use Rattle.lnet_blifwriter.proofs.covers.put_rows.Goals as goal

pub loop-row-preserved : goal.loop-row-preserved
loop-row-preserved c =
    let value = gate_value (equation_view c.args.equation.now) in
    let low : c.loop-row.row < 2 ^ c.args.operands = (let a = c.loop-row-test.true in let b = c.pow-row-end.ensures in omega arith) in
    onward (string_bytes c.loop-row.out) (string_bytes c.put_true_row.new.out) (if value c.loop-row.row then row_line c.args.operands c.loop-row.row else []) (rows_due value c.args.operands (2 ^ c.args.operands) (c.loop-row.row + 1)) (rows_due value c.args.operands (2 ^ c.args.operands) c.loop-row.row) _ c.in_ok-put_true_row.ensures (next_row value c.args.operands (2 ^ c.args.operands) c.loop-row.row low) c.loop-row.invariant
