use Rattle.std.proofs.Common.{string_bytes, ◌+◌, ◌-◌, ◌/◌}
use Rattle.lnet_blifwriter.specs.Texts.{row_cells}
use Rattle.lnet_blifwriter.proofs.Pieces.{onward, next_cell}
use Rattle.lnet_blifwriter.proofs.covers.put_cells.Goals as goal

pub loop-place-preserved : goal.loop-place-preserved
loop-place-preserved c = onward (string_bytes c.loop-place.out) (string_bytes c.put_cell.new.out) (row_cells 1 c.loop-place.rest) (row_cells (c.args.operands - (c.loop-place.place + 1)) (c.loop-place.rest / 2)) (row_cells (c.args.operands - c.loop-place.place) c.loop-place.rest) _ c.in_ok-put_cell.ensures (next_cell c.args.operands c.loop-place.place c.loop-place.rest c.loop-place-test.true) c.loop-place.invariant
