use Rattle.std.proofs.Common.{◌≡◌, ◌-◌, ◌++◌, string_bytes}
use Rattle.lnet_blifwriter.specs.Texts.{row_cells}
use Rattle.lnet_blifwriter.proofs.covers.put_cells.Given as goal

abbrev pub invariant-loop-place : goal.invariant-loop-place
invariant-loop-place l = string_bytes l.out ++ row_cells (l.operands - l.place) l.rest ≡ string_bytes l.initial.out ++ row_cells l.operands l.fn.row
