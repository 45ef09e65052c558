use Rattle.std.proofs.Common.{◌≡◌, length, drop}
use Rattle.lnet_edge.specs.Values.{row_holds}
use Rattle.lnet_rules.specs.Rules.{bits_of}
use Rattle.lnet_rules.proofs.covering.row_holds.Given as goal

abbrev pub invariant-loop-cell : goal.invariant-loop-cell
invariant-loop-cell l = row_holds (drop l.cell-index l.row) (bits_of (length (drop l.cell-index l.row)) l.rest) ≡ row_holds l.row (bits_of (length l.row) l.fn.number)
