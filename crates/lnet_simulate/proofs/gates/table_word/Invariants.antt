use Rattle.std.proofs.Common.{◌≡◌, ◌<◌, ℕ, map, nat_lt}
use mathlib.Core.Bool.{◌&&◌}
use Rattle.lnet_tables.specs.Bits.{is_set}
use Rattle.lnet_gates.specs.Gates.{row_of}
use Rattle.lnet_simulate.specs.Lanes.{lane_of}
use Rattle.lnet_simulate.proofs.gates.table_word.Given as goal

abbrev pub invariant-loop-row : goal.invariant-loop-row
invariant-loop-row l = (j : ℕ) → j < 64 → is_set l.word j ≡ (nat_lt (row_of (map (lane_of l.words j) l.fanins)) l.row && is_set l.table (row_of (map (lane_of l.words j) l.fanins)))
