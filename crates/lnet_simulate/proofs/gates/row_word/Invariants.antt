use Rattle.std.proofs.Common.{◌≡◌, ◌<◌, ◌^◌, ◌-◌, ℕ, length, map, drop, eqb}
use mathlib.Core.Bool.{◌&&◌}
use Rattle.lnet_tables.specs.Bits.{is_set}
use Rattle.lnet_gates.specs.Gates.{row_of}
use Rattle.lnet_simulate.specs.Lanes.{lane_of}
use Rattle.lnet_simulate.proofs.gates.row_word.Given as goal

abbrev pub invariant-loop-fanin : goal.invariant-loop-fanin
invariant-loop-fanin l = record {
  lanes : (j : ℕ) → j < 64 → (is_set l.word j && eqb l.rest (row_of (map (lane_of l.words j) (drop l.fanin-index l.fanins)))) ≡ eqb l.row (row_of (map (lane_of l.words j) l.fanins));
  low : l.rest < 2 ^ (length l.fanins - l.fanin-index);
}
