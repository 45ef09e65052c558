use Rattle.std.proofs.Common.{◌≡◌, length}
use Rattle.std.specs.Prelude.{◌||◌, codes}
use Rattle.lnet_lines.specs.Lines.{lines_of}
use Rattle.lnet_bench.specs.Texts.{drives_in}
use Rattle.lnet_bench.proofs.texts.driven_in.Given as goal

abbrev pub invariant-loop-line : goal.invariant-loop-line
invariant-loop-line l = record {
  gnd : (drives_in (lines_of l.lines.rest) (codes "gnd") || l.driven.gnd) ≡ drives_in (lines_of l.bytes) (codes "gnd");
  vdd : (drives_in (lines_of l.lines.rest) (codes "vdd") || l.driven.vdd) ≡ drives_in (lines_of l.bytes) (codes "vdd");
}

abbrev pub decreases-loop-line : goal.decreases-loop-line
decreases-loop-line l = length l.lines.rest
