use Rattle.std.proofs.Common.{◌≡◌, ◌++◌, string_bytes}
use Rattle.std.specs.Iterator.Adapters.{zip_first, zip_second}
use Rattle.std.specs.Slice.Iter.{iter_rest}
use Rattle.lnet_nodes.specs.Kept.{label_in}
use Rattle.lnet_benchwriter.specs.Texts.{output_line, output_lines}
use Rattle.lnet_benchwriter.proofs.writing.put_outputs.Given as goal

abbrev pub invariant-loop-name : goal.invariant-loop-name
invariant-loop-name l = string_bytes l.out ++ output_lines (output_line l.form (label_in l.labels)) (iter_rest (zip_first l.name-iterator)) (iter_rest (zip_second l.name-iterator)) ≡ string_bytes l.initial.out ++ output_lines (output_line l.form (label_in l.labels)) l.names l.ports
