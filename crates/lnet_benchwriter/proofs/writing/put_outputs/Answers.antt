use Rattle.std.proofs.Common.{string_bytes}
use Rattle.std.specs.Iterator.Adapters.{zip_first, zip_second}
use Rattle.std.specs.Slice.Iter.{iter_rest}
use Rattle.std.proofs.lemmas.Slice.Zip.{either_empty_from_Zip}
use Rattle.lnet_nodes.specs.Kept.{label_in}
use Rattle.lnet_benchwriter.specs.Texts.{output_line}
use Rattle.lnet_benchwriter.proofs.Pieces.{outputs-end}
use Rattle.lnet_benchwriter.proofs.writing.put_outputs.Goals as goal

pub returns : goal.returns
returns c = outputs-end (output_line c.args.form (label_in c.args.labels.now)) (iter_rest (zip_first c.loop-name.name-iterator)) (iter_rest (zip_second c.loop-name.name-iterator)) (string_bytes c.loop-name.out) _ (either_empty_from_Zip c.loop-name.name-iterator c.next.new.self c.next.result c.in-None.is c.next.ensures.steps) c.loop-name.invariant
