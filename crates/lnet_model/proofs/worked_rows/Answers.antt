use Rattle.lnet_model.proofs.WorkedRows.{levels-worked, depth-worked, outputs-worked, fan-worked, references-worked, narrow-worked, wide-worked}
use Rattle.lnet_model.proofs.WorkedVisits.{visits-worked}
use Rattle.lnet_model.proofs.worked_rows.Goals as goal

pub returns : goal.returns
returns c = record {
  levels = levels-worked;
  depth = depth-worked;
  outputs = outputs-worked;
  fanout = fan-worked;
  references = references-worked;
  narrow = narrow-worked;
  wide = wide-worked;
  visits = visits-worked;
}
