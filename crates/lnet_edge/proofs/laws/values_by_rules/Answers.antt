use Rattle.lnet_edge.proofs.ValueLemmas.{value-equation, value-input, value-constant}
use Rattle.lnet_edge.proofs.laws.values_by_rules.Goals as goal

pub returns : goal.returns
returns c = record {
  equations = value-equation;
  inputs = value-input;
  constant = value-constant;
}
