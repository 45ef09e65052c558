use Rattle.std.proofs.Common.{subst}
use Rattle.std.specs.List.{AllByRecursion}
use Rattle.lnet_kept.specs.Kept.{IsKeptInput, IsKeptOutput, IsKeptEquation}
use Rattle.lnet_kept.proofs.Facts.{kept_names, kept_wires}
use Rattle.lnet_kept.proofs.keeping.keep.Goals as goal

pub returns-clause-names : goal.returns-clause-names
returns-clause-names c = kept_names c.args.circuit.now (subst (AllByRecursion IsKeptInput) c.inputs.ensures c.keep_inputs.ensures) (subst (AllByRecursion IsKeptOutput) c.outputs.ensures c.keep_outputs.ensures)

pub returns-clause-wires : goal.returns-clause-wires
returns-clause-wires c = kept_wires c.args.circuit.now (subst (AllByRecursion IsKeptInput) c.inputs.ensures c.keep_inputs.ensures) (subst (AllByRecursion IsKeptEquation) c.equations.ensures.value c.keep_equations.ensures)

pub returns-clause-rules : goal.returns-clause-rules
returns-clause-rules c = c.equations.ensures.circuit
