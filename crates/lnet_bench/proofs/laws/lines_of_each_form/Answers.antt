use Rattle.std.proofs.Common.{refl}
use Rattle.lnet_bench.specs.Gates.{gate_rule, other_gate_rule, table_of, table_rule}
use Rattle.lnet_bench.specs.Statements.{gate_of, constant_of, drive_of, port_of, statement_of}
use Rattle.lnet_bench.proofs.laws.lines_of_each_form.Goals as goal

pub returns-clause-ports : goal.returns-clause-ports
unfolding statement_of drive_of port_of gate_of constant_of gate_rule other_gate_rule table_rule table_of
returns-clause-ports c = (refl, refl)

pub returns-clause-gates : goal.returns-clause-gates
unfolding statement_of drive_of port_of gate_of constant_of gate_rule other_gate_rule table_rule table_of
returns-clause-gates c = (refl, refl, refl)

pub returns-clause-others : goal.returns-clause-others
unfolding statement_of drive_of port_of gate_of constant_of gate_rule other_gate_rule table_rule table_of
returns-clause-others c = (refl, refl)

pub returns-clause-tables : goal.returns-clause-tables
unfolding statement_of drive_of port_of gate_of constant_of gate_rule other_gate_rule table_rule table_of
returns-clause-tables c = (refl, refl)

pub returns-clause-constants : goal.returns-clause-constants
unfolding statement_of drive_of port_of gate_of constant_of gate_rule other_gate_rule table_rule table_of
returns-clause-constants c = (refl, refl)
