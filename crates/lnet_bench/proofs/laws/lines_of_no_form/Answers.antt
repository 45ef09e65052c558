use Rattle.std.proofs.Common.{refl}
use Rattle.lnet_bench.specs.Gates.{gate_rule, other_gate_rule, table_of, table_rule}
use Rattle.lnet_bench.specs.Statements.{gate_of, constant_of, drive_of, port_of, statement_of}
use Rattle.lnet_bench.proofs.laws.lines_of_no_form.Goals as goal

pub returns-clause-syntax : goal.returns-clause-syntax
unfolding statement_of drive_of port_of gate_of constant_of gate_rule other_gate_rule table_rule table_of
returns-clause-syntax c = (refl, refl, refl, refl, refl)

pub returns-clause-counts : goal.returns-clause-counts
unfolding statement_of drive_of port_of gate_of constant_of gate_rule other_gate_rule table_rule table_of
returns-clause-counts c = (refl, refl)

pub returns-clause-words : goal.returns-clause-words
unfolding statement_of drive_of port_of gate_of constant_of gate_rule other_gate_rule table_rule table_of
returns-clause-words c = (refl, refl, refl, refl)

pub returns-clause-tables : goal.returns-clause-tables
unfolding statement_of drive_of port_of gate_of constant_of gate_rule other_gate_rule table_rule table_of
returns-clause-tables c = (refl, refl, refl)
