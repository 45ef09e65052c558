use Rattle.lnet_benchmeans.proofs.TableTexts.{written_tables_ordered}
use Rattle.lnet_benchmeans.proofs.laws.written_tables_are_ordered.Goals as goal

pub returns : goal.returns
returns c = λ circuit names wires is plain tables. written_tables_ordered circuit names wires is plain tables
