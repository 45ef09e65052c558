use Rattle.lnet_session.proofs.Places.{ands-in}
use Rattle.lnet_session.proofs.circuits.export.Goals as goal

pub returns-in-Aig-clause-ands : goal.returns-in-Aig-clause-ands
returns-in-Aig-clause-ands g c = ands-in c.circuit_of.result c.args.net.now _ c.in-Aig.is c.circuit_of.ensures.ands

pub returns-in-Xag-clause-ands : goal.returns-in-Xag-clause-ands
returns-in-Xag-clause-ands g c = ands-in c.circuit_of-in-Xag.result c.args.net.now _ c.in-Xag.is c.circuit_of-in-Xag.ensures.ands

pub returns-in-Mig-clause-ands : goal.returns-in-Mig-clause-ands
returns-in-Mig-clause-ands g c = ands-in c.circuit_of-in-Mig.result c.args.net.now _ c.in-Mig.is c.circuit_of-in-Mig.ensures.ands

pub returns-in-Klut-clause-ands : goal.returns-in-Klut-clause-ands
returns-in-Klut-clause-ands g c = ands-in c.circuit_of-in-Klut.result c.args.net.now _ c.in-Klut.is c.circuit_of-in-Klut.ensures.ands
