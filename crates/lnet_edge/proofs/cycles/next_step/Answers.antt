use Rattle.std.proofs.Common.{refl, sym, subst}
use Rattle.lnet_edge.specs.declared.cycles.Step.{Step}
use Rattle.lnet_edge.specs.CircuitLists.{equation_views}
use Rattle.lnet_edge.specs.Searches.{IsStep}
use Rattle.lnet_edge.proofs.SearchLemmas.{step_fits, step_found, step_past}
use Rattle.lnet_edge.proofs.cycles.next_step.Goals as goal

pub operand_wire-requires : goal.operand_wire-requires
operand_wire-requires c = step_fits c.args.equations.now c.args.progress.now c.args.top c.index-equations-top.result c.left_of-left.result c.requires.top c.requires.open c.left_of-left.ensures c.if-left-eq0.false c.index-equations-top.is

pub returns-in-Some : goal.returns-in-Some
returns-in-Some c =
    subst (λ (s : Step). IsStep (equation_views c.args.equations.now) c.args.progress.now c.args.top s) (sym c.step_to.ensures)
    (step_found c.args.drivers.now c.args.equations.now c.args.progress.now c.args.top c.index-equations-top.result c.left_of-left.result c.operand_wire.result c.in-Some.next c.place_of.result _ c.requires.drivers c.requires.top c.requires.open c.left_of-left.ensures c.if-left-eq0.false c.index-equations-top.is c.operand_wire.ensures c.place_of.ensures c.in-Some.is refl)

pub returns-in-None : goal.returns-in-None
returns-in-None c = step_past c.args.drivers.now c.args.equations.now c.args.progress.now c.args.top c.index-equations-top.result c.left_of-left.result c.operand_wire.result c.place_of.result c.requires.drivers c.requires.top c.requires.open c.left_of-left.ensures c.if-left-eq0.false c.index-equations-top.is c.operand_wire.ensures c.place_of.ensures c.in-None.is
