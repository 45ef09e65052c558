use Rattle.std.proofs.Common.{arith, length, sym, ap, ◌∙◌}
use Rattle.lnet_edge.specs.CircuitLists.{equation_views}
use Rattle.lnet_edge.specs.declared.circuit.Equation.{Equation}
use Rattle.lnet_edge.proofs.DriverLemmas.{knows_all}
use Rattle.lnet_edge.proofs.WireLemmas.{length-views}
use Rattle.lnet_edge.proofs.SearchLemmas.{cycle_found, passes, leaves, enters, open_top, operand_count_at, last_of, shorter_by_one}
use Rattle.lnet_edge.proofs.cycles.advance.Goals as goal

pub next_step-requires-clause-open : goal.next_step-requires-clause-open
next_step-requires-clause-open c = open_top (equation_views c.args.equations.now) c.args.progress.now c.args.path.now.items c.index-top.result.now c.requires.search c.requires.some (last_of c.args.path.now.items c.len.result c.index-top.result.now c.requires.some (c.len.ensures ∙ c.args.path.now.ok.0) c.index-top.ensures)

pub returns-in-Leave-clause-advances : goal.returns-in-Leave-clause-advances
returns-in-Leave-clause-advances c _ = leaves c.args.drivers.now (equation_views c.args.equations.now) c.args.progress.now c.args.path.now.items c.pop.new.self.items c.index-top.result.now (knows_all c.args.drivers.now c.args.equations.now c.requires.drivers) c.requires.search c.requires.some (last_of c.args.path.now.items c.len.result c.index-top.result.now c.requires.some (c.len.ensures ∙ c.args.path.now.ok.0) c.index-top.ensures) c.in-Leave.ensures (shorter_by_one c.args.path.now.items c.pop.new.self.items _ c.args.path.now.ok.0 c.pop.ensures.rest)

pub returns-in-Pass-clause-advances : goal.returns-in-Pass-clause-advances
returns-in-Pass-clause-advances c _ = passes (equation_views c.args.equations.now) c.args.progress.now c.args.path.now.items c.index-top.result.now c.in-Pass.left c.requires.search c.requires.some (last_of c.args.path.now.items c.len.result c.index-top.result.now c.requires.some (c.len.ensures ∙ c.args.path.now.ok.0) c.index-top.ensures) c.in-Pass.ensures

pub returns-in_ok-push-in-Enter-clause-advances : goal.returns-in_ok-push-in-Enter-clause-advances
returns-in_ok-push-in-Enter-clause-advances c _ = enters (equation_views c.args.equations.now) c.args.progress.now c.args.path.now.items c.push.new.self.items c.index-top.result.now c.in-Enter.next c.len-in-Enter.result c.requires.search c.requires.some (last_of c.args.path.now.items c.len.result c.index-top.result.now c.requires.some (c.len.ensures ∙ c.args.path.now.ok.0) c.index-top.ensures) c.in-Enter.ensures (operand_count_at c.args.equations.now c.in-Enter.next c.index-equations-next.result c.len-in-Enter.result (let n = length-views c.args.equations.now in omega (arith, c.in-Enter.ensures.0)) c.index-equations-next.is (c.len-in-Enter.ensures.value ∙ sym (ap (λ (e : Equation). length e.operands.items) c.index-equations-next.is))) c.in_ok-push-in-Enter.ensures.items

pub returns-in-Cycle-clause-cyclic : goal.returns-in-Cycle-clause-cyclic
returns-in-Cycle-clause-cyclic c _ = cycle_found (equation_views c.args.equations.now) c.args.progress.now c.args.path.now.items c.index-top.result.now c.requires.search c.requires.some (last_of c.args.path.now.items c.len.result c.index-top.result.now c.requires.some (c.len.ensures ∙ c.args.path.now.ok.0) c.index-top.ensures) c.in-Cycle.ensures
