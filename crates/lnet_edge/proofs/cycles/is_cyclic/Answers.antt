use Rattle.std.proofs.Common.{arith}
use Rattle.lnet_edge.specs.CircuitLists.{equation_views}
use Rattle.lnet_edge.proofs.WireLemmas.{length-views}
use Rattle.lnet_edge.proofs.SearchLemmas.{acyclic_of}
use Rattle.lnet_edge.proofs.cycles.is_cyclic.Goals as goal

pub returns-clause-acyclic : goal.returns-clause-acyclic
returns-clause-acyclic c _ =
    let views = length-views c.args.equations.now in
    let all = c.loop-root-test.false in
    acyclic_of (equation_views c.args.equations.now) c.loop-root.progress.items c.loop-root.path.items c.loop-root.root c.loop-root.invariant.search (omega arith) c.loop-root.invariant.done
