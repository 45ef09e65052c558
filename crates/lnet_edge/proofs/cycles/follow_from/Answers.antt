use Rattle.std.proofs.Common.{arith}
use Rattle.lnet_edge.specs.CircuitLists.{equation_views}
use Rattle.lnet_edge.proofs.WireLemmas.{length-views}
use Rattle.lnet_edge.proofs.SearchLemmas.{root_done, root_search}
use Rattle.lnet_edge.proofs.cycles.follow_from.Goals as goal

pub follow-requires-clause-search : goal.follow-requires-clause-search
follow-requires-clause-search c = root_search c.args.equations.now c.args.progress.now c.args.path.now.items c.push.new.self.items c.args.root c.len.result c.index-equations-root.result c.requires.search c.requires.start c.requires.root c.in-New.is c.index-equations-root.is c.len.ensures.value c.in_ok-push-in-New.ensures.items

pub returns-in_ok-push-in-New-clause-root_done : goal.returns-in_ok-push-in-New-clause-root_done
returns-in_ok-push-in-New-clause-root_done c =
    let views = length-views c.args.equations.now in
    let sized = c.requires.search.sized in
    let low = c.requires.root in
    root_done (equation_views c.args.equations.now) c.follow.result c.args.progress.now c.follow.new.progress c.follow.new.path.items c.args.root c.len.result c.follow.ensures.search c.follow.ensures.end c.follow.ensures.met (omega arith) (omega arith)
