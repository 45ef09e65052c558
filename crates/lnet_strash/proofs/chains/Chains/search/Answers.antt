use Rattle.std.proofs.Common.{arith, ◌<◌, ◌∙◌, length, None, sym, true≢false}
use Rattle.lnet_strash.proofs.Links.{get_or-is}
use Rattle.lnet_strash.proofs.Walks.{walk-ends, walk-inside, walk-goes, walk-nears}
use Rattle.lnet_strash.proofs.chains.Chains.search.Goals as goal

pub stands_under-requires : goal.stands_under-requires
stands_under-requires c = walk-inside _ _ _ _ c.requires.table _ _ c.walk.invariant _ c.in-Some.is

pub index-to-requires-in-Some : goal.index-to-requires-in-Some
index-to-requires-in-Some c =
    let inside = walk-inside _ _ _ _ c.requires.table _ _ c.walk.invariant _ c.in-Some.is in
    let long = c.requires.table.links in
    let len = c.args.self.now.next.ok in
    omega arith

pub walk-preserved : goal.walk-preserved
walk-preserved c =
    let inside = walk-inside _ _ _ _ c.requires.table _ _ c.walk.invariant _ c.in-Some.is in
    let long = c.requires.table.links in
    let within : c.in-Some.number < length c.args.self.now.next.items = omega arith in
    walk-goes _ _ _ _ c.requires.table _ _ c.walk.invariant _ c.in-Some.is (λ s. true≢false (sym (c.stands_under.ensures.no s) ∙ c.if-stands_under.false)) _ (get_or-is c.args.self.now.next.items c.in-Some.number c.index-to-in-Some.result.now None within c.index-to-in-Some.ensures)

pub walk-smaller : goal.walk-smaller
walk-smaller c =
    let inside = walk-inside _ _ _ _ c.requires.table _ _ c.walk.invariant _ c.in-Some.is in
    let long = c.requires.table.links in
    let within : c.in-Some.number < length c.args.self.now.next.items = omega arith in
    walk-nears _ _ _ _ c.requires.table _ _ c.walk.invariant _ c.in-Some.is _ (get_or-is c.args.self.now.next.items c.in-Some.number c.index-to-in-Some.result.now None within c.index-to-in-Some.ensures)

pub returns : goal.returns
returns c = record { found = walk-ends _ _ _ _ c.requires.table _ _ c.walk.invariant c.in_default.is }
