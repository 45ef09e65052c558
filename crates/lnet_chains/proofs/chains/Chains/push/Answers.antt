use Rattle.std.proofs.Common.{Some, None, set}
use Rattle.lnet_chains.specs.Lists.{with_first}
use Rattle.lnet_chains.proofs.Shown.{Shows, head-low, shows-first}
use Rattle.lnet_chains.proofs.chains.Chains.push.Goals as goal

pub set_link-requires : goal.set_link-requires
set_link-requires c =
    let shows : Shows c.self.inside.firsts.items c.self.inside.next.items c.self.inside.prev.items c.args.self.now =
    record { chains = c.self.invariant; value = c.self.view_is } in
    head-low _ _ _ _ shows c.args.n c.args.place c.index-first.result.now c.requires.node c.index-first.ensures

-- what contracts see then
shows-then : (c : goal.After-self-3-1)
    → Shows (set c.self.inside.firsts.items c.args.n (Some c.args.place)) (set c.self.inside.next.items c.args.place c.index-first.result.now)
    (set c.set_link.new.links.items c.args.place None) (with_first c.args.self.now c.args.n c.args.place)
shows-then c =
    let shows : Shows c.self.inside.firsts.items c.self.inside.next.items c.self.inside.prev.items c.args.self.now =
    record { chains = c.self.invariant; value = c.self.view_is } in
    shows-first _ _ _ _ shows c.args.n c.args.place c.index-first.result.now c.requires.node c.index-first.ensures
    c.set_link.new.links.items c.requires.place c.requires.absent c.set_link.ensures

pub invariant_of-self : goal.invariant_of-self
invariant_of-self c = (shows-then c).chains

pub returns : goal.returns
returns c = (shows-then c).value
