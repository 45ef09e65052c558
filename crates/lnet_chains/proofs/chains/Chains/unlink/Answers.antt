use Rattle.std.proofs.Common.{set, arith}
use Rattle.lnet_chains.specs.Lists.{without_place}
use Rattle.lnet_chains.proofs.Shown.{Shows, node-there, place-next, place-prev, before-low, after-low, shows-without, first-set, first-kept}
use Rattle.lnet_chains.proofs.chains.Chains.unlink.Goals as goal

pub index-requires : goal.index-requires
index-requires c =
    let shows : Shows c.self.inside.firsts.items c.self.inside.next.items c.self.inside.prev.items c.args.self.now =
    record { chains = c.self.invariant; value = c.self.view_is } in
    let low = place-prev _ _ _ _ shows c.args.n c.args.place c.requires in
    omega (arith, c.self.inside.prev.ok)

pub index-after-requires : goal.index-after-requires
index-after-requires c =
    let shows : Shows c.self.inside.firsts.items c.self.inside.next.items c.self.inside.prev.items c.args.self.now =
    record { chains = c.self.invariant; value = c.self.view_is } in
    let low = place-next _ _ _ _ shows c.args.n c.args.place c.requires in
    omega (arith, c.self.inside.next.ok)

pub set_link-requires : goal.set_link-requires
set_link-requires c =
    let shows : Shows c.self.inside.firsts.items c.self.inside.next.items c.self.inside.prev.items c.args.self.now =
    record { chains = c.self.invariant; value = c.self.view_is } in
    before-low _ _ _ _ shows c.args.n c.args.place c.requires
    c.index.result.now c.index-after.result.now c.index.ensures c.index-after.ensures

pub set_link-requires-2 : goal.set_link-requires-2
set_link-requires-2 c =
    let shows : Shows c.self.inside.firsts.items c.self.inside.next.items c.self.inside.prev.items c.args.self.now =
    record { chains = c.self.invariant; value = c.self.view_is } in
    after-low _ _ _ _ shows c.args.n c.args.place c.requires
    c.index.result.now c.index-after.result.now c.index.ensures c.index-after.ensures

-- what contracts see where the place was the first
shows-first-gone : (c : goal.After-self-1)
    → Shows (set c.self.inside.firsts.items c.args.n c.index-after.result.now) c.set_link.new.links.items c.set_link-2.new.links.items
    (without_place c.args.self.now c.args.n c.args.place)
shows-first-gone c =
    let shows : Shows c.self.inside.firsts.items c.self.inside.next.items c.self.inside.prev.items c.args.self.now =
    record { chains = c.self.invariant; value = c.self.view_is } in
    let node = node-there _ _ _ _ shows c.args.n c.args.place c.requires in
    shows-without _ _ _ _ shows c.args.n c.args.place c.requires
    c.index.result.now c.index-after.result.now c.index.ensures c.index-after.ensures
    (set c.self.inside.firsts.items c.args.n c.index-after.result.now) c.set_link.new.links.items c.set_link-2.new.links.items
    c.set_link.ensures c.set_link-2.ensures (first-set _ c.args.n c.index.result.now c.index-after.result.now node c.if-is_none.ensures)

-- what contracts see where another place was the first
shows-later-gone : (c : goal.Else-is_none)
    → Shows c.self.inside.firsts.items c.set_link.new.links.items c.set_link-2.new.links.items
    (without_place c.args.self.now c.args.n c.args.place)
shows-later-gone c =
    let shows : Shows c.self.inside.firsts.items c.self.inside.next.items c.self.inside.prev.items c.args.self.now =
    record { chains = c.self.invariant; value = c.self.view_is } in
    shows-without _ _ _ _ shows c.args.n c.args.place c.requires
    c.index.result.now c.index-after.result.now c.index.ensures c.index-after.ensures
    c.self.inside.firsts.items c.set_link.new.links.items c.set_link-2.new.links.items
    c.set_link.ensures c.set_link-2.ensures (first-kept _ c.args.n c.index.result.now c.index-after.result.now c.if-is_none.ensures)

pub invariant_of-self : goal.invariant_of-self
invariant_of-self c = (shows-first-gone c).chains

pub invariant_of-self-else-is_none : goal.invariant_of-self-else-is_none
invariant_of-self-else-is_none c = (shows-later-gone c).chains

pub returns-then-is_none : goal.returns-then-is_none
returns-then-is_none c = (shows-first-gone c).value

pub returns-else-is_none : goal.returns-else-is_none
returns-else-is_none c = (shows-later-gone c).value
