use Rattle.std.proofs.Common.{◌≡◌, ℕ, ◌-◌, ◌++◌, None, length, replicate, ap, ◌∙◌, arith}
use Rattle.lnet_chains.specs.Lists.{grown}
use Rattle.lnet_chains.specs.Links.{Links}
use Rattle.lnet_chains.proofs.Shown.{Shows, shows-more}
use Rattle.lnet_chains.proofs.chains.Chains.grow.Goals as goal

-- links that were extended by so many as there are fewer than asked for
extended : (links links2 links3 : Links) (wanted len is : ℕ)
    → links2 ≡ links → links3 ≡ links2 ++ replicate (wanted - len) None → len ≡ is → links3 ≡ links ++ replicate (wanted - is) None
extended links links2 links3 wanted len is same longer count =
    longer ∙ ap (λ (xs : Links). xs ++ replicate (wanted - len) None) same ∙ ap (λ (k : ℕ). links ++ replicate (wanted - k) None) count

-- what contracts see then
shows-then : (c : goal.After-extend-3)
    → Shows c.extend.new.links.items c.extend-2.new.links.items c.extend-3.new.links.items (grown c.args.self.now c.args.nodes c.args.places)
shows-then c =
    let shows : Shows c.self.inside.firsts.items c.self.inside.next.items c.self.inside.prev.items c.args.self.now =
    record { chains = c.self.invariant; value = c.self.view_is } in
    let nodes : c.len.result ≡ length c.self.inside.firsts.items = (let e = c.len.ensures in omega (arith, c.self.inside.firsts.ok)) in
    let places : c.len-2.result ≡ length c.self.inside.next.items = (let e = c.len-2.ensures in omega (arith, c.self.inside.next.ok)) in
    shows-more _ _ _ _ shows c.args.nodes c.args.places
    c.extend.new.links.items c.extend-2.new.links.items c.extend-3.new.links.items c.requires.places c.ranges.places.fits
    (extended _ _ _ c.args.nodes c.len.result _ c.reserve.ensures.items c.extend.ensures nodes)
    (extended _ _ _ c.args.places c.len-2.result _ c.reserve-2.ensures.items c.extend-2.ensures places)
    (extended _ _ _ c.args.places c.len-2.result _ c.reserve-3.ensures.items c.extend-3.ensures places)

pub invariant_of-self-2 : goal.invariant_of-self-2
invariant_of-self-2 c = (shows-then c).chains

pub returns-clause-ok : goal.returns-clause-ok
returns-clause-ok c = (shows-then c).value
