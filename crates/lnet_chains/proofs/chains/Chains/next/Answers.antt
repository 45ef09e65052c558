use Rattle.std.proofs.Common.{◌≡◌, ◌+◌, suc, ap, ◌∙◌, arith, slice_get}
use Rattle.lnet_chains.specs.Lists.{list_of}
use Rattle.lnet_chains.proofs.Listing.{next-place}
use Rattle.lnet_chains.proofs.Shown.{Shows, chains-shown}
use Rattle.lnet_chains.proofs.chains.Chains.next.Goals as goal

pub returns : goal.returns
returns c = λ n i e.
    let shows : Shows c.self.inside.firsts.items c.self.inside.next.items c.self.inside.prev.items c.args.self.now =
    record { chains = c.self.invariant; value = c.self.view_is } in
    let after : suc i ≡ i + 1 = omega arith in
    c.link.ensures
    ∙ next-place _ _ _ _ (list_of c.args.self.now n) i c.args.place ((chains-shown _ _ _ _ shows).linked n) e
    ∙ ap (slice_get (list_of c.args.self.now n)) after
