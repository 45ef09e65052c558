use Rattle.std.proofs.Common.{◌∙◌}
use Rattle.lnet_chains.proofs.Listing.{first-place}
use Rattle.lnet_chains.proofs.Shown.{Shows, chains-shown}
use Rattle.lnet_chains.proofs.chains.Chains.first.Goals as goal

pub returns : goal.returns
returns c =
    let shows : Shows c.self.inside.firsts.items c.self.inside.next.items c.self.inside.prev.items c.args.self.now =
    record { chains = c.self.invariant; value = c.self.view_is } in
    c.link.ensures ∙ first-place _ _ _ _ _ ((chains-shown _ _ _ _ shows).linked c.args.n)
