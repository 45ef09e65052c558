use Rattle.std.proofs.Common.{◌≡◌, true, false}
use Rattle.lnet_cascade.proofs.Holders.{held-stands, stands-held, not-held}
use Rattle.lnet_cascade.proofs.cascading.stands_at.Goals as goal

pub returns-in-Some : goal.returns-in-Some
returns-in-Some c = (
  held-stands c.args.store.now.network c.args.key.now c.args.n.0 c.in-Some.signal c.args.phase c.in-Some.ensures,
  stands-held c.args.store.now.network c.args.key.now c.args.n.0 c.in-Some.signal c.args.phase c.in-Some.ensures,
)

pub returns-in-None : goal.returns-in-None
returns-in-None c = (
  λ no. (let z : false ≡ true = no in cc),
  λ at. absurd (not-held c.args.store.now.network c.args.key.now c.args.n.0 c.args.phase c.in-None.ensures at),
)
