use Rattle.std.proofs.Common.{length}
use Rattle.lnet_strash.proofs.Walks.{Walk, steps}
use Rattle.lnet_strash.proofs.chains.Chains.search.Given as goal

abbrev pub invariant-walk : goal.invariant-walk
invariant-walk l = Walk l.self.heads.items l.self.next.items l.self.standing.items l.key l.before l.to

abbrev pub decreases-walk : goal.decreases-walk
decreases-walk l = steps (length l.self.next.items) l.self.next.items l.to
