use Rattle.std.proofs.Common.{◌≢◌, ℕ, Bool, ◌<◌}
use Rattle.lnet_npn.specs.Exchanges.{image_at}
use Rattle.lnet_npn.proofs.Orders.{order_at}
use Rattle.lnet_npn.proofs.canonical.first_back.Given as goal

abbrev pub invariant-loop-arrangement : goal.invariant-loop-arrangement
invariant-loop-arrangement l = (j f : ℕ) (o : Bool) → j < l.arrangement-index → f < 16 → image_at (order_at j) f o l.least ≢ l.word
