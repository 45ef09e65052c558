use Rattle.std.proofs.Common.{◌≡◌, take, map}
use Rattle.lnet_substitution.specs.Replaced.{redirected}
use Rattle.lnet_cascade.proofs.redirecting.Redirection.of_all.Given as goal

abbrev pub invariant-loop-signal : goal.invariant-loop-signal
invariant-loop-signal l = l.afterwards.items ≡ map (redirected l.self.from.0 l.self.to) (take l.signal-index l.signals)
