use Rattle.std.proofs.Common.{◌≡◌, length}
use Rattle.lnet_cascade.specs.Marks.{marked_count}
use Rattle.lnet_cascade.proofs.noting.clear.Given as goal

abbrev pub invariant-members : goal.invariant-members
invariant-members l = length l.set ≡ length l.fn.set

abbrev pub decreases-members : goal.decreases-members
decreases-members l = marked_count l.set
