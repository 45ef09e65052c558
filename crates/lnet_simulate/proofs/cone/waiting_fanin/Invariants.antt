use Rattle.std.proofs.Common.{◌≡◌, ◌<◌, ℕ, true, get_or}
use Rattle.lnet_gates.specs.declared.signal.Signal.{Signal}
use Rattle.lnet_simulate.specs.Cones.{marked_at}
use Rattle.lnet_simulate.proofs.cone.waiting_fanin.Given as goal

abbrev pub invariant-loop-fanin : goal.invariant-loop-fanin
invariant-loop-fanin g l = (k : ℕ) (d : Signal) → k < l.fanin-index → marked_at l.marks (get_or l.fanin-items k d).node.0 ≡ true
