use Rattle.std.proofs.Common.{option_map}
use Rattle.lnet_model.specs.Answers.{parents_in}
use Rattle.lnet_store.proofs.NextPairs.{IsSought, as_numbers}
use Rattle.lnet_store.proofs.view.View.fanout_next.Given as goal

abbrev pub invariant-loop-i : goal.invariant-loop-i
invariant-loop-i g l = IsSought (parents_in (g.Self.View.kept l.self l.n.0)) (option_map as_numbers l.last) l.i l.is_next
