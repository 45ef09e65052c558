use Rattle.std.proofs.Common.{refl, ap, ◌∙◌, arith}
use Rattle.lnet_resyn.specs.Majority.{word_rows, agreements, best_of}
use Rattle.lnet_resyn.proofs.Best.{best-flat-as}
use Rattle.lnet_resyn.proofs.majority.best_candidate.Goals as goal

pub loop-first-init : goal.loop-first-init
unfolding best_of
loop-first-init c = record { candidate = refl; inside = record { first = omega arith; second = omega arith; third = omega arith }; scored = c.agreements.ensures.value ∙ ap (agreements (word_rows c.args.vars c.args.target)) (c.candidate_word.ensures c.args.vars c.requires.few) }

pub loop-first-preserved : goal.loop-first-preserved
loop-first-preserved c = record {
  candidate = best-flat-as _ _ _ _ _ 0 c.loop-first.first c.loop-first.first (omega arith) c.loop-first.invariant.candidate c.best_by_second-best.ensures.candidate;
  inside = c.best_by_second-best.ensures.inside;
  scored = c.best_by_second-best.ensures.scored;
}
