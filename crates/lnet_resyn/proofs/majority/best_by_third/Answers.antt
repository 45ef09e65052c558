use Rattle.std.proofs.Common.{arith}
use Rattle.lnet_resyn.specs.Majority.{word_rows, words_rows, score, by_complements}
use Rattle.lnet_resyn.proofs.Best.{best-flat-past, best-flat-none}
use Rattle.lnet_resyn.proofs.majority.best_by_third.Goals as goal

pub loop-third-init : goal.loop-third-init
loop-third-init c = record {
  candidate = best-flat-none (score (word_rows c.args.vars c.args.target) (words_rows c.args.vars c.args.pool.now)) c.args.best.candidate (λ k. by_complements c.args.first c.args.second k) c.args.second;
  inside = c.requires.best_inside;
  scored = c.requires.best;
}

pub loop-third-preserved : goal.loop-third-preserved
loop-third-preserved c = record {
  candidate = best-flat-past (score (word_rows c.args.vars c.args.target) (words_rows c.args.vars c.args.pool.now)) c.args.best.candidate _ _ (λ k. by_complements c.args.first c.args.second k) c.args.second c.loop-third.third (omega arith) c.loop-third.invariant.candidate c.best_by_complements-best.ensures.candidate;
  inside = c.best_by_complements-best.ensures.inside;
  scored = c.best_by_complements-best.ensures.scored;
}
