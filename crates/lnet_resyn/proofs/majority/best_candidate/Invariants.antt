use Rattle.std.proofs.Common.{◌≡◌, length}
use Rattle.std.specs.List.{range_with_len, flat_map}
use Rattle.lnet_resyn.specs.Majority.{word_rows, words_rows, score, IsInside, IsScored, by_second, best_of, first_candidate}
use Rattle.lnet_resyn.proofs.majority.best_candidate.Given as goal

abbrev pub invariant-loop-first : goal.invariant-loop-first
invariant-loop-first l = record {
  candidate : l.best.candidate ≡ best_of (score (word_rows l.vars l.target) (words_rows l.vars l.pool)) first_candidate (flat_map (λ i. by_second (length l.pool) i) (range_with_len 0 l.first));
  inside : IsInside (length l.pool) l.best.candidate;
  scored : IsScored (word_rows l.vars l.target) (words_rows l.vars l.pool) l.best;
}
