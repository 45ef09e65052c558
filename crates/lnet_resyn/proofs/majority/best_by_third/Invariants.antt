use Rattle.std.proofs.Common.{◌≡◌, ◌+◌, ◌-◌, length}
use Rattle.std.specs.List.{range_with_len, flat_map}
use Rattle.lnet_resyn.specs.Majority.{word_rows, words_rows, score, IsInside, IsScored, by_complements, best_of}
use Rattle.lnet_resyn.proofs.majority.best_by_third.Given as goal

abbrev pub invariant-loop-third : goal.invariant-loop-third
invariant-loop-third l = record {
  candidate : l.best.candidate ≡ best_of (score (word_rows l.vars l.target) (words_rows l.vars l.pool)) l.fn.best.candidate (flat_map (λ k. by_complements l.fn.first l.fn.second k) (range_with_len (l.fn.second + 1) (l.third - (l.fn.second + 1))));
  inside : IsInside (length l.pool) l.best.candidate;
  scored : IsScored (word_rows l.vars l.target) (words_rows l.vars l.pool) l.best;
}
