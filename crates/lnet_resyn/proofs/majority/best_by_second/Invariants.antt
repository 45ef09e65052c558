use Rattle.std.proofs.Common.{◌≡◌, ◌+◌, ◌-◌, length}
use Rattle.std.specs.List.{range_with_len, flat_map}
use Rattle.lnet_resyn.specs.Majority.{word_rows, words_rows, score, IsInside, IsScored, by_third, best_of}
use Rattle.lnet_resyn.proofs.majority.best_by_second.Given as goal

abbrev pub invariant-loop-second : goal.invariant-loop-second
invariant-loop-second l = record {
  candidate : l.best.candidate ≡ best_of (score (word_rows l.vars l.target) (words_rows l.vars l.pool)) l.fn.best.candidate (flat_map (λ j. by_third (length l.pool) l.fn.first j) (range_with_len (l.fn.first + 1) (l.second - (l.fn.first + 1))));
  inside : IsInside (length l.pool) l.best.candidate;
  scored : IsScored (word_rows l.vars l.target) (words_rows l.vars l.pool) l.best;
}
