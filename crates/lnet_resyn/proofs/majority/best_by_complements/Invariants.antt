use Rattle.std.proofs.Common.{◌≡◌, ℕ, map, length}
use Rattle.std.specs.List.{range_with_len}
use Rattle.lnet_resyn.specs.Majority.{word_rows, words_rows, score, IsInside, IsScored, best_of}
use Rattle.lnet_resyn.proofs.majority.best_by_complements.Given as goal

abbrev pub invariant-loop-complements : goal.invariant-loop-complements
invariant-loop-complements l = record {
  candidate : l.best.candidate ≡ best_of (score (word_rows l.vars l.target) (words_rows l.vars l.pool)) l.fn.best.candidate (map (λ (c : ℕ). record { first = l.fn.first; second = l.fn.second; third = l.fn.third; complements = c }) (range_with_len 0 l.complements));
  inside : IsInside (length l.pool) l.best.candidate;
  scored : IsScored (word_rows l.vars l.target) (words_rows l.vars l.pool) l.best;
}
