use Rattle.std.proofs.Common.{◌≡◌, ◌≤◌, length}
use Rattle.std.specs.Option.{option_copied}
use Rattle.lnet_words.specs.Cutting.{left, left_length, words_of, words_behind}
use Rattle.lnet_words.proofs.words.next_word.Given as goal

abbrev pub invariant-loop-rest : goal.invariant-loop-rest
invariant-loop-rest l = record {
  words : words_behind (option_copied l.rest) ≡ words_of l.bytes;
  within : left_length (option_copied l.rest) ≤ length l.bytes;
}

abbrev pub decreases-loop-rest : goal.decreases-loop-rest
decreases-loop-rest l = left (option_copied l.rest)
