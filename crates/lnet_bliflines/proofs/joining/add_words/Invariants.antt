use Rattle.std.proofs.Common.{◌≡◌, ◌+◌, ◌≤◌, ◌++◌, length}
use Rattle.lnet_words.specs.Cutting.{words_of}
use Rattle.lnet_bliflines.specs.Words.{word_lists}
use Rattle.lnet_bliflines.proofs.joining.add_words.Given as goal

abbrev pub invariant-loop-word : goal.invariant-loop-word
invariant-loop-word l = record {
  words : word_lists l.words.items ++ words_of l.rest ≡ word_lists l.initial.words.items ++ words_of l.text;
  few : length l.words.items + length (words_of l.rest) ≤ length l.initial.words.items + length l.text;
}

abbrev pub decreases-loop-word : goal.decreases-loop-word
decreases-loop-word l = length (words_of l.rest)
