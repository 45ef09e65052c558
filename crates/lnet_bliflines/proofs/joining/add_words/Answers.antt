use Rattle.std.proofs.Common.{ℕ, List, ◌++◌, length, refl, sym, ap, ◌∙◌, arith}
use Rattle.std.specs.Borrow.{Bor}
use Rattle.lnet_words.specs.Cutting.{words_of}
use Rattle.lnet_bliflines.specs.Words.{word_lists}
use Rattle.lnet_bliflines.proofs.WordLemmas.{few_words, word_added}
use Rattle.lnet_bliflines.proofs.joining.add_words.Goals as goal

pub loop-word-init : goal.loop-word-init
loop-word-init c = record { words = refl; few = omega (arith, few_words c.args.text.now) }

pub loop-word-preserved : goal.loop-word-preserved
loop-word-preserved c = record {
  words = ap (λ (ws : List (Bor (List ℕ))). word_lists ws ++ words_of c.in-Some.behind.now) c.in_ok-push.ensures.items
      ∙ word_added c.loop-word.words.items c.in-Some.word (words_of c.in-Some.behind.now)
      ∙ ap (λ (r : List (List ℕ)). word_lists c.loop-word.words.items ++ r) (sym c.in-Some.ensures.words)
      ∙ c.loop-word.invariant.words;
  few = omega (arith, c.loop-word.invariant.few, ap length c.in-Some.ensures.words, c.in_ok-push.ensures.len);
}
