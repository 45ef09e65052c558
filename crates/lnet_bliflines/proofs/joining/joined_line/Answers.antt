use Rattle.std.proofs.Common.{length, sym, ap, ◌∙◌, arith}
use Rattle.lnet_lines.specs.Lines.{Place, lines_of}
use Rattle.lnet_bliflines.specs.Words.{word_lists}
use Rattle.lnet_bliflines.proofs.LineLengths.{few_line}
use Rattle.lnet_bliflines.proofs.Steps.{next_piece}
use Rattle.lnet_bliflines.proofs.joining.joined_line.Goals as goal

pub loop-words-preserved : goal.loop-words-preserved
loop-words-preserved c =
    let reads = c.in_ok-add_piece.ensures.reads in
    record {
      line = next_piece (word_lists c.loop-words.words.items) (word_lists c.add_piece.new.words.items) c.number-number.result c.loop-words.lines.number c.next_line-in-loop-words.new.self.number c.loop-words.piece.now c.in-Some-next_line.line.now c.uncommented-piece-in-loop-words.result.now (lines_of c.loop-words.lines.rest) (lines_of c.next_line-in-loop-words.new.self.rest)
          (sym reads.0 ∙ c.if-branch.true) reads.1 c.in_ok-add_piece.ensures.added c.in-Some-next_line.ensures.line c.uncommented-piece-in-loop-words.ensures.value (ap (λ (p : Place). p.number) c.in-Some-next_line.ensures.after) ∙ c.loop-words.invariant.line;
      few = omega (arith, few_line c.loop-words.lines.rest, ap length c.in-Some-next_line.ensures.first, ap (λ (p : Place). length p.rest) c.in-Some-next_line.ensures.after, c.in_ok-add_piece.ensures.few);
    }
