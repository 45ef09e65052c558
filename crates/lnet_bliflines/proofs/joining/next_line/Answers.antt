use Rattle.lnet_lines.specs.Lines.{lines_of}
use Rattle.lnet_bliflines.specs.Words.{words_at}
use Rattle.lnet_bliflines.proofs.WordBytes.{taken_words}
use Rattle.lnet_bliflines.proofs.joining.next_line.Goals as goal

pub returns-clause-words : goal.returns-clause-words
returns-clause-words c = taken_words c.args.lines.now.number (lines_of c.args.lines.now.rest) (words_at c.joined_line.new.lines) c.joined_line.result c.joined_line.ensures.line
