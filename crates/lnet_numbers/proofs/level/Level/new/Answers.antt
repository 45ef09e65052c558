use Rattle.std.proofs.Common.{ap, ◌∙◌}
use Rattle.lnet_numbers.specs.Bits.{bits_of}
use Rattle.lnet_numbers.proofs.WordBits.{bits_of-nil}
use Rattle.lnet_numbers.proofs.level.Level.new.Goals as goal

pub returns : goal.returns
returns c = ap bits_of c.new.ensures.items ∙ bits_of-nil
