use Rattle.std.proofs.Common.{◌/◌, ap, ◌∙◌, get_or}
use Rattle.lnet_numbers.specs.Words.{bit}
use Rattle.lnet_numbers.proofs.WordBits.{bit_in-test}
use Rattle.lnet_numbers.proofs.level.Level.has.Goals as goal

pub returns : goal.returns
returns c =
    let read = c.word_at.ensures ∙ ap (λ xs. get_or xs (c.args.n / 64) 0) c.deref.ensures.value in
    bit_in-test c.self.inside.packed.items c.args.n c.word_at.result read ∙ ap (λ bits. bit bits c.args.n) c.self.view_is
