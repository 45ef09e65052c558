use Rattle.std.proofs.Common.{◌/◌, ap, ◌∙◌, set, true, arith}
use Rattle.std.proofs.lemmas.List.{get_or_read}
use Rattle.lnet_numbers.proofs.WordBits.{word-within, bits_of-set_bit}
use Rattle.lnet_numbers.proofs.level.Level.set.Goals as goal

pub index_mut-requires : goal.index_mut-requires
index_mut-requires c =
    let word = word-within c.self.inside.packed.items c.args.self.now c.args.n c.self.view_is c.requires in
    let ok = c.self.inside.packed.ok in
    omega arith

pub returns : goal.returns
returns c =
    let word = word-within c.self.inside.packed.items c.args.self.now c.args.n c.self.view_is c.requires in
    let read = get_or_read c.self.inside.packed.items (c.args.n / 64) c.index_mut.result.now word c.index_mut.ensures.value 0 in
    bits_of-set_bit c.self.inside.packed.items c.args.n c.index_mut.result.now (omega arith) read ∙ ap (λ bits. set bits c.args.n true) c.self.view_is
