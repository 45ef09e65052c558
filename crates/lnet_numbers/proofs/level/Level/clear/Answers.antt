use Rattle.std.proofs.Common.{◌<◌, ◌/◌, ◌*◌, ◌%◌, ◌-◌, ◌^◌, ℕ, ap, ◌∙◌, sym, set, false, arith, bit_and}
use Rattle.std.proofs.lemmas.Bool.{eqb-true, eqb-false}
use Rattle.std.proofs.lemmas.List.{get_or_read, get_or-set_same}
use Rattle.std.proofs.lemmas.Nat.{and_le_l}
use Rattle.lnet_numbers.proofs.WordBits.{word-within, bits_of-clear_bit, IsZeroWord-bits_of, HasBitIn-bits_of}
use Rattle.lnet_numbers.proofs.level.Level.clear.Goals as goal

pub index-requires : goal.index-requires
index-requires c =
    let word = word-within c.self.inside.packed.items c.args.self.now c.args.n c.self.view_is c.requires in
    let ok = c.self.inside.packed.ok in
    omega arith

pub index_mut-requires : goal.index_mut-requires
index_mut-requires c =
    let word = word-within c.self.inside.packed.items c.args.self.now c.args.n c.self.view_is c.requires in
    let ok = c.self.inside.packed.ok in
    omega arith

pub returns-clause-bits : goal.returns-clause-bits
returns-clause-bits c =
    let word = word-within c.self.inside.packed.items c.args.self.now c.args.n c.self.view_is c.requires in
    let read = get_or_read c.self.inside.packed.items (c.args.n / 64) c.index.result.now word c.index.ensures 0 in
    bits_of-clear_bit c.self.inside.packed.items c.args.n c.index.result.now (omega arith) read ∙ ap (λ bits. set bits c.args.n false) c.self.view_is

pub returns-clause-zero : goal.returns-clause-zero
returns-clause-zero c = λ zero_word.
    let word = word-within c.self.inside.packed.items c.args.self.now c.args.n c.self.view_is c.requires in
    let after : ℕ = bit_and c.index.result.now (18446744073709551615 - 1 * 2 ^ (c.args.n % 64) % 18446744073709551616) in
    IsZeroWord-bits_of (set c.self.inside.packed.items (c.args.n / 64) after) (c.args.n / 64)
    (get_or-set_same c.self.inside.packed.items (c.args.n / 64) after 0 word ∙ eqb-true after 0 zero_word)

pub returns-clause-left : goal.returns-clause-left
returns-clause-left c = λ some_left.
    let word = word-within c.self.inside.packed.items c.args.self.now c.args.n c.self.view_is c.requires in
    let after : ℕ = bit_and c.index.result.now (18446744073709551615 - 1 * 2 ^ (c.args.n % 64) % 18446744073709551616) in
    let some = eqb-false after 0 some_left in
    let fits : after < 2 ^ 64 = (let least = and_le_l c.index.result.now (18446744073709551615 - 1 * 2 ^ (c.args.n % 64) % 18446744073709551616) in omega arith) in
    HasBitIn-bits_of (set c.self.inside.packed.items (c.args.n / 64) after) (c.args.n / 64) after
    (sym (get_or-set_same c.self.inside.packed.items (c.args.n / 64) after 0 word)) (omega arith) fits
