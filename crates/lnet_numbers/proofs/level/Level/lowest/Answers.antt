use Rattle.std.proofs.Common.{◌<◌, ◌+◌, ◌*◌, ap, ◌∙◌, sym, subst, get_or, arith, w64}
use Rattle.std.specs.Int.{trailing_zeros}
use Rattle.std.proofs.lemmas.Nat.{trailing_le}
use Rattle.lnet_numbers.specs.Words.{IsZeroWord, IsLowestIn}
use Rattle.lnet_numbers.proofs.WordBits.{IsZeroWord-bits_of, IsLowestIn-bits_of, word-there}
use Rattle.lnet_numbers.proofs.level.Level.lowest.Goals as goal

pub returns-then-bits-eq0 : goal.returns-then-bits-eq0
returns-then-bits-eq0 c =
    let read = c.word_at-bits.ensures ∙ ap (λ xs. get_or xs c.args.word 0) c.deref.ensures.value in
    subst (λ bits. IsZeroWord bits c.args.word) c.self.view_is (IsZeroWord-bits_of c.self.inside.packed.items c.args.word (sym read ∙ c.if-bits-eq0.true))

pub overflow_add-result : goal.overflow_add-result
overflow_add-result c =
    let read = c.word_at-bits.ensures ∙ ap (λ xs. get_or xs c.args.word 0) c.deref.ensures.value in
    let few = c.self.invariant in
    let inside = word-there c.self.inside.packed.items c.args.word c.word_at-bits.result read c.if-bits-eq0.false in
    omega (arith, trailing_le)

pub returns : goal.returns
returns c =
    let read = c.word_at-bits.ensures ∙ ap (λ xs. get_or xs c.args.word 0) c.deref.ensures.value in
    let some : 0 < c.word_at-bits.result = omega arith in
    let lowest = IsLowestIn-bits_of c.self.inside.packed.items c.args.word c.word_at-bits.result read some c.word_at-bits.type_inv in
    subst (λ bits. IsLowestIn bits c.args.word (c.args.word * 64 + trailing_zeros w64 c.word_at-bits.result)) c.self.view_is lowest
