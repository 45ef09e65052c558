use Rattle.std.proofs.Common.{◌<◌, ◌/◌, length, subst, sym}
use Rattle.lnet_numbers.specs.Words.{IsZeroWord, HasBitIn}
use Rattle.lnet_numbers.proofs.FourLevels.{IsTower-clear_one, IsTower-clear_two, IsTower-clear_three, IsTower-clear_four}
use Rattle.lnet_numbers.proofs.levels.Levels.clear.Goals as goal

pub invariant_of-self : goal.invariant_of-self
invariant_of-self c =
    let inside : c.args.n < length c.self.inside.numbers = subst (λ bits. c.args.n < length bits) (sym c.self.view_is) c.requires in
    let word = subst (λ bits. IsZeroWord bits (c.args.n / 64)) c.clear.ensures.bits (c.clear.ensures.zero c.if-clear.true) in
    let block = subst (λ bits. IsZeroWord bits (c.args.n / 64 / 64)) c.clear-then-clear.ensures.bits (c.clear-then-clear.ensures.zero c.if-clear-2.true) in
    let region = subst (λ bits. IsZeroWord bits (c.args.n / 64 / 64 / 64)) c.clear-then-clear-2.ensures.bits (c.clear-then-clear-2.ensures.zero c.if-clear-3.true) in
    rw (c.clear.ensures.bits, c.clear-then-clear.ensures.bits, c.clear-then-clear-2.ensures.bits, c.clear-then-clear-3.ensures.bits)
    (IsTower-clear_four c.self.inside.numbers c.self.inside.words c.self.inside.blocks c.self.inside.regions c.args.n c.self.invariant inside word block region)

pub invariant_of-self-else-clear-3 : goal.invariant_of-self-else-clear-3
invariant_of-self-else-clear-3 c =
    let inside : c.args.n < length c.self.inside.numbers = subst (λ bits. c.args.n < length bits) (sym c.self.view_is) c.requires in
    let word = subst (λ bits. IsZeroWord bits (c.args.n / 64)) c.clear.ensures.bits (c.clear.ensures.zero c.if-clear.true) in
    let block = subst (λ bits. IsZeroWord bits (c.args.n / 64 / 64)) c.clear-then-clear.ensures.bits (c.clear-then-clear.ensures.zero c.if-clear-2.true) in
    let left = subst (λ bits. HasBitIn bits (c.args.n / 64 / 64 / 64)) c.clear-then-clear-2.ensures.bits (c.clear-then-clear-2.ensures.left c.if-clear-3.false) in
    rw (c.clear.ensures.bits, c.clear-then-clear.ensures.bits, c.clear-then-clear-2.ensures.bits)
    (IsTower-clear_three c.self.inside.numbers c.self.inside.words c.self.inside.blocks c.self.inside.regions c.args.n c.self.invariant inside word block left)

pub invariant_of-self-else-clear-2 : goal.invariant_of-self-else-clear-2
invariant_of-self-else-clear-2 c =
    let inside : c.args.n < length c.self.inside.numbers = subst (λ bits. c.args.n < length bits) (sym c.self.view_is) c.requires in
    let word = subst (λ bits. IsZeroWord bits (c.args.n / 64)) c.clear.ensures.bits (c.clear.ensures.zero c.if-clear.true) in
    let left = subst (λ bits. HasBitIn bits (c.args.n / 64 / 64)) c.clear-then-clear.ensures.bits (c.clear-then-clear.ensures.left c.if-clear-2.false) in
    rw (c.clear.ensures.bits, c.clear-then-clear.ensures.bits)
    (IsTower-clear_two c.self.inside.numbers c.self.inside.words c.self.inside.blocks c.self.inside.regions c.args.n c.self.invariant inside word left)

pub invariant_of-self-else-clear : goal.invariant_of-self-else-clear
invariant_of-self-else-clear c =
    let inside : c.args.n < length c.self.inside.numbers = subst (λ bits. c.args.n < length bits) (sym c.self.view_is) c.requires in
    let left = subst (λ bits. HasBitIn bits (c.args.n / 64)) c.clear.ensures.bits (c.clear.ensures.left c.if-clear.false) in
    rw c.clear.ensures.bits
    (IsTower-clear_one c.self.inside.numbers c.self.inside.words c.self.inside.blocks c.self.inside.regions c.args.n c.self.invariant inside left)
