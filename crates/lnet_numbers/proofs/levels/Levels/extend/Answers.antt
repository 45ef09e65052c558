use Rattle.std.proofs.Common.{ℕ, ◌+◌, ◌/◌, arith}
use Rattle.lnet_numbers.proofs.Extending.{GainsClearBits-none}
use Rattle.lnet_numbers.proofs.FourLevels.{IsTower-extended}
use Rattle.lnet_numbers.proofs.levels.Levels.extend.Goals as goal

pub invariant_of-self-in_err-extend-2 : goal.invariant_of-self-in_err-extend-2
invariant_of-self-in_err-extend-2 c =
    let f = c.self.inside in
    let words : ℕ = (c.args.room + 63) / 64 in
    let blocks : ℕ = (words + 63) / 64 in
    let regions : ℕ = (blocks + 63) / 64 in
    let one_word = c.in_ok-extend.ensures.ok in
    IsTower-extended f.numbers f.words f.blocks f.regions f.numbers f.words c.extend-2.new.self c.extend.new.self 0 0 regions c.self.invariant
    (GainsClearBits-none f.numbers) (GainsClearBits-none f.words) c.extend-2.ensures.bits c.extend.ensures.bits
    (omega arith) (omega arith) (omega arith) (omega arith) c.extend-2.ensures.most (omega arith) c.extend.ensures.most

pub returns-in_err-extend-2-clause-bits : goal.returns-in_err-extend-2-clause-bits
returns-in_err-extend-2-clause-bits c = rw (← c.self.view_is) (GainsClearBits-none c.self.inside.numbers)

pub invariant_of-self-in_err-extend-3 : goal.invariant_of-self-in_err-extend-3
invariant_of-self-in_err-extend-3 c =
    let f = c.self.inside in
    let words : ℕ = (c.args.room + 63) / 64 in
    let blocks : ℕ = (words + 63) / 64 in
    let regions : ℕ = (blocks + 63) / 64 in
    let one_word = c.in_ok-extend.ensures.ok in
    let enough_blocks = c.in_ok-extend-2.ensures.ok in
    IsTower-extended f.numbers f.words f.blocks f.regions f.numbers c.extend-3.new.self c.extend-2.new.self c.extend.new.self 0 blocks regions
    c.self.invariant (GainsClearBits-none f.numbers) c.extend-3.ensures.bits c.extend-2.ensures.bits c.extend.ensures.bits
    (omega arith) (omega arith) c.extend-3.ensures.most (omega arith) c.extend-2.ensures.most (omega arith) c.extend.ensures.most

pub returns-in_err-extend-3-clause-bits : goal.returns-in_err-extend-3-clause-bits
returns-in_err-extend-3-clause-bits c = rw (← c.self.view_is) (GainsClearBits-none c.self.inside.numbers)

pub invariant_of-self-in_err-extend-4 : goal.invariant_of-self-in_err-extend-4
invariant_of-self-in_err-extend-4 c =
    let f = c.self.inside in
    let words : ℕ = (c.args.room + 63) / 64 in
    let blocks : ℕ = (words + 63) / 64 in
    let regions : ℕ = (blocks + 63) / 64 in
    let one_word = c.in_ok-extend.ensures.ok in
    let enough_blocks = c.in_ok-extend-2.ensures.ok in
    let enough_words = c.in_ok-extend-3.ensures.ok in
    IsTower-extended f.numbers f.words f.blocks f.regions c.extend-4.new.self c.extend-3.new.self c.extend-2.new.self c.extend.new.self words blocks
    regions c.self.invariant c.extend-4.ensures.bits c.extend-3.ensures.bits c.extend-2.ensures.bits c.extend.ensures.bits
    c.extend-4.ensures.most (omega arith) c.extend-3.ensures.most (omega arith) c.extend-2.ensures.most (omega arith) c.extend.ensures.most

pub invariant_of-self-2 : goal.invariant_of-self-2
invariant_of-self-2 c =
    let f = c.self.inside in
    let words : ℕ = (c.args.room + 63) / 64 in
    let blocks : ℕ = (words + 63) / 64 in
    let regions : ℕ = (blocks + 63) / 64 in
    let one_word = c.in_ok-extend.ensures.ok in
    let enough_blocks = c.in_ok-extend-2.ensures.ok in
    let enough_words = c.in_ok-extend-3.ensures.ok in
    IsTower-extended f.numbers f.words f.blocks f.regions c.extend-4.new.self c.extend-3.new.self c.extend-2.new.self c.extend.new.self words blocks
    regions c.self.invariant c.extend-4.ensures.bits c.extend-3.ensures.bits c.extend-2.ensures.bits c.extend.ensures.bits
    c.extend-4.ensures.most (omega arith) c.extend-3.ensures.most (omega arith) c.extend-2.ensures.most (omega arith) c.extend.ensures.most
