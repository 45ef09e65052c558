-- Bits with further ones after them that aren't set.
use Rattle.std.proofs.Common.{◌≡◌, ℕ, ◌-◌, ◌≤◌, ◌∙◌, ap, sym, arith, Bool, false, List, ◌++◌, length, replicate, take}
use Rattle.std.proofs.lemmas.List.{append-nil, length-append, take-append-le}
use Rattle.lnet_numbers.specs.Words.{bit, GainsClearBits}
use Rattle.lnet_numbers.proofs.Padding.{get_or-append_default}

pub bit-extended : (old new : List Bool) (n : ℕ) → GainsClearBits old new → bit new n ≡ bit old n
bit-extended old new n gains = ap (λ bits. bit bits n) gains ∙ get_or-append_default false old (length new - length old) n

pub length-extended : (old new : List Bool) → GainsClearBits old new → length old ≤ length new
length-extended old new gains = omega (arith, ap length gains, length-append old (replicate (length new - length old) false))

pub GainsClearBits-none : (bits : List Bool) → GainsClearBits bits bits
GainsClearBits-none bits =
    let none : length bits - length bits ≡ 0 = omega arith in
    sym (ap (λ k. bits ++ replicate k false) none ∙ append-nil bits)

pub take-extended : (old new : List Bool) (n : ℕ) → GainsClearBits old new → n ≤ length old → take n new ≡ take n old
take-extended old new n gains inside = ap (λ bits. take n bits) gains ∙ take-append-le n old (replicate (length new - length old) false) inside
