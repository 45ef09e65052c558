use Rattle.std.proofs.Common.{sym, arith}
use Rattle.std.proofs.lemmas.Bool.Decides.{nat_tests}
use Rattle.std.proofs.lemmas.List.Sums.{position_or_len_is}
use Rattle.lnet_aiger.specs.Header.{is_space}
use Rattle.lnet_aiger.proofs.header.word_len.Goals as goal

pub returns-then-byte-eq32-clause-place : goal.returns-then-byte-eq32-clause-place
returns-then-byte-eq32-clause-place c = sym (position_or_len_is is_space c.args.bytes.now c.loop-i.i 0 (omega arith) c.loop-i.invariant (λ _. grind (arith, nat_tests)))

pub returns-clause-place : goal.returns-clause-place
returns-clause-place c = sym (position_or_len_is is_space c.args.bytes.now _ 0 (omega arith) (λ k lt. c.loop-i.invariant k (omega arith)) (λ lt. absurd (omega arith)))
