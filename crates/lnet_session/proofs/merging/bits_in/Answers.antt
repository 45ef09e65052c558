use Rattle.std.proofs.Common.{ap, length, arith}
use Rattle.lnet_session.proofs.Merged.{word-length, word-told}
use Rattle.lnet_session.proofs.merging.bits_in.Goals as goal

pub returns-then-word-count : goal.returns-then-word-count
returns-then-word-count c =
    λ bits word count.
    let some = c.if-count-eq0.false in
    let differ = c.if-word-count.true in
    let long = ap length word in
    let each = word-length bits (omega arith) in
    omega arith

pub returns-in-None : goal.returns-in-None
returns-in-None c =
    λ bits word count.
    let some = c.if-count-eq0.false in
    let same = c.if-word-count.false in
    let within = c.loop-byte-test.true in
    let end = c.loop-byte.auto.byte-index-end in
    word-told bits c.args.word.now c.loop-byte.byte-index 0 (omega arith) (omega arith) word c.in-None.ensures
