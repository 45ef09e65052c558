use Rattle.std.proofs.Common.{◌≡◌, ◌+◌, ◌*◌, ◌^◌, ◌-◌, arith, ap, ◌∙◌}
use Rattle.std.proofs.lemmas.Nat.{pow_below, pow-add, one_shl}
use Rattle.lnet_tables.proofs.Constants.{pow_within}
use Rattle.lnet_tables.proofs.words.word_count.Goals as goal

pub returns-then-vars-lt6-clause-rows : goal.returns-then-vars-lt6-clause-rows
returns-then-vars-lt6-clause-rows c = λ r lt. omega (arith, pow_below c.args.vars 6 c.if-vars-lt6.true)

pub returns-else-vars-lt6-clause-few : goal.returns-else-vars-lt6-clause-few
returns-else-vars-lt6-clause-few c = rw (one_shl (c.args.vars - 6) 64 (omega arith)) (pow_within (c.args.vars - 6) 4 (omega arith))

pub returns-else-vars-lt6-clause-rows : goal.returns-else-vars-lt6-clause-rows
returns-else-vars-lt6-clause-rows c = λ r lt.
    let n : c.args.vars ≡ 6 + (c.args.vars - 6) = omega arith in
    let e : 2 ^ c.args.vars ≡ 64 * 2 ^ (c.args.vars - 6) = ap (λ k. 2 ^ k) n ∙ pow-add 2 6 (c.args.vars - 6) in
    rw (one_shl (c.args.vars - 6) 64 (omega arith)) (omega arith)
