use Rattle.std.proofs.Common.{ap, ◌∙◌, ◌^◌, ◌≤◌, bit_and, w64, subst, sym}
use Rattle.std.specs.Prelude.{count_ones, bit_xor}
use Rattle.std.specs.Int.{bit_not}
use Rattle.std.proofs.lemmas.Nat.{xor_lt}
use Rattle.lnet_resyn.specs.Majority.{word_rows}
use Rattle.lnet_resyn.proofs.Words.{agreed, agreements-le}
use Rattle.lnet_resyn.proofs.majority.agreements.Goals as goal

pub returns-clause-value : goal.returns-clause-value
returns-clause-value c =
    ap (λ m. count_ones (bit_and (bit_not w64 (bit_xor c.args.target c.args.word)) m)) c.first_rows.ensures.value
    ∙ agreed c.args.vars c.args.target c.args.word c.requires.few (xor_lt 64 c.args.target c.args.word c.ranges.target.fits c.ranges.word.fits)

pub returns-clause-few : goal.returns-clause-few
returns-clause-few c = subst (λ z. z ≤ 2 ^ c.args.vars) (sym (returns-clause-value c)) (agreements-le (word_rows c.args.vars c.args.target) (word_rows c.args.vars c.args.word))
