use Rattle.std.proofs.Common.{◌≡◌, ◌<◌, arith, subst, sym, Bool, ap, ◌∙◌}
use Rattle.std.proofs.lemmas.Nat.{one_shl}
use Rattle.lnet_tables.specs.Bits.{row as row_of, Rows}
use Rattle.lnet_tables.specs.Words.{word_bit}
use Rattle.lnet_tables.specs.Inverse.{row_inside}
use Rattle.lnet_tables.proofs.Ops.{bit_zeros}
use Rattle.lnet_tables.proofs.Constants.{few_rows}
use Rattle.lnet_tables.proofs.Rowwise.{rows_long}
use Rattle.lnet_tables.proofs.rows.by_test.Goals as goal

pub loop-row-init : goal.loop-row-init
loop-row-init g c = (λ k lt. absurd (omega arith), λ k ge. bit_zeros k)

pub set_row-requires : goal.set_row-requires
set_row-requires g c = omega (arith, few_rows c.args.vars c.requires.few, one_shl c.args.vars 16 (omega arith), c.loop-row-test.true)

pub returns-clause-long : goal.returns-clause-long
returns-clause-long g c = rw c.from_words.ensures (rows_long c.args.vars (word_bit c.loop-row.words))

pub returns-clause-rows : goal.returns-clause-rows
returns-clause-rows g c = λ r lt.
    let below : r < c.loop-row.row = omega (arith, one_shl c.args.vars 16 (omega (arith, c.requires.few)), c.loop-row-test.false) in
    let e : word_bit c.loop-row.words r ≡ row_of c.from_words.result r =
    sym (ap (λ (t : Rows). row_of t r) c.from_words.ensures ∙ row_inside c.args.vars (word_bit c.loop-row.words) r lt) in
    let P : Bool → Type 0 = λ b. goal.F-post g c.args.test r b in
    subst P e (c.loop-row.invariant.0 r below)
