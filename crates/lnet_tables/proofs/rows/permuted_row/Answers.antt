use Rattle.std.proofs.Common.{sym, refl, ◌∙◌, ℕ, ◌≡◌, arith, true, false, Bool, get_or}
use Rattle.lnet_tables.specs.Bits.{is_set, number_by}
use Rattle.lnet_tables.proofs.RowNumbers.{number_below, number_more, number_under, one_is}
use Rattle.lnet_tables.proofs.Constants.{test_bit}
use Rattle.std.proofs.lemmas.Bool.{eq-eqb, ne_eqb}
use Rattle.lnet_tables.proofs.rows.permuted_row.Goals as goal
use Rattle.lnet_tables.proofs.rows.permuted_row.Goals.{then-row-order-eq1, else-row-order-eq1}

pub loop-i-init : goal.loop-i-init
unfolding number_by
loop-i-init c = refl

pub overflow_add-out : goal.overflow_add-out
overflow_add-out c =
    record { fits = rw c.loop-i.invariant (number_under (λ i. is_set c.args.row (get_or c.args.order.now i 0)) c.loop-i.i c.args.vars c.loop-i-test.true c.requires.few) }

pub loop-i-preserved : goal.loop-i-preserved
loop-i-preserved c =
    let f : ℕ → Bool = λ i. is_set c.args.row (get_or c.args.order.now i 0) in
    elim c.if-row-order-eq1.branch [
      | then-row-order-eq1 w ↦
          let e : f c.loop-i.i ≡ true = sym (test_bit c.args.row (get_or c.args.order.now c.loop-i.i 0)) ∙ eq-eqb _ _ w.if-row-order-eq1.true in
          rw (w.out-is, c.loop-i.invariant, number_more f c.loop-i.i, e, one_is c.loop-i.i (omega arith)) refl
      | else-row-order-eq1 w ↦
          let e : f c.loop-i.i ≡ false = sym (test_bit c.args.row (get_or c.args.order.now c.loop-i.i 0)) ∙ ne_eqb _ _ w.if-row-order-eq1.false in
          rw (w.out-is, c.loop-i.invariant, number_more f c.loop-i.i, e) (omega arith)
    ]

pub returns-clause-inside : goal.returns-clause-inside
returns-clause-inside c =
    let e : c.loop-i.i ≡ c.args.vars = omega arith in
    rw (c.loop-i.invariant, e) (number_below (λ i. is_set c.args.row (get_or c.args.order.now i 0)) c.args.vars)
