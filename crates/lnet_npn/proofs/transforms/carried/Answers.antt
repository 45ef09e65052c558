use Rattle.std.proofs.Common.{◌≡◌, ℕ, Bool, true, false, refl, sym, ◌∙◌, arith, get_or}
use Rattle.std.proofs.lemmas.Bool.{eq-eqb, ne_eqb}
use Rattle.lnet_tables.specs.Bits.{is_set, number_by}
use Rattle.lnet_tables.proofs.Constants.{test_bit}
use Rattle.lnet_npn.proofs.Bits.{room, more_set, more_unset}
use Rattle.lnet_npn.proofs.transforms.carried.Goals as goal
use Rattle.lnet_npn.proofs.transforms.carried.Goals.{then-flips-order-eq1, else-flips-order-eq1}

pub loop-variable-init : goal.loop-variable-init
unfolding number_by
loop-variable-init c = refl

pub overflow_add-out : goal.overflow_add-out
overflow_add-out c =
    record { fits = rw c.loop-variable.invariant (room (λ i. is_set c.args.flips (get_or c.args.order.now i 0)) 8 c.loop-variable.variable (omega arith)) }

pub loop-variable-preserved : goal.loop-variable-preserved
loop-variable-preserved c =
    let f : ℕ → Bool = λ i. is_set c.args.flips (get_or c.args.order.now i 0) in
    let i : ℕ = c.loop-variable.variable in
    elim c.if-flips-order-eq1.branch [
      | then-flips-order-eq1 w ↦
          let e : f i ≡ true = sym (test_bit c.args.flips (get_or c.args.order.now i 0)) ∙ eq-eqb _ _ w.if-flips-order-eq1.true in
          w.out-is ∙ rw c.loop-variable.invariant (more_set f 8 i (omega arith) e)
      | else-flips-order-eq1 w ↦
          let e : f i ≡ false = sym (test_bit c.args.flips (get_or c.args.order.now i 0)) ∙ ne_eqb _ _ w.if-flips-order-eq1.false in
          w.out-is ∙ rw c.loop-variable.invariant (more_unset f i e)
    ]

pub returns : goal.returns
returns c = let e : c.loop-variable.variable ≡ 4 = omega arith in rw (c.loop-variable.invariant, e) refl
