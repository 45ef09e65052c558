use Rattle.std.proofs.Common.{◌≡◌, ℕ, true, false, sym, ◌∙◌, ap, arith}
use Rattle.std.proofs.lemmas.Bool.{eq-eqb, ne_eqb}
use Rattle.lnet_tables.specs.Bits.{is_set}
use Rattle.lnet_tables.proofs.Constants.{test_bit}
use Rattle.lnet_npn.proofs.Flips.{turned_to, turned_none, turned_all, turned_set, turned_unset, flip_below}
use Rattle.lnet_npn.proofs.transforms.flip_all.Goals as goal
use Rattle.lnet_npn.proofs.transforms.flip_all.Goals.{then-flips-variable-eq1, else-flips-variable-eq1}

pub loop-variable-init : goal.loop-variable-init
loop-variable-init c = λ x lt. ap (is_set c.args.word) (sym (turned_none c.args.flips x c.requires lt))

pub loop-variable-preserved : goal.loop-variable-preserved
loop-variable-preserved c =
    let f : ℕ = c.args.flips in
    let v : ℕ = c.loop-variable.variable in
    elim c.if-flips-variable-eq1.branch [
      | then-flips-variable-eq1 w ↦
          let e : is_set f v ≡ true = sym (test_bit f v) ∙ eq-eqb _ _ w.if-flips-variable-eq1.true in
          λ x lt. ap (λ n. is_set n x) w.out-is ∙ w.flipped-out.ensures x lt
          ∙ c.loop-variable.invariant _ (flip_below x v lt (omega arith))
          ∙ ap (is_set c.args.word) (turned_set f x v c.requires lt (omega arith) e)
      | else-flips-variable-eq1 w ↦
          let e : is_set f v ≡ false = sym (test_bit f v) ∙ ne_eqb _ _ w.if-flips-variable-eq1.false in
          λ x lt. ap (λ n. is_set n x) w.out-is ∙ c.loop-variable.invariant x lt ∙ ap (is_set c.args.word) (turned_unset f x v c.requires lt (omega arith) e)
    ]

pub returns : goal.returns
returns c =
    let e : c.loop-variable.variable ≡ 4 = omega arith in
    λ x lt. c.loop-variable.invariant x lt ∙ ap (is_set c.args.word) (ap (λ v. turned_to v c.args.flips x) e ∙ turned_all c.args.flips x c.requires lt)
