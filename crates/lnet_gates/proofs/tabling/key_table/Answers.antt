use Rattle.std.proofs.Common.{◌≡◌, ◌≤◌, ◌^◌, ap, sym, ◌∙◌, arith, pow_mono}
use Rattle.lnet_tables.specs.Bits.{is_set}
use Rattle.lnet_tables.proofs.Ops.{set_not}
use Rattle.lnet_gates.specs.Gates.{flip}
use Rattle.lnet_gates.proofs.WordLemmas.{first-kept}
use Rattle.lnet_gates.proofs.tabling.key_table.Goals as goal
use Rattle.lnet_gates.proofs.tabling.key_table.Goals.{then-complement, else-complement}

pub returns-clause-rows : goal.returns-clause-rows
returns-clause-rows c = λ r lt.
    let most : 2 ^ c.args.count ≤ 2 ^ 6 = pow_mono {i = c.args.count} {j = 6} c.requires in
    first-kept c.if-complement.rows c.first_rows.result c.args.count r c.requires lt c.first_rows.ensures.rows
    ∙ elim c.if-complement.branch as (λ _. is_set c.if-complement.rows r ≡ flip c.args.complement (is_set c.args.table r)) [
      | then-complement w ↦ ap (λ x. is_set x r) w.rows-is ∙ set_not c.args.table r c.ranges.table.fits (omega arith) ∙ ap (λ b. flip b (is_set c.args.table r)) (sym w.if-complement.true)
      | else-complement w ↦ ap (λ x. is_set x r) w.rows-is ∙ ap (λ b. flip b (is_set c.args.table r)) (sym w.if-complement.false)
    ]
