use Rattle.std.proofs.Common.{◌≡◌, get_or}
use Rattle.lnet_tables.specs.Bits.{is_set, number_by}
use Rattle.lnet_tables.proofs.rows.permuted_row.Given as goal

abbrev pub invariant-loop-i : goal.invariant-loop-i
invariant-loop-i l = l.out ≡ number_by (λ i. is_set l.row (get_or l.order i 0)) l.i
