use Rattle.std.proofs.Common.{◌≡◌, get_or}
use Rattle.lnet_tables.specs.Bits.{is_set, number_by}
use Rattle.lnet_npn.proofs.transforms.carried.Given as goal

abbrev pub invariant-loop-variable : goal.invariant-loop-variable
invariant-loop-variable l = l.out ≡ number_by (λ i. is_set l.flips (get_or l.order i 0)) l.variable
