use Rattle.std.proofs.Common.{◌≡◌, ◌+◌, ◌-◌, ◌*◌}
use Rattle.std.specs.List.{range_with_len}
use Rattle.lnet_resyn.specs.Majority.{first_pool, literal_among, literal_of}
use Rattle.lnet_resyn.proofs.majority.literal_of.Given as goal

abbrev pub invariant-loop-literal : goal.invariant-loop-literal
invariant-loop-literal l = literal_of l.table ≡ literal_among l.table (first_pool l.table.vars) (range_with_len l.literal (2 * (l.table.vars + 1) - l.literal))
