use Rattle.std.proofs.Common.{◌≡◌, List, ℕ, drop}
use Rattle.std.specs.List.{list_any}
use Rattle.lnet_edge.specs.Values.{row_holds}
use Rattle.lnet_rules.specs.Rules.{bits_of}
use Rattle.lnet_rules.proofs.covering.cover_holds.Given as goal

abbrev pub invariant-loop-k : goal.invariant-loop-k
invariant-loop-k l = list_any (λ (row : List ℕ). row_holds row (bits_of l.operands l.number)) (drop l.k l.cover.rows) ≡ list_any (λ (row : List ℕ). row_holds row (bits_of l.operands l.number)) l.cover.rows
