use Rattle.std.proofs.Common.{◌<◌, ℕ}
use Rattle.lnet_edge.specs.CircuitLists.{equation_views}
use Rattle.lnet_edge.proofs.PlainLemmas.{PlainAt}
use Rattle.lnet_edge.proofs.plain.are_plain.Given as goal

abbrev pub invariant-loop-place : goal.invariant-loop-place
invariant-loop-place l = (i : ℕ) → i < l.place → PlainAt (equation_views l.equations) i
