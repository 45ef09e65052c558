use Rattle.std.proofs.Common.{◌≡◌, ◌≤◌}
use Rattle.lnet_cascade.proofs.Outputs.{outputs_half}
use Rattle.lnet_cascade.proofs.redirecting.redirect_each_output.Given as goal

-- the outputs below k are redirected
abbrev pub invariant-loop-k : goal.invariant-loop-k
invariant-loop-k l = record {
  half : l.store.network ≡ outputs_half l.fn.store.network l.redirection.from.0 l.redirection.to l.k;
  spare : l.fn.store.spare ≤ l.store.spare;
}
