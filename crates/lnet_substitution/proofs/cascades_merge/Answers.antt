use Rattle.lnet_substitution.proofs.Merging.{cascade-begins, cascade-merge}
use Rattle.lnet_substitution.proofs.Settling.{cascade-settle, cascade-ends}
use Rattle.lnet_substitution.proofs.cascades_merge.Goals as goal

pub returns-clause-begin : goal.returns-clause-begin
returns-clause-begin c kind N o s dirty can down up =
    cascade-begins kind N o s can.gate.0 can.gate.1 can.acyclic can.strashed can.whole can.free can.live dirty down up

pub returns-clause-merge : goal.returns-clause-merge
returns-clause-merge c kind N o s C rep dirty later x g t can I at x_dirty ne live joins after =
    cascade-merge kind N o s can.gate.0 can.gate.1 can.strashed.native C rep dirty I x g at x_dirty t later ne live joins after

pub returns-clause-settle : goal.returns-clause-settle
returns-clause-settle c kind N o s C rep dirty later x g k phase I at x_dirty is unused after =
    cascade-settle kind N o s C rep dirty I x g at x_dirty k phase later is unused after

pub returns-clause-end : goal.returns-clause-end
returns-clause-end c kind N o s C rep dirty I clean = cascade-ends kind N o s C rep dirty I clean
