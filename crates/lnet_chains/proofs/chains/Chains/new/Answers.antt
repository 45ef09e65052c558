use Rattle.lnet_chains.proofs.Shown.{shows-nothing}
use Rattle.lnet_chains.proofs.chains.Chains.new.Goals as goal

pub invariant_of-result : goal.invariant_of-result
invariant_of-result c = rw (c.new.ensures.items, c.new-2.ensures.items, c.new-3.ensures.items) shows-nothing.chains

pub returns : goal.returns
returns c = rw (c.new.ensures.items, c.new-2.ensures.items) shows-nothing.value
