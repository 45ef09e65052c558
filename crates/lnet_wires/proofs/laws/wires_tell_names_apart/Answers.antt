use Rattle.lnet_wires.proofs.WireLaws.{apart, in_range, stays, sees}
use Rattle.lnet_wires.proofs.laws.wires_tell_names_apart.Goals as goal

pub returns-clause-apart : goal.returns-clause-apart
returns-clause-apart c = apart

pub returns-clause-range : goal.returns-clause-range
returns-clause-range c = in_range

pub returns-clause-stay : goal.returns-clause-stay
returns-clause-stay c = stays

pub returns-clause-seen : goal.returns-clause-seen
returns-clause-seen c = sees
