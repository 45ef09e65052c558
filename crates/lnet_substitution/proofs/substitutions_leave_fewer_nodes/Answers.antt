use Rattle.lnet_substitution.proofs.Fewer.{live-old, fewer-live}
use Rattle.lnet_substitution.proofs.substitutions_leave_fewer_nodes.Goals as goal

pub returns-clause-live : goal.returns-clause-live
returns-clause-live c kind N o s Q can h n live = live-old kind N o s can Q h n live

pub returns-clause-count : goal.returns-clause-count
returns-clause-count c kind N o s Q can h = fewer-live kind N o s can Q h
