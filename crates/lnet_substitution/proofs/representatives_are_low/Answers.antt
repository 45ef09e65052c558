use Rattle.lnet_substitution.proofs.Levels.{substituted-images, substituted-low, levels-fall, depth-falls}
use Rattle.lnet_substitution.proofs.Onto.{reached-no-more}
use Rattle.lnet_substitution.proofs.representatives_are_low.Goals as goal

pub returns-clause-reached : goal.returns-clause-reached
returns-clause-reached c kind N o s Q can h n gate reached = substituted-images kind N o s can Q h n gate reached

pub returns-clause-low : goal.returns-clause-low
returns-clause-low c kind N o s Q can h n live = substituted-low kind N o s can Q h n live

pub returns-clause-levels : goal.returns-clause-levels
returns-clause-levels c kind N o s Q can h le n gate = levels-fall kind N o s can Q h le n gate

pub returns-clause-depth : goal.returns-clause-depth
returns-clause-depth c kind N o s Q can h le = depth-falls kind N o s can Q h le

pub returns-clause-no_more : goal.returns-clause-no_more
returns-clause-no_more c kind N o s Q can h after before swept clean = reached-no-more kind N o s can Q h after before swept clean
