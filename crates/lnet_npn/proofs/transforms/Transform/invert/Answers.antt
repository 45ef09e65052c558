use Rattle.std.proofs.Common.{rules}
use Rattle.lnet_npn.specs.Transforms.{undone}
use Rattle.lnet_npn.proofs.Images.{lawful_as, back_as}
use Rattle.lnet_npn.proofs.transforms.Transform.invert.Goals as goal

pub returns-clause-value : goal.returns-clause-value
unfolding undone
returns-clause-value c = search rules

pub returns-clause-lawful : goal.returns-clause-lawful
returns-clause-lawful c = lawful_as _ c.args.self.now (returns-clause-value c) c.requires.lawful

pub returns-clause-back : goal.returns-clause-back
returns-clause-back c = back_as _ c.args.self.now (returns-clause-value c) c.requires.lawful
