use Rattle.std.proofs.Common.{refl}
use Rattle.lnet_session.proofs.Merged.{merged-good, merged-held}
use Rattle.lnet_session.proofs.session.Session.merge.Goals as goal

pub returns-in-Some-clause-merges : goal.returns-in-Some-clause-merges
returns-in-Some-clause-merges g c =
    merged-held (λ b. goal.View-dyn g (b.vtable, b.value)) c.args.self.now _ c.in-Some.place c.merge_in-merged.new.net c.in-Some.is refl c.merge_in-merged.result c.args.n.0 c.args.s c.merge_in-merged.ensures.merges

pub returns-in-Some-clause-good : goal.returns-in-Some-clause-good
returns-in-Some-clause-good g c =
    merged-good (λ b. goal.View-dyn g (b.vtable, b.value)) c.args.self.now _ c.in-Some.place c.merge_in-merged.new.net c.in-Some.is refl c.requires.good c.merge_in-merged.ensures.sound c.merge_in-merged.ensures.inputs c.merge_in-merged.ensures.outputs c.merge_in-merged.ensures.in_step.fit c.merge_in-merged.ensures.in_step.same
