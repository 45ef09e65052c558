use Rattle.std.proofs.Common.{refl}
use Rattle.lnet_session.proofs.Places.{good-after, on-err, state-after}
use Rattle.lnet_session.proofs.session.Session.shelve_views.Goals as goal

pub returns-in-Err-clause-err : goal.returns-in-Err-clause-err
returns-in-Err-clause-err g c =
    state-after (λ b. goal.View-dyn g (b.vtable, b.value)) c.args.self.now _ c.shelve_all-shelved.new.self c.in-Some.place c.shelve_all-shelved.new.net c.in-Some.is refl c.shelve_all-shelved.ensures.core (on-err c.shelve_all-shelved.result c.in-Err.field-0 _ c.in-Err.is c.shelve_all-shelved.ensures.same)

pub returns-in-Err-clause-good : goal.returns-in-Err-clause-good
returns-in-Err-clause-good g c =
    good-after (λ b. goal.View-dyn g (b.vtable, b.value)) c.args.self.now _ c.shelve_all-shelved.new.self c.in-Some.place c.shelve_all-shelved.new.net c.in-Some.is refl c.shelve_all-shelved.ensures.core c.requires.good c.shelve_all-shelved.ensures.in_step (on-err c.shelve_all-shelved.result c.in-Err.field-0 _ c.in-Err.is c.shelve_all-shelved.ensures.follow)
