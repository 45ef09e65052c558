use Rattle.std.proofs.Common.{◌≡◌, Err, refl}
use Rattle.lnet_subscriptions.specs.declared.roll.AttachError.{AttachError}
use Rattle.lnet_session.proofs.Places.{on-err, good-after, held-after, held-some, state-after}
use Rattle.lnet_session.proofs.session.Session.view.Goals as goal

pub returns-in-Ok-clause-views : goal.returns-in-Ok-clause-views
returns-in-Ok-clause-views g c =
    (held-some c.args.self.now.place c.in-Some.place c.in-Some.is, c.in-Ok.ensures.number, refl, held-after c.args.self.now.place _ c.in-Some.place c.attach-attached.new.net c.in-Some.is refl c.attach-attached.ensures.core, c.in-Ok.ensures.attaches)

pub returns-in-Ok-clause-good : goal.returns-in-Ok-clause-good
returns-in-Ok-clause-good g c =
    good-after (λ b. goal.View-dyn g (b.vtable, b.value)) c.args.self.now _ c.attach-attached.new.self c.in-Some.place c.attach-attached.new.net c.in-Some.is refl c.attach-attached.ensures.core c.requires.good c.attach-attached.ensures.in_step c.attach-attached.ensures.follow

pub returns-in-Err-ShelfEmpty-clause-views : goal.returns-in-Err-ShelfEmpty-clause-views
returns-in-Err-ShelfEmpty-clause-views g c =
    let empty : c.attach-attached.result ≡ Err AttachError.ShelfEmpty = rw (← c.in-Err-ShelfEmpty.field-0-is) (rw c.in-Err-ShelfEmpty.is refl) in
    (held-some c.args.self.now.place c.in-Some.place c.in-Some.is, c.attach-attached.ensures.empty.0 empty, state-after (λ b. goal.View-dyn g (b.vtable, b.value)) c.args.self.now _ c.attach-attached.new.self c.in-Some.place c.attach-attached.new.net c.in-Some.is refl c.attach-attached.ensures.core (on-err c.attach-attached.result c.in-Err-ShelfEmpty.field-0 _ c.in-Err-ShelfEmpty.is c.attach-attached.ensures.same))

pub returns-in-Err-ShelfEmpty-clause-good : goal.returns-in-Err-ShelfEmpty-clause-good
returns-in-Err-ShelfEmpty-clause-good g c =
    good-after (λ b. goal.View-dyn g (b.vtable, b.value)) c.args.self.now _ c.attach-attached.new.self c.in-Some.place c.attach-attached.new.net c.in-Some.is refl c.attach-attached.ensures.core c.requires.good c.attach-attached.ensures.in_step c.attach-attached.ensures.follow

pub returns-in-Err-NoMemory-clause-err : goal.returns-in-Err-NoMemory-clause-err
returns-in-Err-NoMemory-clause-err g c =
    state-after (λ b. goal.View-dyn g (b.vtable, b.value)) c.args.self.now _ c.attach-attached.new.self c.in-Some.place c.attach-attached.new.net c.in-Some.is refl c.attach-attached.ensures.core (on-err c.attach-attached.result c.in-Err-NoMemory.field-0 _ c.in-Err-NoMemory.is c.attach-attached.ensures.same)

pub returns-in-Err-NoMemory-clause-good : goal.returns-in-Err-NoMemory-clause-good
returns-in-Err-NoMemory-clause-good g c =
    good-after (λ b. goal.View-dyn g (b.vtable, b.value)) c.args.self.now _ c.attach-attached.new.self c.in-Some.place c.attach-attached.new.net c.in-Some.is refl c.attach-attached.ensures.core c.requires.good c.attach-attached.ensures.in_step c.attach-attached.ensures.follow
