use Rattle.std.proofs.Common.{◌≡◌, Err, refl}
use Rattle.lnet_subscriptions.specs.declared.roll.DropError.{DropError}
use Rattle.lnet_session.proofs.Places.{on-err, good-after, held-after, held-some, state-after}
use Rattle.lnet_session.proofs.session.Session.put_back.Goals as goal

pub returns-in-Ok-clause-back : goal.returns-in-Ok-clause-back
returns-in-Ok-clause-back g c =
    (held-some c.args.self.now.place c.in-Some.place c.in-Some.is, refl, held-after c.args.self.now.place _ c.in-Some.place c.drop_view-dropped.new.net c.in-Some.is refl c.drop_view-dropped.ensures.core, c.in-Ok.ensures.drops)

pub returns-in-Ok-clause-good : goal.returns-in-Ok-clause-good
returns-in-Ok-clause-good g c =
    good-after (λ b. goal.View-dyn g (b.vtable, b.value)) c.args.self.now _ c.drop_view-dropped.new.self c.in-Some.place c.drop_view-dropped.new.net c.in-Some.is refl c.drop_view-dropped.ensures.core c.requires.good c.drop_view-dropped.ensures.in_step c.drop_view-dropped.ensures.follow

pub returns-in-Err-NoView-clause-back : goal.returns-in-Err-NoView-clause-back
returns-in-Err-NoView-clause-back g c =
    let none : c.drop_view-dropped.result ≡ Err DropError.NoView = rw (← c.in-Err-NoView.field-0-is) (rw c.in-Err-NoView.is refl) in
    (held-some c.args.self.now.place c.in-Some.place c.in-Some.is, c.drop_view-dropped.ensures.none.0 none, state-after (λ b. goal.View-dyn g (b.vtable, b.value)) c.args.self.now _ c.drop_view-dropped.new.self c.in-Some.place c.drop_view-dropped.new.net c.in-Some.is refl c.drop_view-dropped.ensures.core (on-err c.drop_view-dropped.result c.in-Err-NoView.field-0 _ c.in-Err-NoView.is c.drop_view-dropped.ensures.same))

pub returns-in-Err-NoView-clause-good : goal.returns-in-Err-NoView-clause-good
returns-in-Err-NoView-clause-good g c =
    good-after (λ b. goal.View-dyn g (b.vtable, b.value)) c.args.self.now _ c.drop_view-dropped.new.self c.in-Some.place c.drop_view-dropped.new.net c.in-Some.is refl c.drop_view-dropped.ensures.core c.requires.good c.drop_view-dropped.ensures.in_step c.drop_view-dropped.ensures.follow

pub returns-in-Err-NoMemory-clause-err : goal.returns-in-Err-NoMemory-clause-err
returns-in-Err-NoMemory-clause-err g c =
    state-after (λ b. goal.View-dyn g (b.vtable, b.value)) c.args.self.now _ c.drop_view-dropped.new.self c.in-Some.place c.drop_view-dropped.new.net c.in-Some.is refl c.drop_view-dropped.ensures.core (on-err c.drop_view-dropped.result c.in-Err-NoMemory.field-0 _ c.in-Err-NoMemory.is c.drop_view-dropped.ensures.same)

pub returns-in-Err-NoMemory-clause-good : goal.returns-in-Err-NoMemory-clause-good
returns-in-Err-NoMemory-clause-good g c =
    good-after (λ b. goal.View-dyn g (b.vtable, b.value)) c.args.self.now _ c.drop_view-dropped.new.self c.in-Some.place c.drop_view-dropped.new.net c.in-Some.is refl c.drop_view-dropped.ensures.core c.requires.good c.drop_view-dropped.ensures.in_step c.drop_view-dropped.ensures.follow
