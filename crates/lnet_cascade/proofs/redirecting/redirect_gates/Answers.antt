use Rattle.std.proofs.Common.{[], ◌∙◌}
use Rattle.lnet_hashed.proofs.KeptViews.{told_twice}
use Rattle.lnet_cascade.proofs.RedirectedAll.{some-more, some-all, marks-more, fewer}
use Rattle.lnet_cascade.proofs.NoteSteps.{follow-twice}
use Rattle.lnet_cascade.proofs.redirecting.redirect_gates.Goals as goal

pub parents-smaller : goal.parents-smaller
parents-smaller g c =
    fewer c.args.hashed.now.store.network c.parents.hashed.store.network c.redirect_at.new.hashed.store.network c.args.redirection.from.0 c.args.redirection.to c.in-Some.parent.0
    (λ e. c.requires.free ([], c.requires.live, e)) c.parents.invariant.redirected c.redirect_at.ensures.redirected c.in-Some.ensures

pub parents-preserved : goal.parents-preserved
parents-preserved g c =
    let I = c.parents.invariant in
    let E = c.redirect_at.ensures in
    record {
      redirected = some-more c.args.hashed.now.store.network c.parents.hashed.store.network c.redirect_at.new.hashed.store.network c.args.redirection.from.0 c.args.redirection.to
          c.in-Some.parent.0 (λ e. c.requires.free ([], c.requires.live, e)) I.redirected E.redirected c.in-Some.ensures;
      dirty = marks-more c.args.hashed.now.store.network c.parents.hashed.store.network c.redirect_at.new.hashed.store.network c.args.redirection.from.0 c.args.redirection.to
          c.in-Some.parent.0 (λ e. c.requires.free ([], c.requires.live, e)) I.redirected E.redirected c.in-Some.ensures
          c.args.hashed.now.keys.dirty c.parents.hashed.keys.dirty c.redirect_at.new.hashed.keys.dirty I.dirty E.dirty;
      midway = record { midway = E.midway.midway; room = E.midway.room ∙ I.midway.room; noted = follow-twice I.midway.noted E.midway.noted };
      told = told_twice I.told E.told;
    }

pub returns-clause-redirected : goal.returns-clause-redirected
returns-clause-redirected g c = some-all c.args.hashed.now.store.network c.parents.hashed.store.network c.args.redirection.from.0 c.args.redirection.to c.parents.invariant.redirected c.in_default.ensures
