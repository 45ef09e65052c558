use Rattle.std.proofs.Common.{◌≡◌, Bool, None, Some, sym, ap, subst, ◌∙◌}
use Rattle.lnet_strash.specs.Standing.{Standing, KeysDiffer, at, entry}
use Rattle.lnet_strash.proofs.Links.{get_or-is}
use Rattle.lnet_strash.proofs.Tables.{place-inside, place-phase}
use Rattle.lnet_strash.proofs.Entries.{no-entry, entry-at, at-entry}
use Rattle.lnet_strash.proofs.table.Strash.find.Goals as goal

pub returns-in_err-found-clause-entry : goal.returns-in_err-found-clause-entry
returns-in_err-found-clause-entry c =
    c.from_residual.ensures ∙ sym (no-entry c.self.inside.chains.standing.items c.args.key.now c.in_err-found.ensures.found) ∙ ap (λ t. entry t c.args.key.now) c.self.view_is

pub returns-in-Some-clause-entry : goal.returns-in-Some-clause-entry
returns-in-Some-clause-entry c =
    let t : Standing = c.self.inside.chains.standing.items in
    let stands = c.in_ok-found.ensures.found.stands in
    let inside = place-inside t c.in_ok-found.found.number (c.args.key.now, stands.0) stands.1 in
    let read : at t c.in_ok-found.found.number ≡ Some (c.in-Some.field-0-0, c.in-Some.phase) = sym (get_or-is t c.in_ok-found.found.number c.index.result.now None inside c.index.ensures) ∙ c.in-Some.is in
    let phase : stands.0 ≡ c.in-Some.phase = place-phase (c.args.key.now, stands.0) (c.in-Some.field-0-0, c.in-Some.phase) (sym stands.1 ∙ read) in
    ap (λ (p : Bool). Some (record { 0 = c.in_ok-found.found.number }, p)) (sym phase) ∙ sym (entry-at t c.self.invariant.differ c.args.key.now c.in_ok-found.found.number stands.0 stands.1) ∙ ap (λ z. entry z c.args.key.now) c.self.view_is

pub returns-in-Some-clause-stands : goal.returns-in-Some-clause-stands
returns-in-Some-clause-stands c = λ n p.
    let is = returns-in-Some-clause-entry c in
    (λ h. at-entry c.args.self.now c.args.key.now n p (sym is ∙ h), λ h. is ∙ entry-at c.args.self.now (subst KeysDiffer c.self.view_is c.self.invariant.differ) c.args.key.now n.0 p h)
