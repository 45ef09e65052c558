use Rattle.std.proofs.Common.{ℕ, List, None, Err, refl, subst}
use Rattle.lnet_edge.specs.Outside.{Fetches}
use Rattle.lnet_edge.specs.declared.outside.FetchError.{FetchError}
use Rattle.lnet_edge.specs.declared.outside.FetchError.TheVariants as fetch
use Rattle.lnet_session.proofs.Long.{too_long}
use Rattle.lnet_session.proofs.session.Session.read_file.Goals as goal

pub returns-in-Err-TooLong-clause-reads : goal.returns-in-Err-TooLong-clause-reads
returns-in-Err-TooLong-clause-reads g c =
    let told = g.F.Files.contents c.args.files.now in
    let h = subst (λ (e : FetchError). Fetches told c.as_str.result.now (Err e)) c.in-Err-TooLong.field-0-is c.in-Err-TooLong.ensures.content in
    let b = too_long told c.args.name.now (subst (λ (n : List ℕ). Fetches told n (Err fetch.TooLong)) c.as_str.ensures.value h) in
    (b.0, b.1, (None, (refl, b.2, refl)))
