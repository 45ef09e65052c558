use Rattle.std.proofs.Common.{◌≡◌, Result, Err, sym, ap, ◌∙◌, arith}
use Rattle.lnet_store.specs.declared.store.AddError.{AddError}
use Rattle.lnet_store.specs.declared.store.AddError.TheVariants.{Full}
use Rattle.lnet_hashed.proofs.Adding.{placed-more}
use Rattle.lnet_hashed.proofs.placing.place_key.Goals as goal

error-same : {A : Type 0} {a b : AddError} → ◌≡◌ {A = Result A AddError} (Err a) (Err b) → a ≡ b
error-same e = cc

pub add_key-requires-clause-absent : goal.add_key-requires-clause-absent
add_key-requires-clause-absent g c = sym c.find.ensures.found ∙ c.in-None.is

pub returns-in-Ok-clause-full : goal.returns-in-Ok-clause-full
returns-in-Ok-clause-full g c =
    let more = placed-more c.args.hashed.now.store.network c.args.key c.args.phase (sym c.find.ensures.found ∙ c.in-None.is) in
    let limit = c.live_count-live.ensures.limit in
    let is = c.in-Ok.is in
    (λ e. cc, λ l. let all = c.add_key.ensures.full.1 (omega arith) in cc)

pub returns-in-Err-clause-full : goal.returns-in-Err-clause-full
returns-in-Err-clause-full g c =
    let more = placed-more c.args.hashed.now.store.network c.args.key c.args.phase (sym c.find.ensures.found ∙ c.in-None.is) in
    let limit = c.live_count-live.ensures.limit in
    (λ e. let same : c.in-Err.error ≡ Full = error-same e in let all = c.add_key.ensures.full.0 (c.in-Err.is ∙ ap Err same) in omega arith, λ l. ap Err (error-same (sym c.in-Err.is ∙ c.add_key.ensures.full.1 (omega arith))))

pub returns-in-Err-clause-memory : goal.returns-in-Err-clause-memory
returns-in-Err-clause-memory g c e =
    let more = placed-more c.args.hashed.now.store.network c.args.key c.args.phase (sym c.find.ensures.found ∙ c.in-None.is) in
    let low = c.add_key.ensures.memory (c.in-Err.is ∙ ap Err (error-same e)) in
    omega arith
