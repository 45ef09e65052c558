-- What a command leaves of the faults of the files where no call of its own failed.
use Rattle.std.proofs.Common.{◌≡◌, Result, Ok, Err, IfErr, sym, subst}
use Rattle.lnet_session.specs.declared.session.Stop.{Stop}
use Rattle.lnet_session.specs.declared.session.Stop.TheVariants as stops
use Rattle.lnet_session.specs.Calls.{at_fault}

pub no_fault : {T A : Type 0} (r : Result T Stop) (failed before now : A) → IfErr r (λ stop. stop ≡ stops.NoMemory) → now ≡ before → now ≡ at_fault r failed before
no_fault (Ok x) failed before now memory same = same
no_fault {T = T} {A = A} (Err stop) failed before now memory same = subst (λ (s : Stop). now ≡ at_fault {T = T} {A = A} (Err s) failed before) (sym memory) same
