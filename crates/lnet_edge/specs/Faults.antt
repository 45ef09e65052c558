-- Failed calls of files as contracts see them: how many there were, and the last one.
use Rattle.std.specs.Prelude.{ℕ, Option, Some, None}
use Rattle.lnet_edge.specs.Outside.{Call}
use Rattle.lnet_edge.specs.declared.outside.FailedCall.{FailedCall}
use Rattle.lnet_edge.specs.declared.faults.Faults.{Faults}

-- how many calls failed, and the last of them
pub record FaultsValue : Type 0 where
  pub count : ℕ
  pub last : Option Call

-- the call that a failed call was
abbrev pub the_call : FailedCall → Call
the_call f = record { direction = f.direction; name = f.name.items }

-- the same of the last failed call, where there is one
abbrev pub seen_call : Option FailedCall → Option Call
seen_call None = None
seen_call (Some f) = Some (the_call f)

-- what contracts see of the faults
abbrev pub faults_value : Faults → FaultsValue
faults_value f = record { count = f.count; last = seen_call f.last }
