-- The call of the files that a command makes, when it makes it, and what is told of its failure.
use Rattle.std.specs.Prelude.{Option, Some, None, Result, Err}
use Rattle.lnet_edge.specs.Outside.{Call, call_of}
use Rattle.lnet_edge.specs.declared.outside.Direction.TheVariants.{Fetch, Store}
use Rattle.lnet_script.specs.declared.command.Command.{Command}
use Rattle.lnet_script.specs.declared.command.Command.TheVariants as command
use Rattle.lnet_script.specs.declared.command.WriteFormat.{WriteFormat}
use Rattle.lnet_session.specs.declared.session.Stop.{Stop}
use Rattle.lnet_session.specs.declared.session.Stop.TheVariants as stops
use Rattle.lnet_session.specs.Formats.{HasGatesOf}
use Rattle.lnet_session.specs.States.{Held, State}

-- the call of the files that a command makes, if it makes one
abbrev pub own_call : Command → Option Call
own_call (command.Read format name kind) = Some (call_of Fetch name)
own_call (command.Write format name) = Some (call_of Store name)
own_call _ = None

-- a network is in place whose gates the format has
abbrev pub CanWrite : WriteFormat → Option Held → Type 0
CanWrite format None = ⊥
CanWrite format (Some h) = HasGatesOf format h.network.kind

-- no cause that comes before that call keeps the command from it
abbrev pub MakesCall : Command → State → Type 0
MakesCall (command.Read format name kind) state = Unit {0}
MakesCall (command.Write format name) state = CanWrite format state.held
MakesCall _ state = ⊥

-- the first where that call failed, else the second
abbrev pub at_fault : {T A : Type 0} → Result T Stop → A → A → A
at_fault (Err stops.Fault) failed before = failed
at_fault _ failed before = before
