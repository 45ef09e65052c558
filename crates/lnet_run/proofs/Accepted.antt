-- A script that was accepted and run.
use Rattle.std.proofs.Common.{◌≡◌, ℕ, ◌≤◌, All, List, [], ◌∷◌, length, Option, Some, None, ap, ◌∙◌, sym, subst}
use Rattle.lnet_edge.specs.Outside.{Contents, Call}
use Rattle.lnet_edge.specs.Circuits.{CircuitValue}
use Rattle.lnet_script.specs.declared.command.Command.{Command}
use Rattle.lnet_run.specs.declared.running.RunEnd.{RunEnd}
use Rattle.lnet_run.specs.declared.top.Ending.{Ending}
use Rattle.std.proofs.lemmas.List.Elements.{All-nil, All-cons}
use Rattle.lnet_model.specs.declared.view_spec.ViewSpec.TheVariants as views
use Rattle.lnet_script.specs.declared.command.Command.TheVariants as command
use Rattle.lnet_script.specs.Pieces.{Piece}
use Rattle.lnet_script.specs.Spelling.{Spells}
use Rattle.lnet_script.specs.Scripts.{AreSpelled, IsScript, script_limit}
use Rattle.lnet_session.specs.States.{State}
use Rattle.lnet_session.specs.Steps.{IsCommand, World}
use Rattle.lnet_run.specs.Runs.{RunsTo}
use Rattle.lnet_run.specs.Ends.{script_of, RanScript, EndsAs}

-- what is known of a parsed script
abbrev pub IsParsed : List ℕ → List Command → Type 0
IsParsed bytes commands = (length bytes ≤ script_limit) × IsScript bytes commands

pub ran_script : (words : List (List ℕ)) (word bytes : List ℕ) (parsed commands : List Command) (end : RunEnd) (old new : World) → script_of words ≡ Some word → bytes ≡ word → IsParsed bytes parsed → commands ≡ parsed → ((origin : Option CircuitValue) × RunsTo commands end None old new origin) → (origin : Option CircuitValue) × RanScript words end old new origin
ran_script words word bytes parsed commands end old new at same found is runs = (
  runs.0,
  record {
    commands = parsed;
    accepted = record { bytes = bytes; word = at ∙ ap Some (sym same); short = found.0; script = found.1 };
    runs = subst (λ (cs : List Command). RunsTo cs end None old new runs.0) is runs.1;
  },
)

-- a run from the state of a new session
pub from_start : (words : List (List ℕ)) (end : Ending) (state start : State) (contents : Option Contents) (written : Option (List ℕ)) (file_faults : ℕ) (last : Option Call) (sink_faults : ℕ) (new : World) → state ≡ start
    → ((origin : Option CircuitValue) × EndsAs words end (record { state = state; contents = contents; written = written; file_faults = file_faults; last = last; sink_faults = sink_faults }) new origin)
    → (origin : Option CircuitValue) × EndsAs words end (record { state = start; contents = contents; written = written; file_faults = file_faults; last = last; sink_faults = sink_faults }) new origin
from_start words end state start contents written file_faults last sink_faults new same e =
    (e.0, subst (λ (s : State). EndsAs words end (record { state = s; contents = contents; written = written; file_faults = file_faults; last = last; sink_faults = sink_faults }) new e.0) same e.1)

-- what is spelled is within the limits of commands
spelled-are : (c : Command) (words : List (List ℕ)) → Spells words c → IsCommand c
spelled-are (command.Read format name kind) words h = tt
spelled-are (command.Write format name) words h = tt
spelled-are (command.Gen kind g) words h = (h.0, h.1, h.2)
spelled-are (command.View views.Depth) words h = tt
spelled-are (command.View views.Fanout) words h = absurd h
spelled-are (command.View (views.Cuts rule)) words h = absurd h
spelled-are (command.Drop v) words h = tt
spelled-are (command.Ask v query n) words h = tt
spelled-are command.Print words h = tt
spelled-are command.Stats words h = tt
spelled-are (command.Simulate bits) words h = tt
spelled-are (command.Merge n s) words h = tt
spelled-are (command.Convert kind) words h = tt

pub commands-are : (ps : List Piece) (cs : List Command) → AreSpelled ps cs → All IsCommand cs
commands-are [] [] h = All-nil IsCommand
commands-are [] (c ∷ cs) h = absurd h
commands-are (p ∷ ps) [] h = absurd h
commands-are (p ∷ ps) (c ∷ cs) h = All-cons IsCommand c cs (spelled-are c p.words h.0) (commands-are ps cs h.1)
