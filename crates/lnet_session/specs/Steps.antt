-- One command: the state, the contents and the text, at each of its four ends.
use Rattle.std.specs.Prelude.{◌≡◌, ◌⊎◌, ℕ, ◌≤◌, List, ◌++◌, length, take, Option, Some, None}
use Rattle.lnet_model.specs.Answers.{IsSpec}
use Rattle.lnet_edge.specs.Outside.{Contents, Call, one_more}
use Rattle.lnet_edge.specs.declared.outside.Files.{Ghosts as Files}
use Rattle.lnet_edge.specs.declared.outside.Sink.{Ghosts as Sink}
use Rattle.lnet_edge.specs.Circuits.{CircuitValue}
use Rattle.lnet_replies.specs.declared.reply.Reply.{Reply}
use Rattle.lnet_replies.specs.declared.reply.Reply.TheVariants as reply
use Rattle.lnet_replies.specs.Texts.{reply_text}
use Rattle.lnet_script.specs.declared.command.Command.{Command}
use Rattle.lnet_script.specs.declared.command.Command.TheVariants as command
use Rattle.lnet_script.specs.Spelling.{IsBetween}
use Rattle.lnet_session.specs.declared.stepping.StepEnd.{StepEnd}
use Rattle.lnet_session.specs.declared.stepping.StepEnd.TheVariants as ends
use Rattle.lnet_session.specs.States.{State}
use Rattle.lnet_session.specs.Calls.{MakesCall, own_call}
use Rattle.lnet_session.specs.Effects.{AgreeOutputs, Effect}

-- how a command that ran to its end ends
abbrev pub end_of : Reply → StepEnd
end_of (reply.Unmet cause) = ends.Unmet cause
end_of _ = ends.Met

-- the cut rule of a view and the counts of a generated circuit are within the limits
abbrev pub IsCommand : Command → Type 0
IsCommand (command.Gen kind g) = IsBetween 1 g.inputs 4096 × IsBetween 0 g.gates 262144 × IsBetween 1 g.outputs 4096
IsCommand (command.View spec) = IsSpec spec
IsCommand _ = Unit {0}

-- the sink, where it tells its bytes, grew by this text
abbrev pub Grows : Option (List ℕ) → List ℕ → Option (List ℕ) → Type 0
Grows None text new = new ≡ None
Grows (Some old) text new = new ≡ Some (old ++ text)

-- the sink grew by a front of this text
abbrev pub GrowsByPart : Option (List ℕ) → List ℕ → Option (List ℕ) → Type 0
GrowsByPart old text new = (n : ℕ) × (n ≤ length text) × Grows old (take n text) new

-- the world around a command: the state, the contents, the bytes written, and the faults
pub record World : Type 0 where
  pub state : State
  pub contents : Option Contents
  pub written : Option (List ℕ)
  pub file_faults : ℕ
  pub last : Option Call
  pub sink_faults : ℕ

-- the world of a state, the files and the sink
abbrev pub world_of : {A B : Type 0} → Files A → Sink B → State → A → B → World
world_of as_files as_sink state files out =
    record { state = state; contents = as_files.contents files; written = as_sink.written out; file_faults = as_files.faults files; last = as_files.last files; sink_faults = as_sink.faults out }

-- no call failed: the counts of faults and the last failed call are as before
pub record IsQuiet (old new : World) : Type 0 where
  pub file_faults : new.file_faults ≡ old.file_faults
  pub last : new.last ≡ old.last
  pub sink_faults : new.sink_faults ≡ old.sink_faults

-- the command was run to its end, met or unmet, and its text was put
pub record Ended (command : Command) (index : ℕ) (stop : StepEnd) (old new : World) : Type 0 where
  pub answer : Reply
  pub source : Option CircuitValue
  pub effect : Effect old.state old.contents command answer source new.state new.contents
  pub text : Grows old.written (reply_text index answer) new.written
  pub end : stop ≡ end_of answer
  pub quiet : IsQuiet old new

-- the command's own call of the files failed, and nothing changed
pub record CallFailed (command : Command) (old new : World) : Type 0 where
  pub allowed : MakesCall command old.state
  pub state : new.state ≡ old.state
  pub contents : new.contents ≡ old.contents
  pub written : new.written ≡ old.written
  pub file_faults : new.file_faults ≡ one_more old.file_faults
  pub last : new.last ≡ own_call command
  pub sink_faults : new.sink_faults ≡ old.sink_faults

-- the put of the command's text failed, and its effect stands
pub record PutFailed (command : Command) (index : ℕ) (old new : World) : Type 0 where
  pub answer : Reply
  pub source : Option CircuitValue
  pub effect : Effect old.state old.contents command answer source new.state new.contents
  pub text : GrowsByPart old.written (reply_text index answer) new.written
  pub file_faults : new.file_faults ≡ old.file_faults
  pub last : new.last ≡ old.last
  pub sink_faults : new.sink_faults ≡ one_more old.sink_faults

-- the command changed nothing
pub record NoEffect (old new : World) : Type 0 where
  pub state : new.state ≡ old.state
  pub contents : new.contents ≡ old.contents

-- the command had its whole effect
pub record WholeEffect (command : Command) (old new : World) : Type 0 where
  pub answer : Reply
  pub source : Option CircuitValue
  pub effect : Effect old.state old.contents command answer source new.state new.contents

-- there was no memory: nothing was put, and the command had no effect or its whole effect
pub record OutOfMemory (command : Command) (old new : World) : Type 0 where
  pub written : new.written ≡ old.written
  pub effect : NoEffect old new ⊎ WholeEffect command old new
  pub quiet : IsQuiet old new

-- one step of a session, by how it ended
abbrev pub Steps : Command → ℕ → StepEnd → World → World → Type 0
Steps command index ends.Met old new = Ended command index ends.Met old new
Steps command index (ends.Unmet cause) old new = Ended command index (ends.Unmet cause) old new
Steps command index ends.Fault old new = CallFailed command old new ⊎ PutFailed command index old new
Steps command index ends.NoMemory old new = OutOfMemory command old new

-- a command other than one that reads or generates a circuit keeps the functions of the outputs, however it ends
abbrev pub KeepsOutputs : Command → State → State → Type 0
KeepsOutputs (command.Read format name kind) old new = Unit {0}
KeepsOutputs (command.Gen kind g) old new = Unit {0}
KeepsOutputs _ old new = AgreeOutputs old.held new.held
