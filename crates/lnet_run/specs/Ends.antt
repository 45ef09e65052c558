-- How a whole run ends, and when it ends with each status.
use Rattle.std.specs.Prelude.{◌≡◌, ◌⊎◌, ℕ, ◌≤◌, Bool, false, ◌==◌, List, [], ◌∷◌, ◌++◌, length, Option, Some, None, IsSome, Contains, codes, if◌then◌else◌}
use Rattle.std.specs.Fmt.{decimal}
use Rattle.lnet_edge.specs.Outside.{Rose, Contents, one_more}
use Rattle.lnet_edge.specs.Circuits.{CircuitValue}
use Rattle.lnet_replies.specs.declared.reply.Reply.{Reply}
use Rattle.lnet_replies.specs.Texts.{is_unmet}
use Rattle.lnet_script.specs.declared.command.Command.{Command}
use Rattle.lnet_script.specs.declared.script.ScriptError.TheVariants as script
use Rattle.lnet_script.specs.Scripts.{IsScript, Refuses, script_limit}
use Rattle.lnet_run.specs.declared.running.RunEnd.{RunEnd}
use Rattle.lnet_run.specs.declared.running.RunEnd.TheVariants as run
use Rattle.lnet_run.specs.declared.top.Refusal.{Refusal}
use Rattle.lnet_run.specs.declared.top.Refusal.TheVariants as refusal
use Rattle.lnet_run.specs.declared.top.Ending.{Ending}
use Rattle.lnet_run.specs.declared.top.Ending.TheVariants as ending
use Rattle.lnet_session.specs.States.{State}
use Rattle.lnet_session.specs.Effects.{Effect}
use Rattle.lnet_session.specs.Calls.{own_call}
use Rattle.lnet_session.specs.Steps.{World, Grows, GrowsByPart}
use Rattle.lnet_run.specs.Runs.{RunsTo, FollowsOrigin}

abbrev pub begins_with_dash : List ℕ → Bool
begins_with_dash [] = false
begins_with_dash (b ∷ bs) = b == 45

-- the script of the command line: its one word behind the program's name, unless that begins with a dash
abbrev pub script_of : List (List ℕ) → Option (List ℕ)
script_of (program ∷ script ∷ []) = if begins_with_dash script then None else Some script
script_of words = None

-- the line of a refusal
abbrev pub refusal_text : Refusal → List ℕ
refusal_text refusal.Words = codes "error words" ++ 10 ∷ []
refusal_text (refusal.Script line) = codes "error script " ++ (decimal line ++ 10 ∷ [])

-- the words or the script are refused so
abbrev pub IsRefused : List (List ℕ) → Refusal → Type 0
IsRefused words refusal.Words = script_of words ≡ None
IsRefused words (refusal.Script line) = (bytes : List ℕ) × (script_of words ≡ Some bytes) × Refuses bytes (script.BadLine line)

-- the words give a script of these commands
pub record IsAccepted (words : List (List ℕ)) (commands : List Command) : Type 0 where
  pub bytes : List ℕ
  pub word : script_of words ≡ Some bytes
  pub short : length bytes ≤ script_limit
  pub script : IsScript bytes commands

-- no command ran, and no call of the files failed
pub record Untouched (old new : World) : Type 0 where
  pub state : new.state ≡ old.state
  pub contents : new.contents ≡ old.contents
  pub file_faults : new.file_faults ≡ old.file_faults
  pub last : new.last ≡ old.last

-- the commands of the script ran, and ended so
pub record RanScript (words : List (List ℕ)) (end : RunEnd) (old new : World) (origin : Option CircuitValue) : Type 0 where
  pub commands : List Command
  pub accepted : IsAccepted words commands
  pub runs : RunsTo commands end None old new origin

-- a refusal whose line was put
pub record RefusedWith (words : List (List ℕ)) (refusal : Refusal) (old new : World) : Type 0 where
  pub refused : IsRefused words refusal
  pub untouched : Untouched old new
  pub text : Grows old.written (refusal_text refusal) new.written
  pub sink_faults : new.sink_faults ≡ old.sink_faults

-- a refusal whose line could not be put
pub record RefusedInPart (words : List (List ℕ)) (refusal : Refusal) (old new : World) : Type 0 where
  pub refused : IsRefused words refusal
  pub untouched : Untouched old new
  pub text : GrowsByPart old.written (refusal_text refusal) new.written
  pub sink_faults : new.sink_faults ≡ one_more old.sink_faults

-- there was no memory before the first command: nothing ran, and nothing was put
pub record NothingRan (old new : World) : Type 0 where
  pub untouched : Untouched old new
  pub written : new.written ≡ old.written
  pub sink_faults : new.sink_faults ≡ old.sink_faults

-- The whole run by its ending. The origin is the circuit last read or generated.
abbrev pub EndsAs : List (List ℕ) → Ending → World → World → Option CircuitValue → Type 0
EndsAs words (ending.Ran end) old new origin = RanScript words end old new origin
EndsAs words (ending.Refused r) old new origin = RefusedWith words r old new × (origin ≡ None)
EndsAs words (ending.NotPut r) old new origin = RefusedInPart words r old new × (origin ≡ None)
EndsAs words ending.NoMemory old new origin = NothingRan old new × (origin ≡ None)

abbrev pub status_number : Ending → ℕ
status_number (ending.Ran run.AllMet) = 0
status_number (ending.Ran run.SomeUnmet) = 1
status_number (ending.Ran run.Fault) = 3
status_number (ending.Ran run.NoMemory) = 4
status_number (ending.Refused r) = 2
status_number (ending.NotPut r) = 3
status_number ending.NoMemory = 4

-- what a refusal puts, and whether that fails
abbrev pub RefusesAs : Refusal → Ending → Option (List ℕ) → Option (List ℕ) → ℕ → ℕ → Type 0
RefusesAs r (ending.Ran end) old new before now = ⊥
RefusesAs r (ending.Refused s) old new before now = (s ≡ r) × Grows old (refusal_text r) new × (now ≡ before)
RefusesAs r (ending.NotPut s) old new before now = (s ≡ r) × GrowsByPart old (refusal_text r) new × (now ≡ one_more before)
RefusesAs r ending.NoMemory old new before now = (new ≡ old) × (now ≡ before)

-- ---- when a status comes

-- the words or the script are refused
abbrev pub IsRefusedSomehow : List (List ℕ) → Type 0
IsRefusedSomehow words = (r : Refusal) × IsRefused words r

-- the files failed, and their last failed call is the own fetch or store of a command of the script
pub record FilesFailed (words : List (List ℕ)) (old new : World) : Type 0 where
  pub rose : Rose old.file_faults new.file_faults
  pub commands : List Command
  pub accepted : IsAccepted words commands
  pub command : Command
  pub of_script : Contains commands command
  pub makes : IsSome (own_call command)
  pub last : new.last ≡ own_call command

-- a put failed, or a call of the files did
abbrev pub IsFaulty : List (List ℕ) → World → World → Type 0
IsFaulty words old new = Rose old.sink_faults new.sink_faults ⊎ FilesFailed words old new

-- From this state on no command of the list meets a cause, whatever the contents that aren't told.
abbrev pub MeetsNoCause : List Command → State → Option Contents → Type 0
MeetsNoCause [] state contents = Unit {0}
MeetsNoCause (c ∷ cs) state contents =
    (answer : Reply) (source : Option CircuitValue) (mid : State) (mid_contents : Option Contents)
    → Effect state contents c answer source mid mid_contents → (is_unmet answer ≡ false) × MeetsNoCause cs mid mid_contents

-- nothing stands in the way: the script is accepted, no command of it meets a cause, and no fault rose
pub record IsUnhindered (words : List (List ℕ)) (old new : World) : Type 0 where
  pub commands : List Command
  pub accepted : IsAccepted words commands
  pub no_cause : MeetsNoCause commands old.state old.contents
  pub no_file_fault : Rose old.file_faults new.file_faults → ⊥
  pub no_sink_fault : Rose old.sink_faults new.sink_faults → ⊥

-- A run as a whole: it ended in one of the ways, with that status, and the network that it left follows its origin.
pub record IsOutcome (words : List (List ℕ)) (status : ℕ) (old new : World) : Type 0 where
  pub end : Ending
  pub origin : Option CircuitValue
  pub ends : EndsAs words end old new origin
  pub status_is : status ≡ status_number end
  pub follows : FollowsOrigin new.state.held origin

-- want of memory comes in place of any answer
abbrev pub IsOrMemory : ℕ → ℕ → Type 0
IsOrMemory number status = (status ≡ number) ⊎ (status ≡ 4)
