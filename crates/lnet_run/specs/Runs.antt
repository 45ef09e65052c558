-- Whole runs: one command after another, with the circuit that was last read or generated.
use Rattle.std.specs.Prelude.{◌≡◌, ℕ, ◌+◌, Bool, true, false, ◌||◌, List, [], ◌∷◌, ◌++◌, length, take, Option, Some, None, slice_get, ◌⊎◌}
use Rattle.lnet_edge.specs.Outside.{Contents}
use Rattle.lnet_edge.specs.Circuits.{CircuitValue}
use Rattle.lnet_edge.specs.Values.{circuit_outputs}
use Rattle.lnet_model.specs.Values.{network_outputs}
use Rattle.lnet_replies.specs.declared.reply.Reply.{Reply}
use Rattle.lnet_replies.specs.Texts.{is_unmet, reply_text}
use Rattle.lnet_script.specs.declared.command.Command.{Command}
use Rattle.lnet_session.specs.declared.stepping.StepEnd.{StepEnd}
use Rattle.lnet_session.specs.declared.stepping.StepEnd.TheVariants as ends
use Rattle.lnet_run.specs.declared.running.RunEnd.{RunEnd}
use Rattle.lnet_run.specs.declared.running.RunEnd.TheVariants as run
use Rattle.lnet_build.specs.Sound.{IsSound}
use Rattle.lnet_session.specs.States.{Held, State}
use Rattle.lnet_session.specs.Effects.{Effect}
use Rattle.lnet_session.specs.Steps.{World, IsQuiet, Steps, Grows}

-- what a run carries from command to command; the origin is the circuit that was last read or generated, none before the first
pub record Scene : Type 0 where
  pub state : State
  pub contents : Option Contents
  pub origin : Option CircuitValue

-- the circuit that is in force after a command
abbrev pub latest : Option CircuitValue → Option CircuitValue → Option CircuitValue
latest None origin = origin
latest (Some c) origin = Some c

-- one command of a run
pub record Turn (index : ℕ) (command : Command) (old new : Scene) (text : List ℕ) (unmet : Bool) : Type 0 where
  pub answer : Reply
  pub source : Option CircuitValue
  pub effect : Effect old.state old.contents command answer source new.state new.contents
  pub origin_is : new.origin ≡ latest source old.origin
  pub text_is : text ≡ reply_text index answer
  pub unmet_is : unmet ≡ is_unmet answer

-- The commands one after another, from this index on: the text of all of them, and whether one was not met.
abbrev pub Runs : ℕ → List Command → Scene → Scene → List ℕ → Bool → Type 0
Runs index [] old new text unmet = (new ≡ old) × (text ≡ []) × (unmet ≡ false)
Runs index (c ∷ cs) old new text unmet =
    (mid : Scene) × (first : List ℕ) × (rest : List ℕ) × (b : Bool) × (others : Bool)
    × Turn index c old mid first b × Runs (index + 1) cs mid new rest others × (text ≡ first ++ rest) × (unmet ≡ (b || others))

-- a run of the first commands leads to a state from which the others lead on
abbrev pub SplitsAt : ℕ → List Command → List Command → Scene → Scene → List ℕ → Type 0
SplitsAt index front rest old new text =
    (mid : Scene) × (first : List ℕ) × (others : List ℕ) × (b : Bool) × (c : Bool)
    × Runs index front old mid first b × Runs (index + length front) rest mid new others c × (text ≡ first ++ others)

abbrev pub scene_of : World → Option CircuitValue → Scene
scene_of w origin = record { state = w.state; contents = w.contents; origin = origin }

-- these commands ran to their ends, the sink grew by their texts, and no call failed
pub record Ran (commands : List Command) (unmet : Bool) (start : Option CircuitValue) (old new : World) (origin : Option CircuitValue) : Type 0 where
  pub text : List ℕ
  pub runs : Runs 1 commands (scene_of old start) (scene_of new origin) text unmet
  pub grows : Grows old.written text new.written
  pub quiet : IsQuiet old new

-- The origin after a command that stopped: that of its whole effect where it had one, else that before it.
abbrev pub AfterStop : Command → World → World → Option CircuitValue → Option CircuitValue → Type 0
AfterStop command old new before after = ((new.state ≡ old.state) × (after ≡ before)) ⊎ ((answer : Reply) × (source : Option CircuitValue) × Effect old.state old.contents command answer source new.state new.contents × (after ≡ latest source before))

-- a front of the commands ran, and the next one stopped so
pub record Stopped (commands : List Command) (stop : StepEnd) (start : Option CircuitValue) (old new : World) (origin : Option CircuitValue) : Type 0 where
  pub done : ℕ
  pub command : Command
  pub next : slice_get commands done ≡ Some command
  pub unmet : Bool
  pub mid : World
  pub mid_origin : Option CircuitValue
  pub ran : Ran (take done commands) unmet start old mid mid_origin
  pub step : Steps command (done + 1) stop mid new
  pub after : AfterStop command mid new mid_origin origin

-- a run of the commands, by how it ended
abbrev pub RunsTo : List Command → RunEnd → Option CircuitValue → World → World → Option CircuitValue → Type 0
RunsTo commands run.AllMet start old new origin = Ran commands false start old new origin
RunsTo commands run.SomeUnmet start old new origin = Ran commands true start old new origin
RunsTo commands run.Fault start old new origin = Stopped commands ends.Fault start old new origin
RunsTo commands run.NoMemory start old new origin = Stopped commands ends.NoMemory start old new origin

-- ---- what a run keeps

-- the network, where one is in place, is sound, and each output computes what it computes in the origin
abbrev pub FollowsOrigin : Option Held → Option CircuitValue → Type 0
FollowsOrigin None origin = Unit {0}
FollowsOrigin (Some h) origin = (c : CircuitValue) × (origin ≡ Some c) × IsSound h.network × ((a : ℕ → Bool) → network_outputs h.network a ≡ circuit_outputs c a)
