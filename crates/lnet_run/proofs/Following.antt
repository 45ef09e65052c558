-- What follows from a command's effect for the origin of a network, and which commands make calls of their own.
use Rattle.std.proofs.Common.{◌≡◌, ℕ, Option, Some, None, IsSome, refl, sym, subst, ◌∙◌, arith}
use Rattle.lnet_edge.specs.Outside.{Contents}
use Rattle.lnet_edge.specs.Circuits.{CircuitValue}
use Rattle.lnet_gates.specs.declared.gate.Kind.{Kind}
use Rattle.lnet_gates.specs.declared.signal.Signal.{Signal}
use Rattle.lnet_model.specs.Networks.{NetworkValue}
use Rattle.lnet_script.specs.declared.command.Command.{Command}
use Rattle.lnet_replies.specs.declared.reply.Counts.{Counts}
use Rattle.lnet_replies.specs.declared.reply.Reply.{Reply}
use Rattle.lnet_build.specs.Sound.{IsSound}
use Rattle.lnet_session.specs.Merging.{GivesWay}
use Rattle.lnet_session.specs.States.{Held, State}
use Rattle.lnet_session.specs.Effects.{AgreeOutputs, Effect, PutsInPlace}
use Rattle.lnet_session.specs.Calls.{MakesCall, own_call}
use Rattle.lnet_run.specs.Runs.{FollowsOrigin, latest}

-- ---- the origin

with-latest : (h : Option Held) (source origin : Option CircuitValue) → source ≡ None → FollowsOrigin h origin → FollowsOrigin h (latest source origin)
with-latest h source origin none f = subst (λ (s : Option CircuitValue). FollowsOrigin h (latest s origin)) (sym none) f

follows-same : (h k : Option Held) (source origin : Option CircuitValue) → FollowsOrigin h origin → source ≡ None → k ≡ h → FollowsOrigin k (latest source origin)
follows-same h k source origin f none same = with-latest k source origin none (subst (λ (t : Option Held). FollowsOrigin t origin) (sym same) f)

-- a network that is put in place follows its circuit
follows-puts : (kind : Kind) (c : CircuitValue) (counts : Counts) (old new : State) → PutsInPlace kind c counts old new → FollowsOrigin new.held (Some c)
follows-puts kind c counts old new puts =
    subst (λ (h : Option Held). FollowsOrigin h (Some c)) (sym puts.held) (c, refl, puts.made.sound, puts.made.values)

-- a sound network that computes what the one before it computed
follows-agree :
    (old : Option Held) (k : Held) (origin : Option CircuitValue) → FollowsOrigin old origin → AgreeOutputs old (Some k) → IsSound k.network →
    FollowsOrigin (Some k) origin
follows-agree None k origin f agree sound = absurd agree
follows-agree (Some h) k origin f agree sound = (f.0, f.1, sound, λ a. agree a ∙ f.3 a)

follows-converts :
    (kind : Kind) (c : CircuitValue) (counts : Counts) (old new : State) (origin : Option CircuitValue) → FollowsOrigin old.held origin →
    PutsInPlace kind c counts old new → AgreeOutputs old.held new.held → FollowsOrigin new.held origin
follows-converts kind c counts old new origin f puts agree =
    subst (λ (h : Option Held). FollowsOrigin h origin) (sym puts.held)
    (follows-agree old.held _ origin f (subst (AgreeOutputs old.held) puts.held agree) puts.made.sound)

follows-gives :
    (h : Held) (origin : Option CircuitValue) (n : ℕ) (s : Signal) (Q : NetworkValue) (new : Option Held) → FollowsOrigin (Some h) origin → GivesWay h.network n s Q →
    new ≡ Some (record { network = Q; names = h.names }) → FollowsOrigin new origin
follows-gives h origin n s Q new f gives is = subst (λ (k : Option Held). FollowsOrigin k origin) (sym is) (f.0, f.1, gives.sound f.2, λ a. gives.outputs a ∙ f.3 a)

pub effect-follows :
    (c : Command) (old new : State) (before after : Option Contents) (answer : Reply) (source origin : Option CircuitValue) → FollowsOrigin old.held origin →
    Effect old before c answer source new after → FollowsOrigin new.held (latest source origin)
effect-follows c old new before after answer source origin f e = grind (arith, follows-same, with-latest, follows-puts, follows-converts, follows-gives)

-- ---- the own call of a command

pub call-some : (c : Command) (state : State) → MakesCall c state → IsSome (own_call c)
call-some c state h = grind arith
