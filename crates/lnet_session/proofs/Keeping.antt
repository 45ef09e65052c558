-- What each command keeps: the network and what its outputs compute, from one state to the next.
use Rattle.std.proofs.Common.{◌≡◌, Option, Some, None, refl, sym, subst, arith}
use Rattle.lnet_edge.specs.Outside.{Contents}
use Rattle.lnet_edge.specs.Circuits.{CircuitValue}
use Rattle.lnet_script.specs.declared.command.Command.{Command}
use Rattle.lnet_replies.specs.declared.reply.Reply.{Reply}
use Rattle.lnet_session.specs.States.{Held, State}
use Rattle.lnet_session.specs.Effects.{AgreeOutputs, Effect}
use Rattle.lnet_session.specs.Steps.{KeepsOutputs}

-- ---- what is held stays

pub agree-same : (h k : Option Held) → k ≡ h → AgreeOutputs h k
agree-same h k same = subst (AgreeOutputs h) (sym same) (itself h) where
  itself : (h : Option Held) → AgreeOutputs h h
  itself None = tt
  itself (Some h) = λ a. refl

-- ---- what the outputs compute stays

pub effect_keeps : (c : Command) (old new : State) (before after : Option Contents) (answer : Reply) (source : Option CircuitValue) → Effect old before c answer source new after → KeepsOutputs c old new
effect_keeps c old new before after answer source e = grind (arith, agree-same)

pub same_keeps : (c : Command) (old new : State) → new ≡ old → KeepsOutputs c old new
same_keeps c old new same = grind (arith, agree-same)
