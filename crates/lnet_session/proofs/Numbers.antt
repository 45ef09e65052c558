-- The number that the next view gets, from one state to the next.
use Rattle.std.proofs.Common.{◌≤◌, ◌+◌, Option, arith}
use Rattle.lnet_edge.specs.Outside.{Contents}
use Rattle.lnet_edge.specs.Circuits.{CircuitValue}
use Rattle.lnet_script.specs.declared.command.Command.{Command}
use Rattle.lnet_replies.specs.declared.reply.Reply.{Reply}
use Rattle.lnet_session.specs.States.{State}
use Rattle.lnet_session.specs.Effects.{Effect}

-- at most one number is given
pub effect_next : (c : Command) (old new : State) (before after : Option Contents) (answer : Reply) (source : Option CircuitValue) → Effect old before c answer source new after → new.roll.next ≤ old.roll.next + 1
effect_next c old new before after answer source e = grind arith
