use Rattle.std.proofs.Common.{◌≡◌, ◌-◌, ◌++◌}
use Rattle.lnet_replies.specs.Texts.{bits_of}
use Rattle.lnet_replies.proofs.reply.bits_of.Given as goal

-- the values so far, and those that come
abbrev pub invariant-loop-place : goal.invariant-loop-place
invariant-loop-place l = l.bits.items ++ bits_of (l.inputs - l._place) l.rest ≡ bits_of l.inputs l.assignment
