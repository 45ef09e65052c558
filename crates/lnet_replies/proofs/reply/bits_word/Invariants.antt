use Rattle.std.proofs.Common.{◌≡◌}
use Rattle.std.specs.Prelude.{string_bytes, take}
use Rattle.std.specs.List.{flat_map}
use Rattle.lnet_replies.specs.Texts.{bit_text}
use Rattle.lnet_replies.proofs.reply.bits_word.Given as goal

-- the characters of the values so far
abbrev pub invariant-loop-bit : goal.invariant-loop-bit
invariant-loop-bit l = string_bytes l.text ≡ flat_map bit_text (take l.bit-index l.bits)
