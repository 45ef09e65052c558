use Rattle.std.proofs.Common.{◌≡◌, length}
use Rattle.std.specs.Prelude.{take}
use Rattle.std.specs.List.{flat_map}
use Rattle.lnet_replies.specs.Texts.{bit_text}
use Rattle.lnet_session.proofs.merging.bits_in.Given as goal

-- the values of the characters so far
abbrev pub invariant-loop-byte : goal.invariant-loop-byte
invariant-loop-byte l = (flat_map bit_text l.bits.items ≡ take l.byte-index l.word) × (length l.bits.items ≡ l.byte-index)
