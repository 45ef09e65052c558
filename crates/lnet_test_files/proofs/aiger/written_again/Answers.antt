use Rattle.lnet_aiger.proofs.Limits.{meant_writable}
use Rattle.lnet_test_files.proofs.aiger.written_again.Goals as goal

pub write_ascii-requires : goal.write_ascii-requires
write_ascii-requires g c = meant_writable _ _ c.in_ok-circuit.ensures.found (c.is_plain.ensures.0 c.if-assert-2.false)

pub write_binary-requires : goal.write_binary-requires
write_binary-requires g c = meant_writable _ _ c.in_ok-circuit.ensures.found (c.is_plain.ensures.0 c.if-assert-2.false)
