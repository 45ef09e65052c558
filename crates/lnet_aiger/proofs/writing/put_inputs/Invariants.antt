use Rattle.std.proofs.Common.{◌≡◌, ◌++◌, take, string_bytes}
use Rattle.std.specs.List.{flat_map}
use Rattle.lnet_aiger.specs.Numberings.{place_in}
use Rattle.lnet_aiger.specs.Texts.{input_text}
use Rattle.lnet_aiger.proofs.writing.put_inputs.Given as goal

abbrev pub invariant-loop-port : goal.invariant-loop-port
invariant-loop-port l = string_bytes l.out ≡ string_bytes l.initial.out ++ flat_map (input_text (place_in l.variables)) (take l.port-index l.ports)
