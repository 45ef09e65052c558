use Rattle.std.proofs.Common.{◌≡◌, ◌++◌, take, string_bytes}
use Rattle.lnet_aiger.specs.Written.{HasNames}
use Rattle.lnet_aiger.specs.Texts.{symbols_text}
use Rattle.lnet_edge.specs.Shown.{input_names}
use Rattle.lnet_aiger.proofs.writing.put_input_symbols.Given as goal

abbrev pub invariant-loop-place : goal.invariant-loop-place
invariant-loop-place l = record {
  text : string_bytes l.out ≡ string_bytes l.initial.out ++ symbols_text 105 0 (input_names (take l.place l.ports));
  names : HasNames (input_names (take l.place l.ports));
}
