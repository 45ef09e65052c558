use Rattle.std.proofs.Common.{◌≡◌, ◌++◌, take, string_bytes}
use Rattle.lnet_aiger.specs.Written.{HasNames}
use Rattle.lnet_aiger.specs.Texts.{symbols_text}
use Rattle.lnet_edge.specs.Shown.{output_names}
use Rattle.lnet_aiger.proofs.writing.put_output_symbols.Given as goal

abbrev pub invariant-loop-place : goal.invariant-loop-place
invariant-loop-place l = record {
  text : string_bytes l.out ≡ string_bytes l.initial.out ++ symbols_text 111 0 (output_names (take l.place l.ports));
  names : HasNames (output_names (take l.place l.ports));
}
