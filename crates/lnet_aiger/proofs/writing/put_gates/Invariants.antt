use Rattle.std.proofs.Common.{◌≡◌, ◌++◌, take, string_bytes}
use Rattle.std.specs.List.{flat_map}
use Rattle.lnet_edge.specs.CircuitLists.{equation_views}
use Rattle.lnet_aiger.specs.Numberings.{place_in}
use Rattle.lnet_aiger.specs.Texts.{gate_of, gate_text}
use Rattle.lnet_aiger.proofs.writing.put_gates.Given as goal

abbrev pub invariant-loop-equation : goal.invariant-loop-equation
invariant-loop-equation l = string_bytes l.out ≡ string_bytes l.initial.out ++ flat_map (λ e. gate_text (gate_of (place_in l.variables) e)) (equation_views (take l.equation-index l.equations))
