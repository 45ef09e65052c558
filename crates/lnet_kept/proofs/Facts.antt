-- The facts on a circuit that follow from what its parts keep.
use Rattle.std.proofs.Common.{ℕ, ◌<◌, ◌^◌, arith}
use Rattle.std.specs.List.{AllByRecursion}
use Rattle.std.specs.Option.{IfSome}
use Rattle.lnet_edge.specs.declared.circuit.InputPort.{InputPort}
use Rattle.lnet_edge.specs.Circuits.{CircuitValue, EquationValue}
use Rattle.lnet_edge.specs.Names.{IsName}
use Rattle.lnet_edge.specs.Wires.{input_wires, targets}
use Rattle.lnet_benchtext.specs.Written.{HasNames}
use Rattle.lnet_benchmeans.specs.Driving.{HasWires}
use Rattle.lnet_benchmeans.proofs.Differing.{all_weak, all_both, all_mapped}
use Rattle.lnet_kept.specs.Kept.{IsKeptInput, IsKeptOutput, IsKeptEquation}

pub kept_names : (c : CircuitValue) → AllByRecursion IsKeptInput c.inputs → AllByRecursion IsKeptOutput c.outputs → HasNames c
kept_names c inputs outputs = record { inputs = all_weak IsKeptInput (λ (p : InputPort). IfSome p.name IsName) c.inputs (λ p k. k.0) inputs; outputs = outputs }

pub kept_wires : (c : CircuitValue) → AllByRecursion IsKeptInput c.inputs → AllByRecursion IsKeptEquation c.equations → HasWires c
kept_wires c inputs equations = (
  omega arith,
  all_both (λ (w : ℕ). w < 2 ^ 32) (input_wires c.inputs) (targets c.equations)
      (all_mapped IsKeptInput (λ (w : ℕ). w < 2 ^ 32) (λ (p : InputPort). p.wire.0) c.inputs (λ p k. k.1) inputs)
      (all_mapped IsKeptEquation (λ (w : ℕ). w < 2 ^ 32) (λ (e : EquationValue). e.target) c.equations (λ e k. k) equations),
)
