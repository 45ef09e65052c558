-- What the types of ports and equations keep.
use Rattle.std.specs.Prelude.{◌<◌, ◌^◌}
use Rattle.std.specs.Option.{IfSome}
use Rattle.lnet_edge.specs.declared.circuit.InputPort.{InputPort}
use Rattle.lnet_edge.specs.declared.circuit.OutputPort.{OutputPort}
use Rattle.lnet_edge.specs.Circuits.{EquationValue}
use Rattle.lnet_edge.specs.Names.{IsName}

-- what name an input has is one, and its wire has a number of 32 bits
abbrev pub IsKeptInput : InputPort → Type 0
IsKeptInput p = IfSome p.name IsName × (p.wire.0 < 2 ^ 32)

-- what name an output has is one
abbrev pub IsKeptOutput : OutputPort → Type 0
IsKeptOutput p = IfSome p.name IsName

-- an equation's target has a number of 32 bits
abbrev pub IsKeptEquation : EquationValue → Type 0
IsKeptEquation e = e.target < 2 ^ 32
