-- The names of uses of nodes in a written BENCH text. Source: the BENCH format (Brglez, Bryan and Kozminski, "Combinational Profiles of
-- Sequential Benchmark Circuits", 1989), with constants as in ABC; the names of ports as they are settled for texts.
use Rattle.std.specs.Prelude.{ℕ, ◌==◌, ◌&&◌, Bool, List, ◌++◌, map, Option, codes, if◌then◌else◌}
use Rattle.std.specs.List.{flat_map, list_any}
use Rattle.lnet_edge.specs.declared.circuit.OutputPort.{OutputPort}
use Rattle.lnet_edge.specs.declared.circuit.WireRef.{WireRef}
use Rattle.lnet_edge.specs.Circuits.{CircuitValue, EquationValue}
use Rattle.lnet_naming.specs.Settling.{made_name}
use Rattle.lnet_nodes.specs.Nodes.{node_name}

-- ---- names

-- the names of false and true
abbrev pub constant_name : Bool → List ℕ
constant_name value = if value then codes "vdd" else codes "gnd"

-- the name of a use of a node: that of the node, or `_c<n>` of its complement; wire 0 is false
abbrev pub use_name : (ℕ → Option (List ℕ)) → WireRef → List ℕ
use_name label r = if r.wire.0 == 0 then constant_name r.complement else if r.complement then made_name 99 r.wire.0 else node_name label r.wire.0

-- ---- complements

-- some use of the wire is complemented
abbrev pub is_turned : List WireRef → ℕ → Bool
is_turned uses w = list_any (λ (r : WireRef). r.complement && (r.wire.0 == w)) uses

-- the uses of wires: by outputs, and then by the equations in order
abbrev pub output_uses : List OutputPort → List WireRef
output_uses ports = map (λ (p : OutputPort). p.source) ports

abbrev pub equation_uses : List EquationValue → List WireRef
equation_uses es = flat_map (λ (e : EquationValue). e.operands) es

abbrev pub uses_of : CircuitValue → List WireRef
uses_of c = output_uses c.outputs ++ equation_uses c.equations
