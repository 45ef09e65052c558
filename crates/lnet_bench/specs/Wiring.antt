-- The wires of names: numbered as the names are first seen, but for the constants.
use Rattle.std.specs.Prelude.{ℕ, Bool, true, false, not, ◌&&◌, List, [], ◌∷◌, Option, Some, None, codes, if◌then◌else◌}
use Rattle.std.specs.Str.{bytes_eq}
use Rattle.lnet_edge.specs.declared.circuit.WireRef.{WireRef}
use Rattle.lnet_wires.specs.Naming.{with_name, wire_of}
use Rattle.lnet_bench.specs.declared.wiring.Driven.{Driven}

-- as operands and outputs the names `gnd` and `vdd` are constants where no line drives them
abbrev pub constant_by : Driven → List ℕ → Option Bool
constant_by driven name = if bytes_eq (codes "gnd") name && not driven.gnd then Some false else if bytes_eq (codes "vdd") name && not driven.vdd then Some true else None

-- the use of a name's wire or of the constant, and the names then
abbrev pub refer_by : Option Bool → List (List ℕ) → List ℕ → WireRef × List (List ℕ)
refer_by (Some value) names name = (record { wire = record { 0 = 0 }; complement = value }, names)
refer_by None names name = (record { wire = record { 0 = wire_of names name }; complement = false }, with_name names name)

abbrev pub refer : Driven → List (List ℕ) → List ℕ → WireRef × List (List ℕ)
refer driven names name = refer_by (constant_by driven name) names name

-- the same of names one after the other
abbrev pub refer_all : Driven → List (List ℕ) → List (List ℕ) → List WireRef × List (List ℕ)
refer_all driven names [] = ([], names)
refer_all driven names (x ∷ xs) = ((refer driven names x).0 ∷ (refer_all driven (refer driven names x).1 xs).0, (refer_all driven (refer driven names x).1 xs).1)
