-- Plain circuits: those whose equations a writer takes as they stand.
use Rattle.std.specs.Prelude.{ℕ, ◌<◌, ◌==◌, ◌&&◌, Bool, true, false, nat_lt, List, length, Option, Some, None, IsTrue}
use Rattle.std.specs.List.{list_all}
use Rattle.lnet_edge.specs.declared.circuit.Rule.{Rule}
use Rattle.lnet_edge.specs.declared.circuit.Rule.TheVariants.{And, Or, Xor, Maj, Lut, Cover}
use Rattle.lnet_edge.specs.declared.circuit.WireRef.{WireRef}
use Rattle.lnet_edge.specs.Circuits.{EquationValue}
use Rattle.lnet_edge.specs.Drivers.{Drivers, driver_at, place_in}
use Rattle.lnet_edge.specs.Searches.{ReadsPlace}

-- an And or an Xor of two operands, a Maj or a Lut
abbrev pub is_gate : Rule → ℕ → Bool
is_gate (And complement) n = n == 2
is_gate (Or complement) n = false
is_gate (Xor complement) n = n == 2
is_gate (Maj complement) n = true
is_gate (Lut table) n = true
is_gate (Cover cover) n = false

abbrev pub is_gate_equation : EquationValue → Bool
is_gate_equation e = is_gate e.rule (length e.operands)

-- each equation is a gate, and stands after those whose wires it uses
pub record IsPlain (es : List EquationValue) : Type 0 where
  pub gates : IsTrue (list_all is_gate_equation es)
  pub ordered : (i k : ℕ) → i < length es → k < length es → ReadsPlace es i k → k < i

-- whether what drives a wire is no equation, or one before this place
abbrev pub is_before : Option ℕ → ℕ → Bool
is_before None i = true
is_before (Some k) i = nat_lt k i

-- whether the equation at this place is a gate, and stands after those whose wires it uses
abbrev pub is_plain_at : Drivers → EquationValue → ℕ → Bool
is_plain_at m e i = is_gate_equation e && list_all (λ (r : WireRef). is_before (place_in (driver_at m r.wire.0)) i) e.operands
