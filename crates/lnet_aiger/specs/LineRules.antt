-- The rules of the lines behind the header: what a line means, or the rule that it breaks. Variable v has literal 2v, and
-- its complement 2v + 1; literal 0 is false, and 1 is true.
use Rattle.std.specs.Prelude.{ℕ, ◌+◌, ◌*◌, ◌/◌, ◌%◌, Bool, false, ◌&&◌, List, [], ◌∷◌, Option, Some, None, Result, Ok, Err, nat_le, ◌==◌, map, if◌then◌else◌}
use Rattle.std.specs.List.{range_with_len}
use Rattle.lnet_edge.specs.declared.fault.Fault.{Fault}
use Rattle.lnet_edge.specs.declared.fault.Fault.TheVariants as fault
use Rattle.lnet_edge.specs.declared.circuit.WireRef.{WireRef}
use Rattle.lnet_edge.specs.declared.circuit.InputPort.{InputPort}
use Rattle.lnet_edge.specs.declared.circuit.OutputPort.{OutputPort}
use Rattle.lnet_edge.specs.declared.circuit.Rule.TheVariants.{And}
use Rattle.lnet_edge.specs.Circuits.{EquationValue}
use Rattle.lnet_aiger.specs.declared.body.Gate.{Gate}
use Rattle.lnet_aiger.specs.Header.{numbers_of}
use Rattle.lnet_aiger.specs.Chain.{◌>>=◌}

-- the reference of a literal
abbrev pub ref_of : ℕ → WireRef
ref_of n = record { wire = record { 0 = n / 2 }; complement = n % 2 == 1 }

-- the input of a literal
abbrev pub input_of : ℕ → InputPort
input_of n = record { wire = record { 0 = n / 2 }; name = None }

-- the inputs 1 to n
abbrev pub numbered_inputs : ℕ → List InputPort
numbered_inputs n = map (λ k. record { wire = record { 0 = k + 1 }; name = None }) (range_with_len 0 n)

-- the output of a literal
abbrev pub output_of : ℕ → OutputPort
output_of n = record { source = ref_of n; name = None }

-- the equation of a gate: an And of its two operands, in the order of the file
abbrev pub equation_of : Gate → EquationValue
equation_of g = record { target = g.target / 2; rule = And false; operands = ref_of g.first ∷ ref_of g.second ∷ [] }

-- a line of one number
abbrev pub one_of : Option (List ℕ) → Result ℕ Fault
one_of (Some (n ∷ [])) = Ok n
one_of _ = Err fault.Syntax

-- a line of three numbers
abbrev pub three_of : Option (List ℕ) → Result Gate Fault
three_of (Some (t ∷ a ∷ b ∷ [])) = Ok (record { target = t; first = a; second = b })
three_of _ = Err fault.Syntax

-- a literal of a variable that isn't the constant, not complemented
abbrev pub is_plain : ℕ → ℕ → Bool
is_plain top n = (n % 2 == 0) && nat_le 2 n && nat_le n (2 * top)

-- a literal of some variable
abbrev pub is_within : ℕ → ℕ → Bool
is_within top n = nat_le n (2 * top + 1)

-- an input: one literal, plain
unfoldable pub input_line : ℕ → List ℕ → Result InputPort Fault
input_line top line = one_of (numbers_of line) >>= λ n. if is_plain top n then Ok (input_of n) else Err fault.Literal

-- an output: one literal
unfoldable pub output_line : ℕ → List ℕ → Result OutputPort Fault
output_line top line = one_of (numbers_of line) >>= λ n. if is_within top n then Ok (output_of n) else Err fault.Literal

-- a gate: a plain literal, and two literals
unfoldable pub gate_line : ℕ → List ℕ → Result Gate Fault
gate_line top line = three_of (numbers_of line) >>= λ g. if is_plain top g.target && is_within top g.first && is_within top g.second then Ok g else Err fault.Literal

-- a gate's line, as its equation
unfoldable pub equation_line : ℕ → List ℕ → Result EquationValue Fault
equation_line top line = gate_line top line >>= λ g. Ok (equation_of g)
