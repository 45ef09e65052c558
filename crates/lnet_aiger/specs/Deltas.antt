-- Binary gates: two differences of literals for each gate, in groups of seven bits.
use Rattle.std.specs.Prelude.{ℕ, zero, suc, ◌+◌, ◌-◌, ◌*◌, ◌&&◌, List, [], ◌∷◌, Result, Ok, Err, nat_lt, nat_le, if◌then◌else◌}
use Rattle.lnet_edge.specs.declared.fault.Fault.{Fault}
use Rattle.lnet_edge.specs.declared.fault.Fault.TheVariants as fault
use Rattle.lnet_edge.specs.declared.fault.Malformed.{Malformed}
use Rattle.lnet_edge.specs.Circuits.{EquationValue}
use Rattle.lnet_lines.specs.Lines.{Place}
use Rattle.lnet_aiger.specs.declared.body.Gate.{Gate}
use Rattle.lnet_aiger.specs.LineRules.{equation_of}
use Rattle.lnet_aiger.specs.Chain.{◌>>=◌, at_line}

-- the number at the front, in at most n groups of seven bits, the least significant first; a group of 128 or more is
-- followed by another
unfoldable pub groups_at : ℕ → List ℕ → Result (ℕ × List ℕ) Fault
groups_at n [] = Err fault.Missing
groups_at zero (b ∷ bs) = Err fault.Delta
groups_at (suc n) (b ∷ bs) = if nat_lt b 128 then Ok (b, bs) else groups_at n bs >>= λ high. Ok ((b - 128) + 128 * high.0, high.1)

-- a difference in this range
unfoldable pub delta_at : ℕ → ℕ → List ℕ → Result (ℕ × List ℕ) Fault
delta_at least most bytes = groups_at 5 bytes >>= λ d. if nat_le d.0 2147483647 && nat_le least d.0 && nat_le d.0 most then Ok d else Err fault.Delta

-- the gate of a literal: its first operand is below it, and the second isn't above the first
unfoldable pub gate_at : ℕ → List ℕ → Result (Gate × List ℕ) Fault
gate_at target bytes = do
  first ← delta_at 1 target bytes
  second ← delta_at 0 (target - first.0) first.1
  Ok (record { target = target; first = target - first.0; second = (target - first.0) - second.0 }, second.1)

-- a gate, which counts as a line
unfoldable pub difference_at : ℕ → Place → Result (EquationValue × Place) Malformed
difference_at target p = do
  gate ← at_line p.number (gate_at target p.rest)
  Ok (equation_of gate.0, record { rest = gate.1; number = p.number + 1 })
