-- Generated circuits, draw by draw. Each draw is the next word of 32 bits of the generator PCG XSH RR (O'Neill, "PCG: a family of
-- simple fast space-efficient statistically good algorithms for random number generation", 2014), on its stream 54.
use Rattle.std.specs.Prelude.{ℕ, zero, suc, ◌+◌, ◌-◌, ◌/◌, ◌%◌, ◌==◌, false, List, [], ◌∷◌, map, min, None, if◌then◌else◌}
use Rattle.rand_core.specs.Stream.{Stream, next_u32}
use Rattle.rand_core.specs.Steps.{stream_of, steps_u32}
use Rattle.rand_pcg.specs.Lcg.{started, increment_of}
use Rattle.rand_pcg.specs.Pcg.{multiplier_64, pcg32}
use Rattle.lnet_gates.specs.declared.gate.Kind.{Kind}
use Rattle.lnet_gates.specs.declared.gate.Kind.TheVariants.{Aig, Xag, Mig, Klut}
use Rattle.lnet_edge.specs.declared.circuit.InputPort.{InputPort}
use Rattle.lnet_edge.specs.declared.circuit.OutputPort.{OutputPort}
use Rattle.lnet_edge.specs.declared.circuit.Rule.{Rule}
use Rattle.lnet_edge.specs.declared.circuit.Rule.TheVariants.{And, Xor, Maj}
use Rattle.lnet_edge.specs.declared.circuit.WireRef.{WireRef}
use Rattle.lnet_edge.specs.Circuits.{CircuitValue, EquationValue}

-- ---- operands

-- the use that a word stands for, where there are so many wires: one of the last 256, complemented where the word is odd
abbrev pub use_of : ℕ → ℕ → WireRef
use_of wires word = record { wire = record { 0 = wires - (word / 2) % min wires 256 }; complement = word % 2 == 1 }

-- a use that is drawn, and the words that are left
abbrev pub draw_use : ℕ → Stream → WireRef × Stream
draw_use wires s = (use_of wires (next_u32 s).0, (next_u32 s).1)

-- so many uses, from first to last
abbrev pub draw_uses : ℕ → ℕ → Stream → List WireRef × Stream
draw_uses zero wires s = ([], s)
draw_uses (suc n) wires s = ((draw_use wires s).0 ∷ (draw_uses n wires (draw_use wires s).1).0, (draw_uses n wires (draw_use wires s).1).1)

-- ---- gates

-- the rule of a gate: where there are two, an even word is an And and an odd one a Xor
abbrev pub rule_of : ℕ → Rule
rule_of word = if word % 2 == 1 then Xor false else And false

abbrev pub draw_rule : Kind → Stream → Rule × Stream
draw_rule Aig s = (And false, s)
draw_rule Xag s = (rule_of (next_u32 s).0, (next_u32 s).1)
draw_rule Mig s = (Maj false, s)
draw_rule Klut s = (rule_of (next_u32 s).0, (next_u32 s).1)

-- how many operands a gate has
abbrev pub operand_count : Kind → ℕ
operand_count Aig = 2
operand_count Xag = 2
operand_count Mig = 3
operand_count Klut = 2

abbrev pub equation_of : ℕ → Rule → List WireRef → EquationValue
equation_of target rule operands = record { target = target; rule = rule; operands = operands }

-- a gate on the next wire: its rule is drawn first, and then its operands
abbrev pub draw_gate : Kind → ℕ → Stream → EquationValue × Stream
draw_gate kind wires s = (equation_of (wires + 1) (draw_rule kind s).0 (draw_uses (operand_count kind) wires (draw_rule kind s).1).0, (draw_uses (operand_count kind) wires (draw_rule kind s).1).1)

-- so many gates, each of which sees the wires before it
abbrev pub draw_gates : Kind → ℕ → ℕ → Stream → List EquationValue × Stream
draw_gates kind zero wires s = ([], s)
draw_gates kind (suc n) wires s = ((draw_gate kind wires s).0 ∷ (draw_gates kind n (wires + 1) (draw_gate kind wires s).1).0, (draw_gates kind n (wires + 1) (draw_gate kind wires s).1).1)

-- ---- circuits

-- so many inputs, from wire i on, without names
abbrev pub inputs_from : ℕ → ℕ → List InputPort
inputs_from i zero = []
inputs_from i (suc n) = record { wire = record { 0 = i }; name = None } ∷ inputs_from (i + 1) n

-- an output without a name
abbrev pub shown : WireRef → OutputPort
shown source = record { source = source; name = None }

-- the circuit of so many inputs, gates and outputs by a stream of words: first the gates are drawn, and then the outputs
abbrev pub drawn : Kind → ℕ → ℕ → ℕ → Stream → CircuitValue
drawn kind inputs gates outputs s = record {
  inputs = inputs_from 1 inputs;
  outputs = map shown (draw_uses outputs (inputs + gates) (draw_gates kind gates inputs s).1).0;
  equations = (draw_gates kind gates inputs s).0;
}

-- the words from a start on
unfoldable pub words_from : ℕ → Stream
words_from start = stream_of (steps_u32 pcg32) (started 64 multiplier_64 start (increment_of 64 54))

-- the circuit that is generated from a start
abbrev pub generated : Kind → ℕ → ℕ → ℕ → ℕ → CircuitValue
generated kind inputs gates outputs start = drawn kind inputs gates outputs (words_from start)
