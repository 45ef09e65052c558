-- Symbols: lines that give ports their names. A line `i<pos> <name>` names an input, `o<pos> <name>` an output; the name is
-- one or more bytes from 32 to 126. A line that begins with `c` begins a comment.
use Rattle.std.specs.Prelude.{ℕ, Bool, ◌&&◌, List, [], ◌∷◌, length, slice_index, slice_get, slice_set, Option, Some, None, Result, Ok, Err, nat_lt, nat_le, ◌==◌, if◌then◌else◌}
use Rattle.std.specs.List.{list_all, before_first, after_first}
use Rattle.lnet_edge.specs.declared.fault.Fault.{Fault}
use Rattle.lnet_edge.specs.declared.fault.Fault.TheVariants as fault
use Rattle.lnet_edge.specs.declared.circuit.InputPort.{InputPort}
use Rattle.lnet_edge.specs.declared.circuit.OutputPort.{OutputPort}
use Rattle.lnet_lines.specs.Numbers.{number_of}
use Rattle.lnet_aiger.specs.declared.symbol.Side.{Side}
use Rattle.lnet_aiger.specs.declared.symbol.Side.TheVariants.{Input, Output}
use Rattle.lnet_aiger.specs.Header.{is_space}
use Rattle.lnet_aiger.specs.Chain.{◌>>=◌}

-- a symbol: which port it names, by its side and its place, and the name
pub record SymbolValue : Type 0 where
  pub side : Side
  pub place : ℕ
  pub name : List ℕ

-- the side of a first byte
abbrev pub side_of : ℕ → Option Side
side_of b = if b == 105 then Some Input else (if b == 111 then Some Output else None)

abbrev pub is_printable : ℕ → Bool
is_printable b = nat_le 32 b && nat_le b 126

-- whether bytes are a name
abbrev pub is_name : List ℕ → Bool
is_name bytes = nat_lt 0 (length bytes) && list_all is_printable bytes

-- the symbol of these parts, where they are there and the name is one
abbrev pub symbol_by : Option Side → Option ℕ → List ℕ → Result SymbolValue Fault
symbol_by (Some side) (Some place) name = if is_name name then Ok (record { side = side; place = place; name = name }) else Err fault.Symbol
symbol_by _ _ name = Err fault.Symbol

-- the rule of a symbol's line: a letter, a number up to the first space, and the name behind it
unfoldable pub symbol_line : List ℕ → Result SymbolValue Fault
symbol_line [] = Err fault.Symbol
symbol_line (letter ∷ text) = symbol_by (side_of letter) (number_of (before_first is_space text)) (after_first is_space text)

-- whether a comment begins
abbrev pub begins_comment : List ℕ → Bool
begins_comment line = slice_index line 0 == 99

-- ---- naming

-- the ports of a circuit
pub record Ports : Type 0 where
  pub inputs : List InputPort
  pub outputs : List OutputPort

-- the input with a name, where it is there and has none
abbrev pub input_named : Option InputPort → List ℕ → Result InputPort Fault
input_named None name = Err fault.Symbol
input_named (Some p) name = unnamed p.name where
  unnamed : Option (List ℕ) → Result InputPort Fault
  unnamed None = Ok (record { wire = p.wire; name = Some name })
  unnamed (Some other) = Err fault.Symbol

-- the output with a name, where it is there and has none
abbrev pub output_named : Option OutputPort → List ℕ → Result OutputPort Fault
output_named None name = Err fault.Symbol
output_named (Some p) name = unnamed p.name where
  unnamed : Option (List ℕ) → Result OutputPort Fault
  unnamed None = Ok (record { source = p.source; name = Some name })
  unnamed (Some other) = Err fault.Symbol

-- the inputs, the one at this place named
unfoldable pub name_input : List InputPort → ℕ → List ℕ → Result (List InputPort) Fault
name_input ports place name = input_named (slice_get ports place) name >>= λ p. Ok (slice_set ports place p)

-- the outputs, the one at this place named
unfoldable pub name_output : List OutputPort → ℕ → List ℕ → Result (List OutputPort) Fault
name_output ports place name = output_named (slice_get ports place) name >>= λ p. Ok (slice_set ports place p)

-- the ports, the one of a symbol named
abbrev pub name_port : SymbolValue → Ports → Result Ports Fault
name_port s p = on s.side where
  on : Side → Result Ports Fault
  on Input = name_input p.inputs s.place s.name >>= λ ports. Ok (record { inputs = ports; outputs = p.outputs })
  on Output = name_output p.outputs s.place s.name >>= λ ports. Ok (record { inputs = p.inputs; outputs = ports })

-- the rule of a symbol's line among these ports: it names one that is there and not named before
unfoldable pub naming_line : Ports → List ℕ → Result Ports Fault
naming_line p line = symbol_line line >>= λ s. name_port s p
