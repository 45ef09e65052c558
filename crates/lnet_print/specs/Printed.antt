-- The text of a network: a line for each live node, ascending, and then one for each output.
use Rattle.std.specs.Prelude.{Option, None, Some, ℕ, suc, Bool, true, false, List, [], ◌∷◌, ◌++◌, length, codes}
use Rattle.std.specs.List.{flat_map}
use Rattle.std.specs.FinMap.{entries}
use Rattle.std.specs.Fmt.{decimal}
use Rattle.lnet_tables.specs.Digits.{digit_count, hex_digits}
use Rattle.lnet_gates.specs.declared.signal.Signal.{Signal}
use Rattle.lnet_gates.specs.declared.gate.Op.{Op}
use Rattle.lnet_gates.specs.declared.gate.Op.TheVariants.{And, Xor, Maj, Lut}
use Rattle.lnet_gates.specs.Gates.{GateValue}
use Rattle.lnet_model.specs.Networks.{NetworkValue, Entry, Constant, Input, IsGate}

-- `!` before what is complemented
abbrev pub mark : Bool → List ℕ
mark true = 33 ∷ []
mark false = []

-- a node's number, and `!` before it where the signal is its complement
abbrev pub signal_text : Signal → List ℕ
signal_text s = mark s.complement ++ decimal s.node.0

-- each of the signals, after a space
abbrev pub operands_text : List Signal → List ℕ
operands_text ss = flat_map (λ s. 32 ∷ signal_text s) ss

-- an operation's word; after that of a look-up table its table
abbrev pub op_text : Op → ℕ → List ℕ
op_text And arity = codes "and"
op_text Xor arity = codes "xor"
op_text Maj arity = codes "maj"
op_text (Lut table) arity = codes "lut " ++ hex_digits (digit_count arity) table

-- a gate, with `!` before its operation where its phase is 1, and its fanins in their stored order
abbrev pub gate_text : GateValue → List ℕ
gate_text g = mark g.phase ++ (op_text g.op (length g.fanins) ++ operands_text g.fanins)

-- what stands at a node
abbrev pub entry_text : Entry → List ℕ
entry_text Constant = codes "false"
entry_text (Input k) = codes "input " ++ decimal k
entry_text (IsGate g) = gate_text g

-- the line of a node
abbrev pub node_line : ℕ → Entry → List ℕ
node_line n e = codes "node " ++ (decimal n ++ (32 ∷ (entry_text e ++ 10 ∷ [])))

-- the line of an output
abbrev pub output_line : ℕ → Signal → List ℕ
output_line k s = codes "output " ++ (decimal k ++ (32 ∷ (signal_text s ++ 10 ∷ [])))

-- the lines of outputs, from this place on
abbrev pub output_lines : ℕ → List Signal → List ℕ
output_lines k [] = []
output_lines k (s ∷ ss) = output_line k s ++ output_lines (suc k) ss

-- the lines of the nodes
unfoldable pub node_lines : NetworkValue → List ℕ
node_lines N = flat_map (λ e. node_line e.0 e.1) (entries N.nodes)

-- the whole text
abbrev pub print_text : NetworkValue → List ℕ
print_text N = node_lines N ++ output_lines 0 N.outputs

-- the line of the node at a number, nothing where none is live
abbrev pub line_at : ℕ → Option Entry → List ℕ
line_at n None = []
line_at n (Some e) = node_line n e
