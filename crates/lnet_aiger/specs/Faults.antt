-- Which rule is broken first, reading from the first byte on, and on which line. What stands before it keeps all rules.
use Rattle.std.specs.Prelude.{◌≡◌, ◌≢◌, ◌⊎◌, ℕ, zero, suc, ◌+◌, ◌-◌, ◌*◌, ◌<◌, ◌≤◌, false, List, [], ◌∷◌, ◌++◌, length, take, Result, Ok, Err}
use Rattle.lnet_edge.specs.declared.fault.Fault.{Fault}
use Rattle.lnet_edge.specs.declared.fault.Fault.TheVariants as fault
use Rattle.lnet_edge.specs.declared.fault.Malformed.{Malformed}
use Rattle.lnet_edge.specs.declared.circuit.InputPort.{InputPort}
use Rattle.lnet_edge.specs.declared.circuit.OutputPort.{OutputPort}
use Rattle.lnet_edge.specs.Circuits.{CircuitValue, EquationValue}
use Rattle.lnet_edge.specs.Wires.{IsBroken}
use Rattle.lnet_lines.specs.Lines.{lines_of, first_line, after_line}
use Rattle.lnet_edge.specs.declared.fault.ReadError.{ReadError}
use Rattle.lnet_edge.specs.declared.fault.ReadError.TheVariants as errors
use Rattle.lnet_aiger.specs.declared.header.Form.{Form}
use Rattle.lnet_aiger.specs.declared.header.Form.TheVariants.{Ascii, Binary}
use Rattle.lnet_aiger.specs.declared.header.Header.{Header}
use Rattle.lnet_aiger.specs.Header.{header_line}
use Rattle.lnet_aiger.specs.LineRules.{input_line, output_line, equation_line}
use Rattle.lnet_aiger.specs.Symbols.{Ports, begins_comment, naming_line}
use Rattle.lnet_aiger.specs.Grammar.{AreLines, IsGroups, IsDelta, AreGates, IsBody, HasCounts, Spells, Means}

-- the next line isn't there, or breaks the rule
abbrev pub BreaksLine : {A : Type 0} → (List ℕ → Result A Fault) → List ℕ → Fault → Type 0
BreaksLine rule bytes f = ((bytes ≡ []) × (f ≡ fault.Missing)) ⊎ ((bytes ≢ []) × (rule (first_line bytes) ≡ Err f))

-- of n lines that are due, the first k keep the rule, and the next one breaks it
pub record BreaksLines {A : Type 0} (rule : List ℕ → Result A Fault) (n : ℕ) (bytes : List ℕ) (k : ℕ) (f : Fault) : Type 0 where
  pub items : List A
  pub rest : List ℕ
  pub before : AreLines rule bytes items rest
  pub count : length items ≡ k
  pub due : k < n
  pub broken : BreaksLine rule rest f

-- each of these bytes is a group that is followed by another
abbrev pub AreOpen : List ℕ → Type 0
AreOpen [] = Unit {0}
AreOpen (b ∷ bs) = (128 ≤ b) × AreOpen bs

-- no difference stands at the front: the bytes end inside its groups, a sixth group follows, or it is out of range
abbrev pub BreaksDelta : ℕ → ℕ → List ℕ → Fault → Type 0
BreaksDelta least most bytes f =
    ((f ≡ fault.Missing) × (length bytes ≤ 5) × AreOpen bytes)
    ⊎ (((f ≡ fault.Delta) × (5 < length bytes) × AreOpen (take 5 bytes))
    ⊎ ((f ≡ fault.Delta) × (n : ℕ) × (text : List ℕ) × (rest : List ℕ) × (bytes ≡ text ++ rest) × IsGroups text n × (length text ≤ 5) × ((2147483647 < n) ⊎ ((n < least) ⊎ (most < n)))))

-- the first difference of a gate, or the second behind it, isn't there or out of range
abbrev pub BreaksGate : ℕ → List ℕ → Fault → Type 0
BreaksGate target bytes f =
    BreaksDelta 1 target bytes f
    ⊎ ((first : ℕ) × (middle : List ℕ) × IsDelta bytes first middle × (0 < first) × (first ≤ target) × BreaksDelta 0 (target - first) middle f)

-- of n gates that are due, the first k are there, and the next one isn't
pub record BreaksGates (target n : ℕ) (bytes : List ℕ) (k : ℕ) (f : Fault) : Type 0 where
  pub equations : List EquationValue
  pub rest : List ℕ
  pub before : AreGates target bytes equations rest
  pub count : length equations ≡ k
  pub due : k < n
  pub broken : BreaksGate (target + 2 * k) rest f

-- the first k lines name ports, and the next one breaks the rule of symbols
abbrev pub BreaksNames : List (List ℕ) → Ports → ℕ → Fault → Type 0
BreaksNames [] p k f = ⊥
BreaksNames (line ∷ lines) p zero f = (begins_comment line ≡ false) × (naming_line p line ≡ Err f)
BreaksNames (line ∷ lines) p (suc k) f = (begins_comment line ≡ false) × (q : Ports) × (naming_line p line ≡ Ok q) × BreaksNames lines q k f

-- an output of a body breaks its rule: behind so many lines of the body, the outputs begin
abbrev pub BreaksOutputs : Header → ℕ → List ℕ → ℕ → Fault → Type 0
BreaksOutputs h before bytes line f = (k : ℕ) × (line ≡ (2 + before) + k) × BreaksLines (output_line h.top) h.outputs bytes k f

-- a line or a gate of the body is the first that breaks its rule
abbrev pub BreaksBody : Header → List ℕ → ℕ → Fault → Type 0
BreaksBody h bytes line f = by_form h.form where
  by_form : Form → Type 0
  by_form Ascii =
      ((k : ℕ) × (line ≡ 2 + k) × BreaksLines (input_line h.top) h.inputs bytes k f)
      ⊎ ((inputs : List InputPort) × (behind : List ℕ) × AreLines (input_line h.top) bytes inputs behind × (length inputs ≡ h.inputs)
      × (BreaksOutputs h h.inputs behind line f
      ⊎ ((outputs : List OutputPort) × (last : List ℕ) × AreLines (output_line h.top) behind outputs last × (length outputs ≡ h.outputs)
      × ((k : ℕ) × (line ≡ ((2 + h.inputs) + h.outputs) + k) × BreaksLines (equation_line h.top) h.gates last k f))))
  by_form Binary =
      BreaksOutputs h 0 bytes line f
      ⊎ ((outputs : List OutputPort) × (behind : List ℕ) × AreLines (output_line h.top) bytes outputs behind × (length outputs ≡ h.outputs)
      × ((k : ℕ) × (line ≡ (2 + h.outputs) + k) × BreaksGates (2 * (h.inputs + 1)) h.gates behind k f))

-- how many lines a body counts for
abbrev pub body_lines : Header → ℕ
body_lines h = by_form h.form where
  by_form : Form → ℕ
  by_form Ascii = (h.inputs + h.outputs) + h.gates
  by_form Binary = h.outputs + h.gates

-- a line of the symbols is the first that breaks its rule
pub record BreaksSymbols (h : Header) (bytes : List ℕ) (line : ℕ) (f : Fault) : Type 0 where
  pub bare : CircuitValue
  pub rest : List ℕ
  pub counts : HasCounts h bare
  pub body : IsBody h bytes bare rest
  pub place : ℕ
  pub line_is : line ≡ (2 + body_lines h) + place
  pub broken : BreaksNames (lines_of rest) (record { inputs = bare.inputs; outputs = bare.outputs }) place f

-- The first rule that a content breaks: that of its header, of its body, of its symbols, or, with line 0, of circuits.
abbrev pub IsFault : List ℕ → Malformed → Type 0
IsFault bytes m =
    ((m.line ≡ 1) × BreaksLine header_line bytes m.kind)
    ⊎ (((bytes ≢ []) × (h : Header) × (header_line (first_line bytes) ≡ Ok h) × (BreaksBody h (after_line bytes) m.line m.kind ⊎ BreaksSymbols h (after_line bytes) m.line m.kind))
    ⊎ ((m.line ≡ 0) × (c : CircuitValue) × Spells bytes c × IsBroken c m.kind))

-- a content is refused for the first rule that it breaks, where it means no circuit; for want of memory at any time
abbrev pub Rejects : List ℕ → ReadError → Type 0
Rejects bytes errors.NoMemory = Unit {0}
Rejects bytes (errors.Malformed m) = IsFault bytes m × ((c : CircuitValue) → Means bytes c → ⊥)
