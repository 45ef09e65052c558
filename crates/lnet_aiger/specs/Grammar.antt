-- What a content in the AIGER format means: a grammar over its lines and, for binary gates, its bytes. After Biere, "The
-- AIGER And-Inverter Graph (AIG) Format", version 20070427, and Biere, Heljanko and Wieringa, "AIGER 1.9 And Beyond", 2011.
use Rattle.std.specs.Prelude.{◌≡◌, ◌≢◌, ℕ, ◌+◌, ◌*◌, ◌<◌, ◌≤◌, true, false, List, [], ◌∷◌, ◌++◌, ◌⊎◌, length, Result, Ok}
use Rattle.lnet_edge.specs.declared.fault.Fault.{Fault}
use Rattle.lnet_edge.specs.Circuits.{CircuitValue, EquationValue}
use Rattle.lnet_edge.specs.Wires.{IsCircuit}
use Rattle.lnet_lines.specs.Lines.{lines_of, first_line, after_line}
use Rattle.lnet_aiger.specs.declared.body.Gate.{Gate}
use Rattle.lnet_aiger.specs.declared.header.Form.{Form}
use Rattle.lnet_aiger.specs.declared.header.Form.TheVariants.{Ascii, Binary}
use Rattle.lnet_aiger.specs.declared.header.Header.{Header}
use Rattle.lnet_aiger.specs.Header.{header_line}
use Rattle.lnet_aiger.specs.LineRules.{equation_of, numbered_inputs, input_line, output_line, equation_line}
use Rattle.lnet_aiger.specs.Symbols.{Ports, begins_comment, naming_line}

-- the lines at the front of the bytes mean these items under a rule, one line each, and behind them is the rest
abbrev pub AreLines : {A : Type 0} → (List ℕ → Result A Fault) → List ℕ → List A → List ℕ → Type 0
AreLines rule bytes [] rest = bytes ≡ rest
AreLines rule bytes (x ∷ xs) rest = (bytes ≢ []) × (rule (first_line bytes) ≡ Ok x) × AreLines rule (after_line bytes) xs rest

-- the bytes are this number in groups of seven bits, the least significant first: a byte below 128 is the last group, and
-- one from 128 on is a group of the seven bits below its top one, with others behind it
abbrev pub IsGroups : List ℕ → ℕ → Type 0
IsGroups [] n = ⊥
IsGroups (b ∷ []) n = (b < 128) × (n ≡ b)
IsGroups (b ∷ c ∷ bs) n = (128 ≤ b) × (high : ℕ) × (n + 128 ≡ b + 128 * high) × IsGroups (c ∷ bs) high

-- a difference stands at the front, in at most five groups, and behind it is the rest
pub record IsDelta (bytes : List ℕ) (n : ℕ) (rest : List ℕ) : Type 0 where
  pub text : List ℕ
  pub front : bytes ≡ text ++ rest
  pub groups : IsGroups text n
  pub short : length text ≤ 5
  pub small : n ≤ 2147483647

-- two differences at the front give the gate of a literal: its first operand is below it, and its second not above the first
pub record IsGate (bytes : List ℕ) (g : Gate) (rest : List ℕ) : Type 0 where
  pub first : ℕ
  pub second : ℕ
  pub middle : List ℕ
  pub first_delta : IsDelta bytes first middle
  pub second_delta : IsDelta middle second rest
  pub below : 0 < first
  pub first_is : g.first + first ≡ g.target
  pub second_is : g.second + second ≡ g.first

-- the gates at the front have the literals from this one on, one variable after another, and give these equations
abbrev pub AreGates : ℕ → List ℕ → List EquationValue → List ℕ → Type 0
AreGates target bytes [] rest = bytes ≡ rest
AreGates target bytes (e ∷ es) rest = (g : Gate) × (middle : List ℕ) × (g.target ≡ target) × IsGate bytes g middle × (e ≡ equation_of g) × AreGates (target + 2) middle es rest

-- the lines of symbols, up to the end or a comment, take ports to ports, name by name
abbrev pub AreNamed : List (List ℕ) → Ports → Ports → Type 0
AreNamed [] p q = p ≡ q
AreNamed (line ∷ lines) p q = ((begins_comment line ≡ true) × (p ≡ q)) ⊎ ((begins_comment line ≡ false) × (r : Ports) × (naming_line p line ≡ Ok r) × AreNamed lines r q)

-- the ports and equations of a body under its header, and what is behind it
abbrev pub IsBody : Header → List ℕ → CircuitValue → List ℕ → Type 0
IsBody h bytes c rest = by_form h.form where
  by_form : Form → Type 0
  by_form Ascii = (inputs : List ℕ) × (outputs : List ℕ) × AreLines (input_line h.top) bytes c.inputs inputs × AreLines (output_line h.top) inputs c.outputs outputs × AreLines (equation_line h.top) outputs c.equations rest
  by_form Binary = (outputs : List ℕ) × (c.inputs ≡ numbered_inputs h.inputs) × AreLines (output_line h.top) bytes c.outputs outputs × AreGates (2 * (h.inputs + 1)) outputs c.equations rest

-- the lists of a circuit have the lengths that the header counts
pub record HasCounts (h : Header) (c : CircuitValue) : Type 0 where
  pub inputs : length c.inputs ≡ h.inputs
  pub outputs : length c.outputs ≡ h.outputs
  pub gates : length c.equations ≡ h.gates

-- the lines and bytes of a content give these ports and equations
pub record Spells (bytes : List ℕ) (c : CircuitValue) : Type 0 where
  pub header : Header
  pub bare : CircuitValue
  pub rest : List ℕ
  pub some : bytes ≢ []
  pub header_is : header_line (first_line bytes) ≡ Ok header
  pub counts : HasCounts header bare
  pub body : IsBody header (after_line bytes) bare rest
  pub names : AreNamed (lines_of rest) (record { inputs = bare.inputs; outputs = bare.outputs }) (record { inputs = c.inputs; outputs = c.outputs })
  pub equations : c.equations ≡ bare.equations

-- a content means a circuit: its ports and equations are those that the lines give, and they keep the rules of circuits
pub record Means (bytes : List ℕ) (c : CircuitValue) : Type 0 where
  pub spelled : Spells bytes c
  pub circuit : IsCircuit c
