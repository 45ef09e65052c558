-- Reading from left to right: what each part of the content gives, and the place behind it. It is for the proofs of the
-- reader; what a content means is in Grammar.
use Rattle.std.specs.Prelude.{ℕ, zero, suc, ◌+◌, ◌*◌, List, [], ◌∷◌, Result, Ok, Err, if◌then◌else◌}
use Rattle.lnet_edge.specs.declared.fault.Fault.{Fault}
use Rattle.lnet_edge.specs.declared.fault.Fault.TheVariants as fault
use Rattle.lnet_edge.specs.declared.fault.Malformed.{Malformed}
use Rattle.lnet_edge.specs.Circuits.{CircuitValue, EquationValue}
use Rattle.lnet_lines.specs.Lines.{Place, lines_of, first_line, after_line}
use Rattle.lnet_aiger.specs.declared.header.Form.{Form}
use Rattle.lnet_aiger.specs.declared.header.Form.TheVariants.{Ascii, Binary}
use Rattle.lnet_aiger.specs.declared.header.Header.{Header}
use Rattle.lnet_aiger.specs.Header.{header_line}
use Rattle.lnet_aiger.specs.LineRules.{numbered_inputs, input_line, output_line, equation_line}
use Rattle.lnet_aiger.specs.Deltas.{difference_at}
use Rattle.lnet_aiger.specs.Chain.{◌>>=◌, at_line}
use Rattle.lnet_aiger.specs.Symbols.{Ports, begins_comment, naming_line}

-- the line that is due, which is missing where no byte is left
abbrev pub line_due : Place → Result (List ℕ × Place) Malformed
line_due p = due p.rest where
  due : List ℕ → Result (List ℕ × Place) Malformed
  due [] = Err (record { line = p.number; kind = fault.Missing })
  due (b ∷ bs) = Ok (first_line (b ∷ bs), record { rest = after_line (b ∷ bs); number = p.number + 1 })

-- a line under a rule
unfoldable pub item_at : {A : Type 0} → (List ℕ → Result A Fault) → Place → Result (A × Place) Malformed
item_at rule p = do
  line ← line_due p
  item ← at_line p.number (rule line.0)
  Ok (item, line.1)

-- so many items one after another, the first of which has this index
unfoldable pub items_at : {A : Type 0} → (ℕ → Place → Result (A × Place) Malformed) → ℕ → ℕ → Place → Result (List A × Place) Malformed
items_at item zero i p = Ok ([], p)
items_at item (suc n) i p = do
  first ← item i p
  others ← items_at item n (i + 1) first.1
  Ok (first.0 ∷ others.0, others.1)

-- so many lines under a rule
abbrev pub lines_at : {A : Type 0} → (List ℕ → Result A Fault) → ℕ → Place → Result (List A × Place) Malformed
lines_at rule n p = items_at (λ i. item_at rule) n 0 p

-- so many binary gates, the first of which is the variable behind the inputs
abbrev pub differences_at : ℕ → ℕ → Place → Result (List EquationValue × Place) Malformed
differences_at inputs n p = items_at (λ i. difference_at (2 * (inputs + 1 + i))) n 0 p

-- the symbols of these lines, the first of which has this number
unfoldable pub symbols_at : ℕ → List (List ℕ) → Ports → Result Ports Malformed
symbols_at number [] p = Ok p
symbols_at number (line ∷ lines) p = if begins_comment line then Ok p else at_line number (naming_line p line) >>= λ q. symbols_at (number + 1) lines q

-- the body of the ASCII form: inputs, outputs and gates
unfoldable pub ascii_at : Header → Place → Result (CircuitValue × Place) Malformed
ascii_at h p = do
  inputs ← lines_at (input_line h.top) h.inputs p
  outputs ← lines_at (output_line h.top) h.outputs inputs.1
  gates ← lines_at (equation_line h.top) h.gates outputs.1
  Ok (record { inputs = inputs.0; outputs = outputs.0; equations = gates.0 }, gates.1)

-- the body of the binary form: outputs and gates
unfoldable pub binary_at : Header → Place → Result (CircuitValue × Place) Malformed
binary_at h p = do
  outputs ← lines_at (output_line h.top) h.outputs p
  gates ← differences_at h.inputs h.gates outputs.1
  Ok (record { inputs = numbered_inputs h.inputs; outputs = outputs.0; equations = gates.0 }, gates.1)

-- the body
abbrev pub body_at : Header → Place → Result (CircuitValue × Place) Malformed
body_at h p = by_form h.form where
  by_form : Form → Result (CircuitValue × Place) Malformed
  by_form Ascii = ascii_at h p
  by_form Binary = binary_at h p

-- a body's ports, named
unfoldable pub named_at : CircuitValue → Place → Result CircuitValue Malformed
named_at c p = do
  ports ← symbols_at p.number (lines_of p.rest) (record { inputs = c.inputs; outputs = c.outputs })
  Ok (record { inputs = ports.inputs; outputs = ports.outputs; equations = c.equations })

-- the ports and equations of a content
unfoldable pub content_at : List ℕ → Result CircuitValue Malformed
content_at bytes = do
  header ← item_at header_line (record { rest = bytes; number = 1 })
  body ← body_at header.0 header.1
  named_at body.0 body.1
