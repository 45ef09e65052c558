-- A content that is refused: its first broken rule, and that it means no circuit.
use Rattle.std.proofs.Common.{◌≡◌, ℕ, ◌+◌, ◌*◌, List, Result, Ok, Err, refl, sym, ap, subst, ◌∙◌, inl, inr, ⊎_elim, arith}
use Rattle.lnet_edge.specs.declared.fault.Fault.{Fault}
use Rattle.lnet_edge.specs.declared.fault.Fault.TheVariants as fault
use Rattle.lnet_edge.specs.declared.fault.Malformed.{Malformed}
use Rattle.lnet_edge.specs.declared.circuit.InputPort.{InputPort}
use Rattle.lnet_edge.specs.declared.circuit.OutputPort.{OutputPort}
use Rattle.lnet_edge.specs.Circuits.{CircuitValue, EquationValue}
use Rattle.lnet_edge.specs.Wires.{IsCircuit, IsBroken}
use Rattle.lnet_lines.specs.Lines.{Place, lines_of, after_line}
use Rattle.lnet_edge.specs.declared.fault.ReadError.{ReadError}
use Rattle.lnet_edge.specs.declared.fault.ReadError.TheVariants as errors
use Rattle.lnet_aiger.specs.declared.header.Form.{Form}
use Rattle.lnet_aiger.specs.declared.header.Form.TheVariants.{Ascii, Binary}
use Rattle.lnet_aiger.specs.declared.header.Header.{Header}
use Rattle.lnet_aiger.specs.Chain.{◌>>=◌, Fails}
use Rattle.lnet_aiger.specs.Header.{header_line}
use Rattle.lnet_aiger.specs.LineRules.{numbered_inputs, input_line, output_line, equation_line}
use Rattle.lnet_aiger.specs.Symbols.{Ports}
use Rattle.lnet_aiger.specs.Reading.{item_at, lines_at, differences_at, symbols_at, ascii_at, binary_at, body_at, named_at, content_at}
use Rattle.lnet_aiger.specs.Grammar.{Means}
use Rattle.lnet_aiger.specs.Faults.{BreaksGates, BreaksBody, IsFault, Rejects}
use Rattle.lnet_aiger.proofs.Sections.{ok_is, at, item_takes, lines_take}
use Rattle.lnet_aiger.proofs.Content.{body_takes, content_takes, content_again}
use Rattle.lnet_aiger.proofs.Broken.{no_err, bind_err, item_fails, lines_fail, symbols_fail}
use Rattle.lnet_aiger.proofs.BrokenGates.{gates_fail}

abbrev header_by : Form → ℕ → ℕ → ℕ → ℕ → Header
header_by form top i o a = record { form = form; top = top; inputs = i; outputs = o; gates = a }

abbrev lists : List InputPort → List OutputPort → List EquationValue → CircuitValue
lists ins outs gates = record { inputs = ins; outputs = outs; equations = gates }

-- ---- bodies

ascii_fails : (top i o a : ℕ) (bytes : List ℕ) (m : Malformed) → ascii_at (header_by Ascii top i o a) (at bytes 2) ≡ Err m → BreaksBody (header_by Ascii top i o a) bytes m.line m.kind
unfolding ascii_at
ascii_fails top i o a bytes m e =
    let made : List InputPort → List OutputPort → List EquationValue × Place → CircuitValue × Place = λ ins outs gates. (lists ins outs gates.0, gates.1) in
    ⊎_elim (λ h. inl (lines_fail (input_line top) i 0 bytes 2 m h))
    (λ ins. let t0 = lines_take (input_line top) i 0 bytes 2 ins.0 ins.1 in
    ⊎_elim (λ h. let b = lines_fail (output_line top) o 0 ins.0.1.rest ins.0.1.number m h in inr (ins.0.0, ins.0.1.rest, t0.0, t0.1, inl (b.0, b.1 ∙ ap (λ (k : ℕ). k + b.0) t0.2, b.2)))
    (λ outs. let t1 = lines_take (output_line top) o 0 ins.0.1.rest ins.0.1.number outs.0 outs.1 in
    ⊎_elim (λ h. let b = lines_fail (equation_line top) a 0 outs.0.1.rest outs.0.1.number m h in inr (ins.0.0, ins.0.1.rest, t0.0, t0.1, inr (outs.0.0, outs.0.1.rest, t1.0, t1.1, (b.0, b.1 ∙ ap (λ (k : ℕ). k + b.0) (t1.2 ∙ ap (λ (k : ℕ). k + o) t0.2), b.2))))
    (λ gates. absurd (no_err (made ins.0.0 outs.0.0 gates.0) m gates.2))
    (bind_err (lines_at (equation_line top) a outs.0.1) (λ gates. Ok (made ins.0.0 outs.0.0 gates)) m outs.2))
    (bind_err (lines_at (output_line top) o ins.0.1) (λ outputs. lines_at (equation_line top) a outputs.1 >>= λ gates. Ok (made ins.0.0 outputs.0 gates)) m ins.2))
    (bind_err (lines_at (input_line top) i (at bytes 2)) (λ inputs. lines_at (output_line top) o inputs.1 >>= λ outputs. lines_at (equation_line top) a outputs.1 >>= λ gates. Ok (made inputs.0 outputs.0 gates)) m e)

binary_fails : (top i o a : ℕ) (bytes : List ℕ) (m : Malformed) → binary_at (header_by Binary top i o a) (at bytes 2) ≡ Err m → BreaksBody (header_by Binary top i o a) bytes m.line m.kind
unfolding binary_at
binary_fails top i o a bytes m e =
    let made : List OutputPort → List EquationValue × Place → CircuitValue × Place = λ outs gates. (lists (numbered_inputs i) outs gates.0, gates.1) in
    let first : 2 * (i + 1 + 0) ≡ 2 * (i + 1) = omega arith in
    ⊎_elim (λ h. let b = lines_fail (output_line top) o 0 bytes 2 m h in inl (b.0, omega (arith, b.1), b.2))
    (λ outs. let t1 = lines_take (output_line top) o 0 bytes 2 outs.0 outs.1 in
    ⊎_elim (λ h. let b = gates_fail i a 0 outs.0.1.rest outs.0.1.number m h in inr (outs.0.0, outs.0.1.rest, t1.0, t1.1, (b.0, b.1 ∙ ap (λ (k : ℕ). k + b.0) t1.2, subst (λ (k : ℕ). BreaksGates k a outs.0.1.rest b.0 m.kind) first b.2)))
    (λ gates. absurd (no_err (made outs.0.0 gates.0) m gates.2))
    (bind_err (differences_at i a outs.0.1) (λ gates. Ok (made outs.0.0 gates)) m outs.2))
    (bind_err (lines_at (output_line top) o (at bytes 2)) (λ outputs. differences_at i a outputs.1 >>= λ gates. Ok (made outputs.0 gates)) m e)

body_fails : (form : Form) (top i o a : ℕ) (bytes : List ℕ) (m : Malformed) → body_at (header_by form top i o a) (at bytes 2) ≡ Err m → BreaksBody (header_by form top i o a) bytes m.line m.kind
body_fails Ascii top i o a bytes m e = ascii_fails top i o a bytes m e
body_fails Binary top i o a bytes m e = binary_fails top i o a bytes m e

-- ---- contents

pub content_fails : (bytes : List ℕ) (m : Malformed) → content_at bytes ≡ Err m → IsFault bytes m
unfolding content_at named_at
content_fails bytes m e =
    let named : CircuitValue → Ports → CircuitValue = λ b ports. record { inputs = ports.inputs; outputs = ports.outputs; equations = b.equations } in
    ⊎_elim (λ h. inl (item_fails header_line bytes 1 m h))
    (λ h. let t = item_takes header_line bytes 1 h.0 h.1 in
    let k = h.0.0 in
    ⊎_elim (λ b. inr (inl (t.0, k, t.1, inl (body_fails k.form k.top k.inputs k.outputs k.gates (after_line bytes) m (sym (ap (λ (p : Place). body_at k p) t.2) ∙ b)))))
    (λ b. let is = body_takes k.form k.top k.inputs k.outputs k.gates (after_line bytes) 2 b.0 (sym (ap (λ (p : Place). body_at k p) t.2) ∙ b.1) in
    ⊎_elim (λ n. let s = symbols_fail b.0.1.number (lines_of b.0.1.rest) (record { inputs = b.0.0.inputs; outputs = b.0.0.outputs }) m n in inr (inl (t.0, k, t.1, inr (record { bare = b.0.0; rest = b.0.1.rest; counts = is.1; body = is.0; place = s.0; line_is = s.1 ∙ ap (λ (j : ℕ). j + s.0) is.2; broken = s.2 }))))
    (λ n. absurd (no_err (named b.0.0 n.0) m n.2))
    (bind_err (symbols_at b.0.1.number (lines_of b.0.1.rest) (record { inputs = b.0.0.inputs; outputs = b.0.0.outputs })) (λ ports. Ok (named b.0.0 ports)) m b.2))
    (bind_err (body_at k h.0.1) (λ body. named_at body.0 body.1) m h.2))
    (bind_err (item_at header_line (at bytes 1)) (λ header. body_at header.0 header.1 >>= λ body. named_at body.0 body.1) m e)

-- ---- answers

no_circuit : (bytes : List ℕ) (m : Malformed) → content_at bytes ≡ Err m → (c : CircuitValue) → Means bytes c → ⊥
no_circuit bytes m e c means = no_err c m (sym (content_again bytes c means.spelled) ∙ e)

-- the content is refused with an error of reading
pub reading_rejects : (bytes : List ℕ) (e : ReadError) → Fails e (content_at bytes) → Rejects bytes e
reading_rejects bytes errors.NoMemory fails = tt
reading_rejects bytes (errors.Malformed m) fails = (content_fails bytes m fails, no_circuit bytes m fails)

broken_is : (c : CircuitValue) (f : Fault) → IsBroken c f → IsCircuit c → ⊥
broken_is c fault.Undriven broken is = is.driven broken
broken_is c fault.Twice broken is = is.once broken.1
broken_is c fault.Cycle broken is = is.acyclic broken.2
broken_is c _ broken is = broken

-- a content that is read breaks a rule of circuits
pub circuit_rejects : (bytes : List ℕ) (c : CircuitValue) (f : Fault) → content_at bytes ≡ Ok c → IsBroken c f → Rejects bytes (errors.Malformed (record { line = 0; kind = f }))
circuit_rejects bytes c f e broken = (inr (inr (refl, c, content_takes bytes c e, broken)), λ d means. broken_is c f broken (subst IsCircuit (ok_is {E = Malformed} d c (sym (content_again bytes d means.spelled) ∙ e)) means.circuit))

-- a content that is read, whose ports and equations are a circuit
pub is_found : (bytes : List ℕ) (c : CircuitValue) → content_at bytes ≡ Ok c → IsCircuit c → Means bytes c
is_found bytes c e is = record { spelled = content_takes bytes c e; circuit = is }

-- what is meant is what is read
pub is_only : (bytes : List ℕ) (c d : CircuitValue) → content_at bytes ≡ Ok c → Means bytes d → d ≡ c
is_only bytes c d e means = ok_is {E = Malformed} d c (sym (content_again bytes d means.spelled) ∙ e)

-- an error of reading is no answer to a content that means a circuit
pub fails_meant : (bytes : List ℕ) (d : CircuitValue) (e : ReadError) → Fails e (content_at bytes) → Means bytes d → Fails {Y = CircuitValue} e (Ok d)
fails_meant bytes d e fails means = subst (λ (r : Result CircuitValue Malformed). Fails e r) (content_again bytes d means.spelled) fails

-- neither is a broken rule of circuits
pub broken_meant : (bytes : List ℕ) (c d : CircuitValue) (f : Fault) → content_at bytes ≡ Ok c → IsBroken c f → Means bytes d → ⊥
broken_meant bytes c d f e broken means = broken_is c f broken (subst IsCircuit (is_only bytes c d e means) means.circuit)
