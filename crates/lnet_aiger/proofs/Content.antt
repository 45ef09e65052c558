-- A whole content: what is read from it is what it spells, and what it spells is read.
use Rattle.std.proofs.Common.{◌≡◌, ℕ, ◌+◌, ◌*◌, Bool, true, false, cond, List, [], ◌∷◌, length, Ok, None, refl, sym, ap, subst, ◌∙◌, inl, inr, arith}
use Rattle.std.proofs.lemmas.List.FromFn.{length-map-range_with_len}
use Rattle.lnet_edge.specs.declared.fault.Malformed.{Malformed}
use Rattle.lnet_edge.specs.declared.circuit.InputPort.{InputPort}
use Rattle.lnet_edge.specs.declared.circuit.OutputPort.{OutputPort}
use Rattle.lnet_edge.specs.Circuits.{CircuitValue, EquationValue}
use Rattle.lnet_lines.specs.Lines.{Place, lines_of, after_line}
use Rattle.lnet_aiger.specs.declared.header.Form.{Form}
use Rattle.lnet_aiger.specs.declared.header.Form.TheVariants.{Ascii, Binary}
use Rattle.lnet_aiger.specs.declared.header.Header.{Header}
use Rattle.lnet_aiger.specs.Chain.{◌>>=◌, at_line}
use Rattle.lnet_aiger.specs.Header.{header_line}
use Rattle.lnet_aiger.specs.LineRules.{numbered_inputs, input_line, output_line, equation_line}
use Rattle.lnet_aiger.specs.Symbols.{Ports, begins_comment, naming_line}
use Rattle.lnet_aiger.specs.Reading.{item_at, lines_at, differences_at, symbols_at, ascii_at, binary_at, body_at, named_at, content_at}
use Rattle.lnet_aiger.specs.Grammar.{AreGates, AreNamed, IsBody, HasCounts, Spells}
use Rattle.lnet_aiger.specs.Faults.{body_lines}
use Rattle.lnet_aiger.proofs.Sections.{bind_ok, ok_is, done, at, at_line_ok, item_takes, item_again, lines_take, lines_again}
use Rattle.lnet_aiger.proofs.Gates.{gates_take, gates_again}

-- ---- symbols

pub symbols_take : (number : ℕ) (lines : List (List ℕ)) (p q : Ports) → symbols_at number lines p ≡ Ok q → AreNamed lines p q
unfolding symbols_at
symbols_take number [] p q e = ok_is {E = Malformed} p q e
symbols_take number (line ∷ lines) p q e = by_comment (begins_comment line) refl e (λ r. symbols_take (number + 1) lines r q) where
  by_comment : (b : Bool) → begins_comment line ≡ b → cond b (Ok p) (at_line number (naming_line p line) >>= λ r. symbols_at (number + 1) lines r) ≡ Ok q → ((r : Ports) → symbols_at (number + 1) lines r ≡ Ok q → AreNamed lines r q) → AreNamed (line ∷ lines) p q
  by_comment true b e others = inl (b, ok_is {E = Malformed} p q e)
  by_comment false b e others =
      let r = bind_ok (at_line number (naming_line p line)) (λ r. symbols_at (number + 1) lines r) q e in
      inr (b, r.0, at_line_ok number (naming_line p line) r.0 r.1, others r.0 r.2)

pub symbols_again : (number : ℕ) (lines : List (List ℕ)) (p q : Ports) → AreNamed lines p q → symbols_at number lines p ≡ Ok q
unfolding symbols_at
symbols_again number [] p q are = ap done are
symbols_again number (line ∷ lines) p q (inl stop) = rw stop.0 (ap done stop.1)
symbols_again number (line ∷ lines) p q (inr on) = rw (on.0, on.2, symbols_again (number + 1) lines on.1 q on.3) refl

-- ---- bodies

abbrev header_by : Form → ℕ → ℕ → ℕ → ℕ → Header
header_by form top i o a = record { form = form; top = top; inputs = i; outputs = o; gates = a }

abbrev lists : List InputPort → List OutputPort → List EquationValue → CircuitValue
lists ins outs gates = record { inputs = ins; outputs = outs; equations = gates }

pub body_takes : (form : Form) (top i o a : ℕ) (bytes : List ℕ) (number : ℕ) (x : CircuitValue × Place) → body_at (header_by form top i o a) (at bytes number) ≡ Ok x → IsBody (header_by form top i o a) bytes x.0 x.1.rest × HasCounts (header_by form top i o a) x.0 × (x.1.number ≡ number + body_lines (header_by form top i o a))
unfolding ascii_at binary_at
body_takes Ascii top i o a bytes number x e =
    let r0 = bind_ok (lines_at (input_line top) i (at bytes number)) (λ inputs. lines_at (output_line top) o inputs.1 >>= λ outputs. lines_at (equation_line top) a outputs.1 >>= λ gates. Ok (lists inputs.0 outputs.0 gates.0, gates.1)) x e in
    let r1 = bind_ok (lines_at (output_line top) o r0.0.1) (λ outputs. lines_at (equation_line top) a outputs.1 >>= λ gates. Ok (lists r0.0.0 outputs.0 gates.0, gates.1)) x r0.2 in
    let r2 = bind_ok (lines_at (equation_line top) a r1.0.1) (λ gates. Ok (lists r0.0.0 r1.0.0 gates.0, gates.1)) x r1.2 in
    let t0 = lines_take (input_line top) i 0 bytes number r0.0 r0.1 in
    let t1 = lines_take (output_line top) o 0 r0.0.1.rest r0.0.1.number r1.0 r1.1 in
    let t2 = lines_take (equation_line top) a 0 r1.0.1.rest r1.0.1.number r2.0 r2.1 in
    subst (λ (y : CircuitValue × Place). IsBody (header_by Ascii top i o a) bytes y.0 y.1.rest × HasCounts (header_by Ascii top i o a) y.0 × (y.1.number ≡ number + ((i + o) + a))) (ok_is {E = Malformed} (lists r0.0.0 r1.0.0 r2.0.0, r2.0.1) x r2.2)
    ((r0.0.1.rest, r1.0.1.rest, t0.0, t1.0, t2.0), record { inputs = t0.1; outputs = t1.1; gates = t2.1 }, omega (arith, t0.2, t1.2, t2.2))
body_takes Binary top i o a bytes number x e =
    let r1 = bind_ok (lines_at (output_line top) o (at bytes number)) (λ outputs. differences_at i a outputs.1 >>= λ gates. Ok (lists (numbered_inputs i) outputs.0 gates.0, gates.1)) x e in
    let r2 = bind_ok (differences_at i a r1.0.1) (λ gates. Ok (lists (numbered_inputs i) r1.0.0 gates.0, gates.1)) x r1.2 in
    let t1 = lines_take (output_line top) o 0 bytes number r1.0 r1.1 in
    let t2 = gates_take i a 0 r1.0.1.rest r1.0.1.number r2.0 r2.1 in
    let first : 2 * (i + 1 + 0) ≡ 2 * (i + 1) = omega arith in
    let gates = subst (λ (k : ℕ). AreGates k r1.0.1.rest r2.0.0 r2.0.1.rest) first t2.0 in
    subst (λ (y : CircuitValue × Place). IsBody (header_by Binary top i o a) bytes y.0 y.1.rest × HasCounts (header_by Binary top i o a) y.0 × (y.1.number ≡ number + (o + a))) (ok_is {E = Malformed} (lists (numbered_inputs i) r1.0.0 r2.0.0, r2.0.1) x r2.2)
    ((r1.0.1.rest, refl, t1.0, gates), record { inputs = length_numbered i; outputs = t1.1; gates = t2.1 }, omega (arith, t1.2, t2.2))
  where
    length_numbered : (n : ℕ) → length (numbered_inputs n) ≡ n
    length_numbered n = length-map-range_with_len {X = InputPort} (λ k. record { wire = record { 0 = k + 1 }; name = None }) 0 n

abbrev ReadsBody : Header → List ℕ → ℕ → CircuitValue → List ℕ → Type 0
ReadsBody h bytes number c rest = (last : ℕ) × (body_at h (at bytes number) ≡ Ok (c, at rest last))

pub body_again : (form : Form) (top i o a : ℕ) (bytes : List ℕ) (number : ℕ) (c : CircuitValue) (rest : List ℕ) → HasCounts (header_by form top i o a) c → IsBody (header_by form top i o a) bytes c rest → ReadsBody (header_by form top i o a) bytes number c rest
unfolding ascii_at binary_at
body_again Ascii top i o a bytes number c rest counts is =
    (((number + i) + o) + a, rw (← counts.inputs, ← counts.outputs, ← counts.gates, lines_again (input_line top) c.inputs 0 bytes is.0 number is.2, lines_again (output_line top) c.outputs 0 is.0 is.1 (number + length c.inputs) is.3, lines_again (equation_line top) c.equations 0 is.1 rest ((number + length c.inputs) + length c.outputs) is.4) refl)
body_again Binary top i o a bytes number c rest counts is =
    let first : 2 * (i + 1) ≡ 2 * (i + 1 + 0) = omega arith in
    let gates = subst (λ (k : ℕ). AreGates k is.0 c.equations rest) first is.3 in
    let made : List InputPort → CircuitValue × Place = λ ins. (lists ins c.outputs c.equations, at rest ((number + length c.outputs) + length c.equations)) in
    ((number + o) + a, rw (← counts.outputs, ← counts.gates, lines_again (output_line top) c.outputs 0 bytes is.0 number is.2, gates_again i c.equations 0 is.0 rest (number + length c.outputs) gates) (ap (λ (ins : List InputPort). done (made ins)) (sym is.1)))

-- ---- contents

pub content_takes : (bytes : List ℕ) (c : CircuitValue) → content_at bytes ≡ Ok c → Spells bytes c
unfolding content_at named_at
content_takes bytes c e =
    let named : CircuitValue → Ports → CircuitValue = λ b ports. record { inputs = ports.inputs; outputs = ports.outputs; equations = b.equations } in
    let h = bind_ok (item_at header_line (at bytes 1)) (λ header. body_at header.0 header.1 >>= λ body. named_at body.0 body.1) c e in
    let b = bind_ok (body_at h.0.0 h.0.1) (λ body. named_at body.0 body.1) c h.2 in
    let n = bind_ok (symbols_at b.0.1.number (lines_of b.0.1.rest) (record { inputs = b.0.0.inputs; outputs = b.0.0.outputs })) (λ ports. Ok (named b.0.0 ports)) c b.2 in
    let t = item_takes header_line bytes 1 h.0 h.1 in
    let k = h.0.0 in
    let body = body_takes k.form k.top k.inputs k.outputs k.gates (after_line bytes) 2 b.0 (sym (ap (λ (p : Place). body_at k p) t.2) ∙ b.1) in
    let names = symbols_take b.0.1.number (lines_of b.0.1.rest) (record { inputs = b.0.0.inputs; outputs = b.0.0.outputs }) n.0 n.1 in
    subst (λ (d : CircuitValue). Spells bytes d) (ok_is {E = Malformed} (named b.0.0 n.0) c n.2)
    (record { header = k; bare = b.0.0; rest = b.0.1.rest; some = t.0; header_is = t.1; counts = body.1; body = body.0; names = names; equations = refl })

pub content_again : (bytes : List ℕ) (c : CircuitValue) → Spells bytes c → content_at bytes ≡ Ok c
unfolding content_at named_at
content_again bytes c is =
    let k = is.header in
    let body = body_again k.form k.top k.inputs k.outputs k.gates (after_line bytes) 2 is.bare is.rest is.counts is.body in
    let made : List EquationValue → CircuitValue = λ es. lists c.inputs c.outputs es in
    rw (item_again header_line bytes 1 k is.some is.header_is, body.1, symbols_again body.0 (lines_of is.rest) (record { inputs = is.bare.inputs; outputs = is.bare.outputs }) (record { inputs = c.inputs; outputs = c.outputs }) is.names) (ap (λ (es : List EquationValue). done (made es)) (sym is.equations))
