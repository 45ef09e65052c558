-- Limits of what a content gives.
use Rattle.std.proofs.Common.{◌≡◌, ℕ, ◌+◌, ◌*◌, ◌≤◌, Bool, true, false, cond, ltb, not, List, [], ◌∷◌, length, drop, codes, Result, Ok, Err, refl, sym, ap, subst, ◌∙◌, inl, inr, arith, lit≤}
use Rattle.std.specs.Prelude.{All, ◌||◌, slice_get, slice_set, nat_eq}
use Rattle.std.specs.List.{starts_with}
use Rattle.std.proofs.Math.ListN.{length-set}
use Rattle.std.proofs.lemmas.List.Elements.{All-cons, All-nil}
use Rattle.std.proofs.lemmas.Bool.Decides.{nat_tests}
use Rattle.lnet_edge.specs.declared.fault.Fault.{Fault}
use Rattle.lnet_edge.specs.declared.fault.Fault.TheVariants as fault
use Rattle.lnet_edge.specs.declared.circuit.InputPort.{InputPort}
use Rattle.lnet_edge.specs.declared.circuit.OutputPort.{OutputPort}
use Rattle.lnet_edge.specs.Circuits.{CircuitValue, EquationValue}
use Rattle.lnet_edge.specs.declared.circuit.Rule.TheVariants.{And}
use Rattle.lnet_edge.specs.Plain.{IsPlain}
use Rattle.lnet_aiger.specs.Texts.{IsWritable}
use Rattle.lnet_edge.specs.Wires.{HasArity, HasArities}
use Rattle.lnet_lines.specs.Lines.{lines_of, first_line, after_line}
use Rattle.lnet_aiger.specs.declared.body.Gate.{Gate}
use Rattle.lnet_aiger.specs.declared.header.Form.{Form}
use Rattle.lnet_aiger.specs.declared.header.Form.TheVariants.{Ascii, Binary}
use Rattle.lnet_aiger.specs.declared.header.Header.{Header}
use Rattle.lnet_aiger.specs.declared.header.Counts.{Counts}
use Rattle.lnet_aiger.specs.declared.symbol.Side.{Side}
use Rattle.lnet_aiger.specs.declared.symbol.Side.TheVariants.{Input, Output}
use Rattle.lnet_aiger.specs.Chain.{◌>>=◌}
use Rattle.lnet_aiger.specs.Header.{counts_of, header_of, header_line, top_fits, are_too_many, are_plain}
use Rattle.lnet_aiger.specs.LineRules.{equation_of, gate_line, equation_line}
use Rattle.lnet_aiger.specs.Symbols.{Ports, symbol_line, input_named, output_named, name_input, name_output, name_port, naming_line}
use Rattle.lnet_aiger.specs.Grammar.{AreLines, AreGates, AreNamed, IsBody, Spells, Means}
use Rattle.lnet_aiger.proofs.Sections.{bind_ok, ok_is}

-- ---- the header

refused : {A : Type 0} (t : Bool) (d : Fault) (r : Result A Fault) (y : A) → cond t (Err d) r ≡ Ok y → (t ≡ false) × (r ≡ Ok y)
refused true d r y e = absurd cc
refused false d r y e = (refl, e)

pub record IsSmall (h : Header) : Type 0 where
  pub few : h.inputs + h.gates ≤ 1048576
  pub few_outputs : h.outputs ≤ 100000000

header_of-small : (form : Form) (c : Counts) (h : Header) → header_of form c ≡ Ok h → IsSmall h
unfolding header_of
header_of-small form c h e =
    let made : Header = record { form = form; top = c.top; inputs = c.inputs; outputs = c.outputs; gates = c.gates } in
    let r3 : Result Header Fault = cond (not (nat_eq c.latches 0)) (Err fault.Sequential) (Ok made) in
    let r2 : Result Header Fault = cond (not (are_plain c)) (Err fault.Property) r3 in
    let r1 : Result Header Fault = cond (are_too_many c) (Err fault.TooMany) r2 in
    let s0 = refused (not (top_fits form c)) fault.Header r1 h e in
    let s1 = refused (are_too_many c) fault.TooMany r2 h s0.1 in
    let s2 = refused (not (are_plain c)) fault.Property r3 h s1.1 in
    let s3 = refused (not (nat_eq c.latches 0)) fault.Sequential (Ok made) h s2.1 in
    let few = limits (c.inputs + c.latches + c.gates) (c.latches + c.outputs) s1.0 in
    subst IsSmall (ok_is {E = Fault} made h s3.1) (record { few = omega (arith, few.0); few_outputs = omega (arith, few.1) })
  where
    limits : (m n : ℕ) → (ltb 1048576 m || ltb 100000000 n) ≡ false → (m ≤ 1048576) × (n ≤ 100000000)
    limits m n e = (grind (arith, nat_tests), grind (arith, nat_tests))

pub header_line-small : (line : List ℕ) (h : Header) → header_line line ≡ Ok h → IsSmall h
unfolding header_line
header_line-small line h e = by_ascii (starts_with nat_eq line (codes "aag ")) e where
  by_binary : (t : Bool) → cond t (counts_of (drop 4 line) >>= header_of Binary) (Err fault.Header) ≡ Ok h → IsSmall h
  by_binary true e = let c = bind_ok (counts_of (drop 4 line)) (header_of Binary) h e in header_of-small Binary c.0 h c.2
  by_binary false e = absurd cc

  by_ascii : (t : Bool) → cond t (counts_of (drop 4 line) >>= header_of Ascii) (cond (starts_with nat_eq line (codes "aig ")) (counts_of (drop 4 line) >>= header_of Binary) (Err fault.Header)) ≡ Ok h → IsSmall h
  by_ascii true e = let c = bind_ok (counts_of (drop 4 line)) (header_of Ascii) h e in header_of-small Ascii c.0 h c.2
  by_ascii false e = by_binary (starts_with nat_eq line (codes "aig ")) e

-- ---- arities

abbrev TakesTwo : EquationValue → Type 0
TakesTwo e = HasArity e.rule (length e.operands)

takes_two : (g : Gate) → TakesTwo (equation_of g)
takes_two g = lit≤ tt

equation_line-two : (top : ℕ) (line : List ℕ) (e : EquationValue) → equation_line top line ≡ Ok e → TakesTwo e
unfolding equation_line
equation_line-two top line e h =
    let g = bind_ok (gate_line top line) (λ g. Ok (equation_of g)) e h in
    subst TakesTwo (ok_is {E = Fault} (equation_of g.0) e g.2) (takes_two g.0)

lines_two : (top : ℕ) (bytes : List ℕ) (es : List EquationValue) (rest : List ℕ) → AreLines (equation_line top) bytes es rest → HasArities es
lines_two top bytes [] rest are = All-nil TakesTwo
lines_two top bytes (e ∷ es) rest are = All-cons TakesTwo e es (equation_line-two top (first_line bytes) e are.1) (lines_two top (after_line bytes) es rest are.2)

gates_two : (target : ℕ) (bytes : List ℕ) (es : List EquationValue) (rest : List ℕ) → AreGates target bytes es rest → HasArities es
gates_two target bytes [] rest are = All-nil TakesTwo
gates_two target bytes (e ∷ es) rest are = All-cons TakesTwo e es (subst TakesTwo (sym are.4) (takes_two are.0)) (gates_two (target + 2) are.1 es rest are.5)

body_two : (form : Form) (top i o a : ℕ) (bytes : List ℕ) (c : CircuitValue) (rest : List ℕ) → IsBody (record { form = form; top = top; inputs = i; outputs = o; gates = a }) bytes c rest → HasArities c.equations
body_two Ascii top i o a bytes c rest is = lines_two top is.1 c.equations rest is.4
body_two Binary top i o a bytes c rest is = gates_two (2 * (i + 1)) is.0 c.equations rest is.3

-- ---- names

record KeepsCounts (p q : Ports) : Type 0 where
  inputs : length q.inputs ≡ length p.inputs
  outputs : length q.outputs ≡ length p.outputs

name_input-length : (ports : List InputPort) (place : ℕ) (name : List ℕ) (named : List InputPort) → name_input ports place name ≡ Ok named → length named ≡ length ports
unfolding name_input
name_input-length ports place name named e =
    let r = bind_ok (input_named (slice_get ports place) name) (λ p. Ok (slice_set ports place p)) named e in
    sym (ap length (ok_is {E = Fault} (slice_set ports place r.0) named r.2)) ∙ length-set ports place r.0

name_output-length : (ports : List OutputPort) (place : ℕ) (name : List ℕ) (named : List OutputPort) → name_output ports place name ≡ Ok named → length named ≡ length ports
unfolding name_output
name_output-length ports place name named e =
    let r = bind_ok (output_named (slice_get ports place) name) (λ p. Ok (slice_set ports place p)) named e in
    sym (ap length (ok_is {E = Fault} (slice_set ports place r.0) named r.2)) ∙ length-set ports place r.0

name_port-keeps : (side : Side) (place : ℕ) (name : List ℕ) (p q : Ports) → name_port (record { side = side; place = place; name = name }) p ≡ Ok q → KeepsCounts p q
name_port-keeps Input place name p q e =
    let made : List InputPort → Ports = λ ports. record { inputs = ports; outputs = p.outputs } in
    let r = bind_ok (name_input p.inputs place name) (λ ports. Ok (made ports)) q e in
    subst (KeepsCounts p) (ok_is {E = Fault} (made r.0) q r.2) (record { inputs = name_input-length p.inputs place name r.0 r.1; outputs = refl })
name_port-keeps Output place name p q e =
    let made : List OutputPort → Ports = λ ports. record { inputs = p.inputs; outputs = ports } in
    let r = bind_ok (name_output p.outputs place name) (λ ports. Ok (made ports)) q e in
    subst (KeepsCounts p) (ok_is {E = Fault} (made r.0) q r.2) (record { inputs = refl; outputs = name_output-length p.outputs place name r.0 r.1 })

naming_line-keeps : (p : Ports) (line : List ℕ) (q : Ports) → naming_line p line ≡ Ok q → KeepsCounts p q
unfolding naming_line
naming_line-keeps p line q e =
    let r = bind_ok (symbol_line line) (λ s. name_port s p) q e in
    name_port-keeps r.0.side r.0.place r.0.name p q r.2

names_keep : (lines : List (List ℕ)) (p q : Ports) → AreNamed lines p q → KeepsCounts p q
names_keep [] p q are = subst (KeepsCounts p) are (record { inputs = refl; outputs = refl })
names_keep (line ∷ lines) p q (inl stop) = subst (KeepsCounts p) stop.1 (record { inputs = refl; outputs = refl })
names_keep (line ∷ lines) p q (inr on) =
    let a = naming_line-keeps p line on.1 on.2 in
    let b = names_keep lines on.1 q on.3 in
    record { inputs = b.inputs ∙ a.inputs; outputs = b.outputs ∙ a.outputs }

-- ---- contents

pub spelled_arities : (bytes : List ℕ) (c : CircuitValue) → Spells bytes c → HasArities c.equations
spelled_arities bytes c is =
    let h = is.header in
    subst HasArities (sym is.equations) (body_two h.form h.top h.inputs h.outputs h.gates (after_line bytes) is.bare is.rest is.body)

pub spelled_few : (bytes : List ℕ) (c : CircuitValue) → Spells bytes c → (length c.inputs + length c.equations ≤ 1048576) × (length c.outputs ≤ 100000000)
spelled_few bytes c is =
    let small = header_line-small (first_line bytes) is.header is.header_is in
    let kept = names_keep (lines_of is.rest) (record { inputs = is.bare.inputs; outputs = is.bare.outputs }) (record { inputs = c.inputs; outputs = c.outputs }) is.names in
    let gates : length c.equations ≡ length is.bare.equations = ap length is.equations in
    let i = is.counts.inputs in
    let o = is.counts.outputs in
    let a = is.counts.gates in
    let ki = kept.inputs in
    let ko = kept.outputs in
    let few = small.few in
    let few_outputs = small.few_outputs in
    (omega arith, omega arith)

-- ---- what is read can be written where it is plain

is_and : (g : Gate) → (equation_of g).rule ≡ And false
is_and g = refl

equation_line-and : (top : ℕ) (line : List ℕ) (e : EquationValue) → equation_line top line ≡ Ok e → e.rule ≡ And false
unfolding equation_line
equation_line-and top line e h =
    let g = bind_ok (gate_line top line) (λ g. Ok (equation_of g)) e h in
    sym (ap (λ (f : EquationValue). f.rule) (ok_is {E = Fault} (equation_of g.0) e g.2))

abbrev AreAnds : List EquationValue → Type 0
AreAnds es = All (λ (e : EquationValue). e.rule ≡ And false) es

lines_and : (top : ℕ) (bytes : List ℕ) (es : List EquationValue) (rest : List ℕ) → AreLines (equation_line top) bytes es rest → AreAnds es
lines_and top bytes [] rest are = All-nil (λ (e : EquationValue). e.rule ≡ And false)
lines_and top bytes (e ∷ es) rest are = All-cons (λ (e : EquationValue). e.rule ≡ And false) e es (equation_line-and top (first_line bytes) e are.1) (lines_and top (after_line bytes) es rest are.2)

gates_and : (target : ℕ) (bytes : List ℕ) (es : List EquationValue) (rest : List ℕ) → AreGates target bytes es rest → AreAnds es
gates_and target bytes [] rest are = All-nil (λ (e : EquationValue). e.rule ≡ And false)
gates_and target bytes (e ∷ es) rest are = All-cons (λ (e : EquationValue). e.rule ≡ And false) e es (ap (λ (f : EquationValue). f.rule) are.4) (gates_and (target + 2) are.1 es rest are.5)

body_and : (form : Form) (top i o a : ℕ) (bytes : List ℕ) (c : CircuitValue) (rest : List ℕ) → IsBody (record { form = form; top = top; inputs = i; outputs = o; gates = a }) bytes c rest → AreAnds c.equations
body_and Ascii top i o a bytes c rest is = lines_and top is.1 c.equations rest is.4
body_and Binary top i o a bytes c rest is = gates_and (2 * (i + 1)) is.0 c.equations rest is.3

pub meant_writable : (bytes : List ℕ) (c : CircuitValue) → Means bytes c → IsPlain c.equations → IsWritable c
meant_writable bytes c means plain =
    let is = means.spelled in
    let h = is.header in
    record { plain = plain; ands = subst AreAnds (sym is.equations) (body_and h.form h.top h.inputs h.outputs h.gates (after_line bytes) is.bare is.rest is.body); few = (spelled_few bytes c is).0 }
