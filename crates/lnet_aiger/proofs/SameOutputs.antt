-- The circuit that a text is of has the same outputs.
use Rattle.std.proofs.Common.{◌≡◌, ℕ, zero, suc, ◌+◌, ◌-◌, ◌*◌, ◌/◌, ◌%◌, ◌<◌, Bool, true, false, cond, eqb, List, [], ◌∷◌, length, map, max, min, get_or, refl, sym, ap, subst, ◌∙◌, ⊎_elim, arith, lit<}
use Rattle.std.specs.Prelude.{Contains, ◌&&◌}
use Rattle.std.specs.List.{flat_map}
use Rattle.std.proofs.lemmas.Bool.{cases_lt}
use Rattle.std.proofs.lemmas.Bool.Decides.{nat_tests}
use Rattle.std.proofs.lemmas.List.{length-map}
use Rattle.std.proofs.lemmas.List.Elements.{Contains-append_left, Contains-append_right}
use Rattle.lnet_edge.specs.declared.circuit.WireRef.{WireRef}
use Rattle.lnet_edge.specs.declared.circuit.InputPort.{InputPort}
use Rattle.lnet_edge.specs.declared.circuit.OutputPort.{OutputPort}
use Rattle.lnet_edge.specs.declared.circuit.Rule.{Rule}
use Rattle.lnet_edge.specs.declared.circuit.Rule.TheVariants.{And}
use Rattle.lnet_edge.specs.Circuits.{CircuitValue, EquationValue}
use Rattle.lnet_edge.specs.Values.{complemented, under_rule, value_of, ref_value, circuit_outputs}
use Rattle.lnet_edge.specs.Wires.{input_wires, output_wires, operand_wires, driven_wires, used_wires, IsCircuit}
use Rattle.lnet_edge.proofs.ValueLemmas.{value-equation, value-input, value-constant}
use Rattle.lnet_aiger.specs.LineRules.{ref_of, equation_of}
use Rattle.lnet_aiger.specs.Texts.{IsWritable, variable_of, literal_of, gate_of}
use Rattle.lnet_aiger.specs.Written.{written_input, written_output, written_by}
use Rattle.lnet_aiger.proofs.NumberedCircuits.{IsCircuit-numbered}
use Rattle.lnet_aiger.proofs.Variables.{driven_count, input_stands, target_stands, used_stands, used_variable, input_variable}
use Rattle.lnet_aiger.proofs.NumberedOf.{get_or-map_low, flat_map-contains, literal_half, GateOk, gate_ok, IsNumbered-written}

pub IsCircuit-written : (c : CircuitValue) → IsCircuit c → IsWritable c → IsCircuit (written_by (variable_of c) c)
IsCircuit-written c is ok = IsCircuit-numbered (written_by (variable_of c) c) (IsNumbered-written c is ok)

-- ---- literals

odd_by : (w : ℕ) (b : Bool) → eqb (cond b (2 * w + 1) (2 * w) % 2) 1 ≡ b
odd_by w true = grind (arith, nat_tests)
odd_by w false = grind (arith, nat_tests)

-- the value of a literal
abbrev literal_value : CircuitValue → (ℕ → Bool) → ℕ → Bool
literal_value c a n = ref_value c a (ref_of n)

literal_value-of : (c : CircuitValue) (a : ℕ → Bool) (variable : ℕ → ℕ) (r : WireRef) → literal_value c a (literal_of variable r) ≡ complemented r.complement (value_of c a (variable r.wire.0))
literal_value-of c a variable r =
    ap (λ (b : Bool). complemented b (value_of c a (literal_of variable r / 2))) (odd_by (variable r.wire.0) r.complement)
    ∙ ap (λ (w : ℕ). complemented r.complement (value_of c a w)) (literal_half variable r)

both_comm : (a b : Bool) → (a && (b && true)) ≡ (b && (a && true))
both_comm true true = refl
both_comm true false = refl
both_comm false true = refl
both_comm false false = refl

-- two literals in order
sorted : (f : ℕ → Bool) (m n : ℕ) → (f (max m n) && (f (min m n) && true)) ≡ (f m && (f n && true))
sorted f m n =
    ⊎_elim
    (λ lt. let hi : max m n ≡ n = omega arith in let lo : min m n ≡ m = omega arith in ap (λ (k : ℕ). f k && (f (min m n) && true)) hi ∙ ap (λ (k : ℕ). f n && (f k && true)) lo ∙ both_comm (f n) (f m))
    (λ ge. let hi : max m n ≡ m = omega arith in let lo : min m n ≡ n = omega arith in ap (λ (k : ℕ). f k && (f (min m n) && true)) hi ∙ ap (λ (k : ℕ). f m && (f k && true)) lo)
    (cases_lt m n)

-- ---- gates

-- the value of an equation's literals is that of its operands
gate_value : (d c : CircuitValue) (a : ℕ → Bool) (variable : ℕ → ℕ) (target : ℕ) (rule : Rule) (os : List WireRef) (x y : WireRef) → rule ≡ And false → os ≡ x ∷ y ∷ [] → value_of d a (variable x.wire.0) ≡ value_of c a x.wire.0 → value_of d a (variable y.wire.0) ≡ value_of c a y.wire.0
    → (let e : EquationValue = equation_of (gate_of variable (record { target = target; rule = rule; operands = os })) in under_rule e.rule (map (ref_value d a) e.operands)) ≡ under_rule rule (map (ref_value c a) os)
gate_value d c a variable target rule os x y and two first second =
    let lit : WireRef → ℕ = λ r. literal_of variable r in
    let vx : literal_value d a (lit x) ≡ ref_value c a x = literal_value-of d a variable x ∙ ap (complemented x.complement) first in
    let vy : literal_value d a (lit y) ≡ ref_value c a y = literal_value-of d a variable y ∙ ap (complemented y.complement) second in
    let pair : under_rule (And false) (map (ref_value d a) (ref_of (max (lit x) (lit y)) ∷ ref_of (min (lit x) (lit y)) ∷ [])) ≡ under_rule (And false) (map (ref_value c a) (x ∷ y ∷ [])) =
    sorted (literal_value d a) (lit x) (lit y) ∙ ap (λ (b : Bool). b && (literal_value d a (lit y) && true)) vx ∙ ap (λ (b : Bool). ref_value c a x && (b && true)) vy in
    let whole : List WireRef → Rule → Type 0 = λ rs r. (let e : EquationValue = equation_of (gate_of variable (record { target = target; rule = r; operands = rs })) in under_rule e.rule (map (ref_value d a) e.operands)) ≡ under_rule r (map (ref_value c a) rs) in
    subst (λ (rs : List WireRef). whole rs rule) (sym two) (subst (λ (r : Rule). whole (x ∷ y ∷ []) r) (sym and) pair)

-- ---- wires

any_equation : (es : List EquationValue) (k : ℕ) (d e : EquationValue) → k < length es → get_or es k d ≡ get_or es k e
any_equation [] k d e low = absurd (omega arith)
any_equation (x ∷ xs) zero d e low = refl
any_equation (x ∷ xs) (suc k) d e low = any_equation xs k d e (omega arith)

written_wire : (variable : ℕ → ℕ) (ps : List InputPort) (k : ℕ) → k < length ps → get_or (input_wires (map (written_input variable) ps)) k 0 ≡ variable (get_or (input_wires ps) k 0)
written_wire variable [] k low = absurd (omega arith)
written_wire variable (p ∷ ps) zero low = omega arith
written_wire variable (p ∷ ps) (suc k) low = written_wire variable ps k (omega arith)

operand_used : (c : CircuitValue) (k : ℕ) (d : EquationValue) (w : ℕ) → k < length c.equations → Contains (operand_wires (get_or c.equations k d)) w → Contains (used_wires c) w
operand_used c k d w low reads = Contains-append_right (output_wires c.outputs) (flat_map operand_wires c.equations) w (flat_map-contains operand_wires c.equations k d w low reads)

abbrev SameBelow : CircuitValue → (ℕ → Bool) → ℕ → Type 0
SameBelow c a n = (k : ℕ) → k < n → k < length (driven_wires c) → value_of (written_by (variable_of c) c) a k ≡ value_of c a (get_or (driven_wires c) k 0)

-- a wire that is used, of a variable below
same_used : (c : CircuitValue) → IsCircuit c → (a : ℕ → Bool) (n : ℕ) → SameBelow c a n → (w : ℕ) → Contains (used_wires c) w → variable_of c w < n → value_of (written_by (variable_of c) c) a (variable_of c w) ≡ value_of c a w
same_used c is a n below w used low =
    let h = used_stands c is w used in
    let place : variable_of c w ≡ h.0 = used_variable c is w h in
    ap (value_of (written_by (variable_of c) c) a) place ∙ below h.0 (omega arith) h.1 ∙ ap (value_of c a) h.2

same_input : (c : CircuitValue) → IsCircuit c → IsWritable c → (a : ℕ → Bool) (j : ℕ) → j < length c.inputs → value_of (written_by (variable_of c) c) a (suc j) ≡ value_of c a (get_or (driven_wires c) (suc j) 0)
same_input c is ok a j low =
    let v = variable_of c in
    let d : CircuitValue = written_by v c in
    let len : length d.inputs ≡ length c.inputs = length-map c.inputs (written_input v) in
    let wire : suc j ≡ get_or (input_wires d.inputs) j 0 = omega (arith, written_wire v c.inputs j low, input_variable c is j low) in
    ap (value_of d a) wire ∙ value-input d a j (IsCircuit-written c is ok) (omega arith) ∙ sym (value-input c a j is low) ∙ ap (value_of c a) (sym (input_stands c j low))

target_by : (variable : ℕ → ℕ) (target : ℕ) (rule : Rule) (os : List WireRef) (x y : WireRef) → os ≡ x ∷ y ∷ [] → (let e : EquationValue = equation_of (gate_of variable (record { target = target; rule = rule; operands = os })) in e.target) ≡ (2 * variable target) / 2
target_by variable target rule os x y two = ap (λ (rs : List WireRef). (let e : EquationValue = equation_of (gate_of variable (record { target = target; rule = rule; operands = rs })) in e.target)) two

same_gate : (c : CircuitValue) → IsCircuit c → IsWritable c → (a : ℕ → Bool) (m : ℕ) → m < length c.equations → SameBelow c a (suc (length c.inputs + m)) → value_of (written_by (variable_of c) c) a (suc (length c.inputs + m)) ≡ value_of c a (get_or (driven_wires c) (suc (length c.inputs + m)) 0)
same_gate c is ok a m low below =
    let v = variable_of c in
    let d : CircuitValue = written_by v c in
    let none : EquationValue = record { target = 0; rule = And false; operands = [] } in
    let e : EquationValue = get_or c.equations m none in
    let f : EquationValue → EquationValue = λ e. equation_of (gate_of v e) in
    let g : GateOk v ((length c.inputs + 1) + m) e = gate_ok c is ok m none low in
    let wires : operand_wires e ≡ g.first.wire.0 ∷ g.second.wire.0 ∷ [] = ap (λ (rs : List WireRef). map (λ (r : WireRef). r.wire.0) rs) g.operands in
    let first : value_of d a (v g.first.wire.0) ≡ value_of c a g.first.wire.0 = same_used c is a (suc (length c.inputs + m)) below g.first.wire.0 (operand_used c m none g.first.wire.0 low (subst (λ (ws : List ℕ). Contains ws g.first.wire.0) (sym wires) (0, lit< tt, refl))) (omega (arith, g.first_low)) in
    let second : value_of d a (v g.second.wire.0) ≡ value_of c a g.second.wire.0 = same_used c is a (suc (length c.inputs + m)) below g.second.wire.0 (operand_used c m none g.second.wire.0 low (subst (λ (ws : List ℕ). Contains ws g.second.wire.0) (sym wires) (1, lit< tt, refl))) (omega (arith, g.second_low)) in
    let len : length d.equations ≡ length c.equations = length-map c.equations f in
    let half : suc (length c.inputs + m) ≡ (2 * v e.target) / 2 = omega (arith, g.target) in
    let at = half ∙ sym (target_by v e.target e.rule e.operands g.first g.second g.operands) in
    let target : get_or (driven_wires c) (suc (length c.inputs + m)) 0 ≡ e.target = target_stands c m ∙ get_or-map_low (λ (h : EquationValue). h.target) c.equations m none 0 low in
    ap (value_of d a) at
    ∙ value-equation d a (f e) (IsCircuit-written c is ok) (m, omega arith, get_or-map_low f c.equations m none (f e) low)
    ∙ gate_value d c a v e.target e.rule e.operands g.first g.second g.rule g.operands first second
    ∙ sym (value-equation c a e is (m, low, any_equation c.equations m e none low))
    ∙ ap (value_of c a) (sym target)

same_below : (c : CircuitValue) → IsCircuit c → IsWritable c → (a : ℕ → Bool) (n : ℕ) → SameBelow c a n
same_below c is ok a zero k low here = absurd (omega arith)
same_below c is ok a (suc n) zero low here = value-constant (written_by (variable_of c) c) a (IsCircuit-written c is ok) ∙ sym (value-constant c a is)
same_below c is ok a (suc n) (suc j) low here =
    let count = driven_count c in
    ⊎_elim (λ lt. same_input c is ok a j lt)
    (λ ge.
    let m : ℕ = j - length c.inputs in
    let e : suc (length c.inputs + m) ≡ suc j = omega arith in
    subst (λ (k : ℕ). value_of (written_by (variable_of c) c) a k ≡ value_of c a (get_or (driven_wires c) k 0)) e
    (same_gate c is ok a m (omega arith) (λ k under stands. same_below c is ok a n k (omega arith) stands)))
    (cases_lt j (length c.inputs))

-- ---- outputs

outputs_by : (d c : CircuitValue) (a : ℕ → Bool) (variable : ℕ → ℕ) (ps : List OutputPort) → ((w : ℕ) → Contains (output_wires ps) w → value_of d a (variable w) ≡ value_of c a w) → map (λ (p : OutputPort). ref_value d a p.source) (map (written_output variable) ps) ≡ map (λ (p : OutputPort). ref_value c a p.source) ps
outputs_by d c a variable [] same = refl
outputs_by d c a variable (p ∷ ps) same =
    let first : literal_value d a (literal_of variable p.source) ≡ ref_value c a p.source = literal_value-of d a variable p.source ∙ ap (complemented p.source.complement) (same p.source.wire.0 (0, omega arith, refl)) in
    let others = outputs_by d c a variable ps (λ w h. same w (suc h.0, (let low = h.1 in omega arith), h.2)) in
    ap (λ (b : Bool). b ∷ map (λ (p : OutputPort). ref_value d a p.source) (map (written_output variable) ps)) first ∙ ap (λ (bs : List Bool). ref_value c a p.source ∷ bs) others

pub same_outputs : (c : CircuitValue) → IsCircuit c → IsWritable c → (a : ℕ → Bool) → circuit_outputs (written_by (variable_of c) c) a ≡ circuit_outputs c a
unfolding circuit_outputs
same_outputs c is ok a =
    outputs_by (written_by (variable_of c) c) c a (variable_of c) c.outputs (λ w h.
    let used = Contains-append_left (output_wires c.outputs) (flat_map operand_wires c.equations) w h in
    same_used c is a (suc (variable_of c w)) (same_below c is ok a (suc (variable_of c w))) w used (omega arith))
