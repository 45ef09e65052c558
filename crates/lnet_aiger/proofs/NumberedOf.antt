-- The circuit that a text is of is numbered from 1 without a gap, each gate after those it uses.
use Rattle.std.proofs.Common.{◌≡◌, ℕ, zero, suc, ◌+◌, ◌-◌, ◌*◌, ◌/◌, ◌<◌, ◌≤◌, Bool, true, false, cond, List, [], ◌∷◌, length, map, max, min, get_or, refl, sym, ap, subst, ◌∙◌, ⊎_elim, arith, add-zero, lit<}
use Rattle.std.specs.Prelude.{Contains, ◌&&◌}
use Rattle.std.specs.List.{flat_map, list_all}
use Rattle.std.proofs.lemmas.Bool.{eqb-true, cases_lt, false≢true}
use Rattle.std.proofs.lemmas.List.{length-map}
use Rattle.std.proofs.lemmas.List.Elements.{Contains-append_left, Contains-append_right}
use Rattle.lnet_edge.specs.declared.circuit.WireRef.{WireRef}
use Rattle.lnet_edge.specs.declared.circuit.InputPort.{InputPort}
use Rattle.lnet_edge.specs.declared.circuit.OutputPort.{OutputPort}
use Rattle.lnet_edge.specs.declared.circuit.Rule.{Rule}
use Rattle.lnet_edge.specs.declared.circuit.Rule.TheVariants.{And}
use Rattle.lnet_edge.specs.Circuits.{CircuitValue, EquationValue, AllFrom, IsGateAt}
use Rattle.lnet_edge.specs.Plain.{is_gate, is_gate_equation, IsPlain}
use Rattle.lnet_edge.specs.Drivers.{target_at}
use Rattle.lnet_edge.specs.Wires.{input_wires, output_wires, targets, operand_wires, driven_wires, used_wires, IsCircuit}
use Rattle.lnet_aiger.specs.LineRules.{ref_of, equation_of}
use Rattle.lnet_aiger.specs.Texts.{IsWritable, variable_of, literal_of, gate_of}
use Rattle.lnet_aiger.specs.Written.{written_input, written_output, written_by}
use Rattle.lnet_aiger.proofs.NumberedCircuits.{DrivesAt, ShowsUpTo, IsNumbered}
use Rattle.lnet_aiger.proofs.Variables.{driven_count, target_stands, used_stands, used_variable, target_variable, input_variable}

-- ---- lists

pub get_or-map_low : {A B : Type 0} (f : A → B) (xs : List A) (k : ℕ) (d : A) (z : B) → k < length xs → get_or (map f xs) k z ≡ f (get_or xs k d)
get_or-map_low f [] k d z low = absurd (omega arith)
get_or-map_low f (x ∷ xs) zero d z low = refl
get_or-map_low f (x ∷ xs) (suc k) d z low = get_or-map_low f xs k d z (omega arith)

list_all-at : {A : Type 0} (p : A → Bool) (xs : List A) (k : ℕ) (d : A) → list_all p xs ≡ true → k < length xs → p (get_or xs k d) ≡ true
list_all-at p [] k d all low = absurd (omega arith)
list_all-at p (x ∷ xs) k d all low = at k (p x) refl all low (list_all-at p xs) where
  at : (k : ℕ) (b : Bool) → p x ≡ b → (b && list_all p xs) ≡ true → k < length (x ∷ xs) → ((k : ℕ) (d : _) → list_all p xs ≡ true → k < length xs → p (get_or xs k d) ≡ true) → p (get_or (x ∷ xs) k d) ≡ true
  at k false b all low others = absurd (false≢true all)
  at zero true b all low others = b
  at (suc k) true b all low others = others k d all (omega arith)

two_of : {A : Type 0} (xs : List A) → length xs ≡ 2 → (a : A) × (b : A) × (xs ≡ a ∷ b ∷ [])
two_of [] e = absurd (omega arith)
two_of (a ∷ []) e = absurd (omega arith)
two_of (a ∷ b ∷ []) e = (a, b, refl)
two_of (a ∷ b ∷ c ∷ xs) e = absurd (omega arith)

pub flat_map-contains : {A : Type 0} (f : A → List ℕ) (xs : List A) (k : ℕ) (d : A) (y : ℕ) → k < length xs → Contains (f (get_or xs k d)) y → Contains (flat_map f xs) y
flat_map-contains f [] k d y low h = absurd (omega arith)
flat_map-contains f (x ∷ xs) zero d y low h = Contains-append_left (f x) (flat_map f xs) y h
flat_map-contains f (x ∷ xs) (suc k) d y low h = Contains-append_right (f x) (flat_map f xs) y (flat_map-contains f xs k d y (omega arith) h)

-- ---- literals

literal_half_by : (w : ℕ) (b : Bool) → cond b (2 * w + 1) (2 * w) / 2 ≡ w
literal_half_by w true = omega arith
literal_half_by w false = omega arith

pub literal_half : (variable : ℕ → ℕ) (r : WireRef) → literal_of variable r / 2 ≡ variable r.wire.0
literal_half variable r = literal_half_by (variable r.wire.0) r.complement

literal_low_by : (w t : ℕ) (b : Bool) → w < t → cond b (2 * w + 1) (2 * w) < 2 * t
literal_low_by w t true low = omega arith
literal_low_by w t false low = omega arith

pub literal_low : (variable : ℕ → ℕ) (r : WireRef) (t : ℕ) → variable r.wire.0 < t → literal_of variable r < 2 * t
literal_low variable r t low = literal_low_by (variable r.wire.0) t r.complement low

-- ---- gates

-- the equation has this variable and two operands of lower ones
pub record GateOk (variable : ℕ → ℕ) (t : ℕ) (e : EquationValue) : Type 0 where
  pub target : variable e.target ≡ t
  pub first : WireRef
  pub second : WireRef
  pub operands : e.operands ≡ first ∷ second ∷ []
  pub first_low : variable first.wire.0 < t
  pub second_low : variable second.wire.0 < t
  pub rule : e.rule ≡ And false

gate_by : (variable : ℕ → ℕ) (t : ℕ) (target : ℕ) (rule : Rule) (os : List WireRef) (a b : WireRef) → variable target ≡ t → os ≡ a ∷ b ∷ [] → variable a.wire.0 < t → variable b.wire.0 < t → IsGateAt t (equation_of (gate_of variable (record { target = target; rule = rule; operands = os })))
gate_by variable t target rule os a b is two low lower =
    let la = literal_low variable a t low in
    let lb = literal_low variable b t lower in
    let made : ℕ → EquationValue = λ n. record { target = n; rule = And false; operands = ref_of (max (literal_of variable a) (literal_of variable b)) ∷ ref_of (min (literal_of variable a) (literal_of variable b)) ∷ [] } in
    let half : (2 * variable target) / 2 ≡ t = omega arith in
    let at : IsGateAt t (made ((2 * variable target) / 2)) = (ref_of (max (literal_of variable a) (literal_of variable b)), ref_of (min (literal_of variable a) (literal_of variable b)), ap made half, omega arith, omega arith) in
    subst (λ (rs : List WireRef). IsGateAt t (equation_of (gate_of variable (record { target = target; rule = rule; operands = rs })))) (sym two) at

gate_numbered : (variable : ℕ → ℕ) (t : ℕ) (e : EquationValue) → GateOk variable t e → IsGateAt t (equation_of (gate_of variable e))
gate_numbered variable t e ok = gate_by variable t e.target e.rule e.operands ok.first ok.second ok.target ok.operands ok.first_low ok.second_low

gates_numbered : (variable : ℕ → ℕ) (i : ℕ) (es : List EquationValue) → ((k : ℕ) (d : EquationValue) → k < length es → GateOk variable (i + k) (get_or es k d)) → AllFrom IsGateAt i (map (λ e. equation_of (gate_of variable e)) es)
gates_numbered variable i [] each = tt
gates_numbered variable i (e ∷ es) each =
    let first : i + 0 ≡ i = add-zero i in
    (gate_numbered variable i e (subst (λ (t : ℕ). GateOk variable t e) first (each 0 e (omega arith))), gates_numbered variable (i + 1) es (λ k d low. let next : i + suc k ≡ (i + 1) + k = omega arith in subst (λ (t : ℕ). GateOk variable t (get_or es k d)) next (each (suc k) d (omega arith))))

-- ---- ports

inputs_numbered : (variable : ℕ → ℕ) (i : ℕ) (ps : List InputPort) → ((k : ℕ) → k < length ps → variable (get_or (input_wires ps) k 0) ≡ i + k) → AllFrom DrivesAt i (map (written_input variable) ps)
inputs_numbered variable i [] each = tt
inputs_numbered variable i (p ∷ ps) each =
    let first = each 0 (omega arith) in
    let half : (2 * variable p.wire.0) / 2 ≡ i = omega arith in
    (half, inputs_numbered variable (i + 1) ps (λ k low. let next : i + suc k ≡ (i + 1) + k = omega arith in each (suc k) (omega arith) ∙ next))

outputs_numbered : (variable : ℕ → ℕ) (top i : ℕ) (ps : List OutputPort) → ((k : ℕ) → k < length ps → variable (get_or (output_wires ps) k 0) ≤ top) → AllFrom (ShowsUpTo top) i (map (written_output variable) ps)
outputs_numbered variable top i [] each = tt
outputs_numbered variable top i (p ∷ ps) each =
    let first = each 0 (omega arith) in
    let half = literal_half variable p.source in
    (omega arith, outputs_numbered variable top (i + 1) ps (λ k low. each (suc k) (omega arith)))

-- ---- circuits

-- an operand of an equation has a lower variable
operand_low : (c : CircuitValue) → IsCircuit c → IsPlain c.equations → (k : ℕ) (d : EquationValue) (w : ℕ) → k < length c.equations → Contains (operand_wires (get_or c.equations k d)) w → variable_of c w < (length c.inputs + 1) + k
operand_low c is plain k d w low reads =
    let used = Contains-append_right (output_wires c.outputs) (flat_map operand_wires c.equations) w (flat_map-contains operand_wires c.equations k d w low reads) in
    let h = used_stands c is w used in
    let place = used_variable c is w h in
    let n = driven_count c in
    let here = h.1 in
    ⊎_elim (λ lt. omega arith)
    (λ ge. let m = by_place h.0 ge here in omega (arith, place, m.1, plain.ordered k m.0 low m.2 (subst (λ (os : List ℕ). Contains os (target_at c.equations m.0)) (sym (get_or-map_low operand_wires c.equations k d [] low)) (subst (λ (v : ℕ). Contains (operand_wires (get_or c.equations k d)) v) (sym h.2 ∙ m.3) reads))))
    (cases_lt h.0 (length c.inputs + 1))
  where
    by_place : (p : ℕ) → length c.inputs + 1 ≤ p → p < length (driven_wires c) → (m : ℕ) × (p ≡ (length c.inputs + 1) + m) × (m < length c.equations) × (get_or (driven_wires c) p 0 ≡ target_at c.equations m)
    by_place p ge low =
        let n = driven_count c in
        let m : ℕ = p - (length c.inputs + 1) in
        let e : p ≡ (length c.inputs + 1) + m = omega arith in
        let f : p ≡ suc (length c.inputs + m) = omega arith in
        (m, e, omega arith, ap (λ (q : ℕ). get_or (driven_wires c) q 0) f ∙ target_stands c m)

pub gate_ok : (c : CircuitValue) → IsCircuit c → IsWritable c → (k : ℕ) (d : EquationValue) → k < length c.equations → GateOk (variable_of c) ((length c.inputs + 1) + k) (get_or c.equations k d)
gate_ok c is ok k d low =
    let e : EquationValue = get_or c.equations k d in
    let rule : e.rule ≡ And false = ok.ands k d low in
    let gate : is_gate e.rule (length e.operands) ≡ true = list_all-at is_gate_equation c.equations k d ok.plain.gates low in
    let two : length e.operands ≡ 2 = eqb-true (length e.operands) 2 (sym (ap (λ (r : Rule). is_gate r (length e.operands)) rule) ∙ gate) in
    let os = two_of e.operands two in
    let wires : operand_wires e ≡ os.0.wire.0 ∷ os.1.wire.0 ∷ [] = ap (λ (rs : List WireRef). map (λ (r : WireRef). r.wire.0) rs) os.2 in
    let target : get_or (targets c.equations) k 0 ≡ e.target = get_or-map_low (λ (f : EquationValue). f.target) c.equations k d 0 low in
    record {
      target = ap (variable_of c) (sym target) ∙ target_variable c is k low;
      first = os.0;
      second = os.1;
      operands = os.2;
      first_low = operand_low c is ok.plain k d os.0.wire.0 low (subst (λ (ws : List ℕ). Contains ws os.0.wire.0) (sym wires) (0, lit< tt, refl));
      second_low = operand_low c is ok.plain k d os.1.wire.0 low (subst (λ (ws : List ℕ). Contains ws os.1.wire.0) (sym wires) (1, lit< tt, refl));
      rule = rule;
    }

any_default : (xs : List ℕ) (k d e : ℕ) → k < length xs → get_or xs k d ≡ get_or xs k e
any_default [] k d e low = absurd (omega arith)
any_default (x ∷ xs) zero d e low = refl
any_default (x ∷ xs) (suc k) d e low = any_default xs k d e (omega arith)

pub output_low : (c : CircuitValue) → IsCircuit c → (k : ℕ) → k < length c.outputs → variable_of c (get_or (output_wires c.outputs) k 0) ≤ length c.inputs + length c.equations
output_low c is k low =
    let w : ℕ = get_or (output_wires c.outputs) k 0 in
    let len : length (output_wires c.outputs) ≡ length c.outputs = length-map c.outputs (λ (p : OutputPort). p.source.wire.0) in
    let here : k < length (output_wires c.outputs) = omega arith in
    let used : Contains (used_wires c) w = Contains-append_left (output_wires c.outputs) (flat_map operand_wires c.equations) w (k, here, any_default (output_wires c.outputs) k w 0 here) in
    let h = used_stands c is w used in
    let place : variable_of c w ≡ h.0 = used_variable c is w h in
    let n = driven_count c in
    let below : h.0 < length (driven_wires c) = h.1 in
    omega arith

pub IsNumbered-written : (c : CircuitValue) → IsCircuit c → IsWritable c → IsNumbered (written_by (variable_of c) c)
IsNumbered-written c is ok =
    let v = variable_of c in
    let i = length-map c.inputs (written_input v) in
    let e = length-map c.equations (λ e. equation_of (gate_of v e)) in
    let o = length-map c.outputs (written_output v) in
    let n = driven_count c in
    record {
      inputs = inputs_numbered v 1 c.inputs (λ k low. input_variable c is k low);
      gates = subst (λ (k : ℕ). AllFrom IsGateAt (k + 1) (map (λ e. equation_of (gate_of v e)) c.equations)) (sym i) (gates_numbered v (length c.inputs + 1) c.equations (λ k d low. gate_ok c is ok k d low));
      outputs = outputs_numbered v (length (map (written_input v) c.inputs) + length (map (λ e. equation_of (gate_of v e)) c.equations)) 0 c.outputs (λ k low. omega (arith, output_low c is k low, i, e));
      few = omega (arith, ok.few);
      few_outputs = omega (arith, is.few_outputs);
    }
