-- The lists that are made of a network are its circuit, and what holds of the circuit.
use Rattle.std.proofs.Common.{◌≡◌, ℕ, suc, ◌+◌, ◌<◌, ◌≤◌, Bool, true, false, List, [], ◌∷◌, length, map, zip, flat_map, filter_map, All, refl, sym, ap, subst, ◌∙◌, arith}
use Rattle.std.specs.List.{AllByRecursion}
use Rattle.std.proofs.lemmas.List.Elements.{All-from_recursion}
use Rattle.lnet_gates.specs.declared.gate.Kind.{Kind}
use Rattle.lnet_gates.specs.declared.gate.Kind.TheVariants.{Aig}
use Rattle.lnet_gates.specs.declared.gate.Op.{Op}
use Rattle.lnet_gates.specs.declared.gate.Op.TheVariants.{And, Xor, Maj, Lut}
use Rattle.lnet_gates.specs.Gates.{GateValue}
use Rattle.lnet_gates.specs.Plans.{is_native}
use Rattle.lnet_model.specs.Networks.{NetworkValue, live_count}
use Rattle.lnet_model.specs.Changes.{GateAt}
use Rattle.lnet_model.specs.Dags.{IsStored, NUMBERS}
use Rattle.lnet_edge.specs.declared.fault.Fault.{Fault}
use Rattle.lnet_edge.specs.declared.fault.Fault.TheVariants as fault
use Rattle.lnet_edge.specs.declared.circuit.Rule.TheVariants as rule
use Rattle.lnet_edge.specs.declared.circuit.Equation.{Equation}
use Rattle.lnet_edge.specs.declared.circuit.InputPort.{InputPort}
use Rattle.lnet_edge.specs.declared.circuit.OutputPort.{OutputPort}
use Rattle.lnet_edge.specs.Circuits.{CircuitValue, EquationValue}
use Rattle.lnet_edge.specs.CircuitLists.{equation_views, listed_circuit}
use Rattle.lnet_edge.specs.Wires.{IsBroken, IsCircuit, HasArities}
use Rattle.lnet_edge.proofs.WireLemmas.{length-views}
use Rattle.lnet_names.specs.NameLists.{NamesValue}
use Rattle.lnet_export.specs.Exported.{input_port, output_port, equation_at, rule_for, gates_in_order, equations_in, exported}
use Rattle.lnet_export.proofs.GateEquations.{IsEquationOf, equations-each}
use Rattle.lnet_export.proofs.Circuits.{AreNamesOf, exported-few}
use Rattle.lnet_export.proofs.PortLemmas.{inputs-count, outputs-count}

-- ---- the lists

-- the inputs, outputs and equations that are made of a network
pub record AreLists (N : NetworkValue) (names : NamesValue) (ins : List InputPort) (outs : List OutputPort) (es : List Equation) : Type 0 where
  pub inputs : ins ≡ map input_port (zip N.inputs names.inputs)
  pub outputs : outs ≡ map (output_port N) (zip N.outputs names.outputs)
  pub equations : equation_views es ≡ equations_in N

pub equations-made : (N : NetworkValue) (es : List EquationValue) (rows all : List (List ℕ)) → es ≡ filter_map (equation_at N) (flat_map (λ r. r) rows) → rows ≡ all → flat_map (λ r. r) all ≡ gates_in_order N → es ≡ equations_in N
unfolding equations_in
equations-made N es rows all is same order = is ∙ ap (λ (rs : List (List ℕ)). filter_map (equation_at N) (flat_map (λ r. r) rs)) same ∙ ap (filter_map (equation_at N)) order

pub lists-exported : (N : NetworkValue) (names : NamesValue) (ins : List InputPort) (outs : List OutputPort) (es : List Equation) → AreLists N names ins outs es → listed_circuit ins outs es ≡ exported N names
lists-exported N names ins outs es made = λ i. record { inputs = made.inputs i; outputs = made.outputs i; equations = made.equations i }

pub lists-few : (N : NetworkValue) (names : NamesValue) (ins : List InputPort) (outs : List OutputPort) (es : List Equation) → IsStored N → live_count N ≤ NUMBERS → AreNamesOf N names → AreLists N names ins outs es → length ins + length es < NUMBERS
lists-few N names ins outs es stored limit named made =
    let few = exported-few N names stored named in
    let inputs : length ins ≡ length (map input_port (zip N.inputs names.inputs)) = ap length made.inputs in
    let equations : length es ≡ length (equations_in N) = sym (length-views es) ∙ ap length made.equations in
    omega arith

pub lists-few_outputs : (N : NetworkValue) (names : NamesValue) (ins : List InputPort) (outs : List OutputPort) (es : List Equation) → IsStored N → AreNamesOf N names → AreLists N names ins outs es → length outs ≤ 100000000
lists-few_outputs N names ins outs es stored named made =
    let few = stored.few_outputs in
    let count : length outs ≡ length N.outputs = ap length made.outputs ∙ outputs-count N N.outputs names.outputs named.outputs in
    omega arith

-- ---- no rule is broken

pub not-broken : (c : CircuitValue) (f : Fault) → IsCircuit c → IsBroken c f → ⊥
not-broken c fault.Undriven is broken = is.driven broken
not-broken c fault.Twice is broken = is.once broken.1
not-broken c fault.Cycle is broken = is.acyclic broken.2
not-broken c _ is broken = broken

-- ---- and-inverter graphs

aig-op : (kind : Kind) (op : Op) → kind ≡ Aig → is_native kind op ≡ true → op ≡ And
aig-op kind And aig native = refl
aig-op kind Xor aig native = absurd (let z : false ≡ true = sym (ap (λ k. is_native k Xor) aig) ∙ native in cc)
aig-op kind Maj aig native = absurd (let z : false ≡ true = sym (ap (λ k. is_native k Maj) aig) ∙ native in cc)
aig-op kind (Lut t) aig native = absurd (let z : false ≡ true = sym (ap (λ k. is_native k (Lut t)) aig) ∙ native in cc)

and-rule : (N : NetworkValue) → ((n : ℕ) (g : GateValue) → GateAt N n g → g.op ≡ And) → ((n : ℕ) (g : GateValue) → GateAt N n g → g.op ≡ And → g.phase ≡ false) → (e : EquationValue) → IsEquationOf N e → e.rule ≡ rule.And false
and-rule N ops phases e p =
    let op = ops e.target p.gate p.at in
    let phase = phases e.target p.gate p.at op in
    ap (λ (f : EquationValue). f.rule) p.same ∙ ap (λ o. rule_for o p.gate.phase (length p.gate.fanins)) op ∙ ap rule.And phase

-- each gate of an and-inverter graph is an And without phase
pub exported-ands : (N : NetworkValue) (kind : Kind) → kind ≡ Aig → ((n : ℕ) (g : GateValue) → GateAt N n g → is_native kind g.op ≡ true) → ((n : ℕ) (g : GateValue) → GateAt N n g → g.op ≡ And → g.phase ≡ false) → All (λ (e : EquationValue). e.rule ≡ rule.And false) (equations_in N)
exported-ands N kind aig native phases =
    All-from_recursion (λ (e : EquationValue). e.rule ≡ rule.And false) (equations_in N)
    (by (equations_in N) (equations-each N))
  where
    by : (es : List EquationValue) → AllByRecursion (IsEquationOf N) es → AllByRecursion (λ (e : EquationValue). e.rule ≡ rule.And false) es
    by [] all = tt
    by (e ∷ es) all = (and-rule N (λ n g is. aig-op kind g.op aig (native n g is)) phases e all.0, by es all.1)
