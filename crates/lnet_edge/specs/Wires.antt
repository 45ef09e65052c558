-- Which wires a circuit drives, uses and makes depend on one another, and the rules that its wires keep. Source: walks and
-- cycles as in graph theory; the rules as in the Berkeley Logic Interchange Format.
use Rattle.std.specs.Prelude.{◌≡◌, ℕ, ◌+◌, ◌<◌, ◌≤◌, List, [], ◌∷◌, ◌++◌, length, map, slice_index, Contains, All}
use Rattle.std.specs.List.{flat_map}
use Rattle.lnet_edge.specs.declared.fault.Fault.{Fault}
use Rattle.lnet_edge.specs.declared.fault.Fault.TheVariants as fault
use Rattle.lnet_edge.specs.declared.circuit.CircuitError.{CircuitError}
use Rattle.lnet_edge.specs.declared.circuit.CircuitError.TheVariants as error
use Rattle.lnet_edge.specs.declared.circuit.Rule.{Rule}
use Rattle.lnet_edge.specs.declared.circuit.Rule.TheVariants.{And, Or, Xor, Maj, Lut, Cover}
use Rattle.lnet_edge.specs.declared.circuit.WireRef.{WireRef}
use Rattle.lnet_edge.specs.declared.circuit.InputPort.{InputPort}
use Rattle.lnet_edge.specs.declared.circuit.OutputPort.{OutputPort}
use Rattle.lnet_edge.specs.Circuits.{CircuitValue, EquationValue, output_limit}

-- ---- what drives a wire, and what uses one

abbrev pub input_wires : List InputPort → List ℕ
input_wires ps = map (λ (p : InputPort). p.wire.0) ps

abbrev pub output_wires : List OutputPort → List ℕ
output_wires ps = map (λ (p : OutputPort). p.source.wire.0) ps

abbrev pub targets : List EquationValue → List ℕ
targets es = map (λ (e : EquationValue). e.target) es

abbrev pub operand_wires : EquationValue → List ℕ
operand_wires e = map (λ (r : WireRef). r.wire.0) e.operands

-- each wire as often as it is driven: the constant drives wire 0, and each input and equation its own
abbrev pub driven_wires : CircuitValue → List ℕ
driven_wires c = 0 ∷ (input_wires c.inputs ++ targets c.equations)

-- each wire as often as it is used: by outputs, and as an operand
abbrev pub used_wires : CircuitValue → List ℕ
used_wires c = output_wires c.outputs ++ flat_map operand_wires c.equations

-- some wire is used, and nothing drives it
abbrev pub IsUndriven : CircuitValue → Type 0
IsUndriven c = (w : ℕ) × Contains (used_wires c) w × ¬ (Contains (driven_wires c) w)

-- two places of the list have one number
abbrev pub Repeats : List ℕ → Type 0
Repeats xs = (i : ℕ) × (j : ℕ) × (i < j) × (j < length xs) × (slice_index xs i ≡ slice_index xs j)

-- some wire is driven twice
abbrev pub IsTwice : CircuitValue → Type 0
IsTwice c = Repeats (driven_wires c)

-- ---- what a wire depends on

-- an equation drives wire w, and wire v is an operand of it
abbrev pub Reads : List EquationValue → ℕ → ℕ → Type 0
Reads es w v = (e : EquationValue) × Contains es e × (e.target ≡ w) × Contains (operand_wires e) v

-- w and then vs: each wire after the first is an operand of an equation of the one before
abbrev pub IsWalk : List EquationValue → ℕ → List ℕ → Type 0
IsWalk es w [] = Unit {0}
IsWalk es w (v ∷ vs) = Reads es w v × IsWalk es v vs

-- the last wire of w and then vs
abbrev pub end_of : ℕ → List ℕ → ℕ
end_of w [] = w
end_of w (v ∷ vs) = end_of v vs

-- a walk of one or more steps from wire w comes back to it
abbrev pub ComesBack : List EquationValue → ℕ → Type 0
ComesBack es w = (v : ℕ) × (vs : List ℕ) × IsWalk es w (v ∷ vs) × (end_of v vs ≡ w)

-- wires depend on themselves
abbrev pub IsCyclic : CircuitValue → Type 0
IsCyclic c = (w : ℕ) × ComesBack c.equations w

-- ---- circuits

-- the rule takes so many operands
abbrev pub HasArity : Rule → ℕ → Type 0
HasArity (And complement) n = 1 ≤ n
HasArity (Or complement) n = 1 ≤ n
HasArity (Xor complement) n = 1 ≤ n
HasArity (Maj complement) n = n ≡ 3
HasArity (Lut table) n = n ≤ 6
HasArity (Cover cover) n = All (λ (row : List ℕ). length row ≡ n) cover.rows

-- each equation has as many operands as its rule takes
abbrev pub HasArities : List EquationValue → Type 0
HasArities es = All (λ (e : EquationValue). HasArity e.rule (length e.operands)) es

-- each wire that is used is driven, each is driven once, none depends on itself, and the limits are kept
pub record IsCircuit (c : CircuitValue) : Type 0 where
  pub driven : ¬ (IsUndriven c)
  pub once : ¬ (IsTwice c)
  pub acyclic : ¬ (IsCyclic c)
  pub arities : HasArities c.equations
  pub few : length c.inputs + length c.equations < 4294967296
  pub few_outputs : length c.outputs ≤ output_limit

-- the first rule that is broken, in this order: each wire that is used is driven, each is driven once, none depends on itself
abbrev pub IsBroken : CircuitValue → Fault → Type 0
IsBroken c fault.Undriven = IsUndriven c
IsBroken c fault.Twice = (¬ (IsUndriven c)) × IsTwice c
IsBroken c fault.Cycle = (¬ (IsUndriven c)) × (¬ (IsTwice c)) × IsCyclic c
IsBroken c _ = ⊥

-- lists are refused for the first rule that they break, and at any time for want of memory
abbrev pub IsRefused : CircuitValue → CircuitError → Type 0
IsRefused c (error.Fault f) = IsBroken c f
IsRefused c error.NoMemory = Unit {0}
