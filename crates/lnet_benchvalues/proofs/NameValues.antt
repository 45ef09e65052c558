-- What ordered statements say of the values of the names in their circuit.
use Rattle.std.proofs.Common.{◌≡◌, ℕ, Bool, true, false, cond, List, [], ◌∷◌, map, Some, None, codes, refl, sym, ap, ◌∙◌}
use Rattle.std.specs.Prelude.{◌&&◌, ◌||◌, not, Contains}
use Rattle.std.specs.List.{AllByRecursion}
use Rattle.std.specs.Str.{bytes_eq}
use Rattle.std.proofs.lemmas.Bool.{false≢true}
use Rattle.std.proofs.lemmas.List.Elements.{recursion_from_All, All-contains_itself}
use Rattle.std.proofs.lemmas.Simd.{map-map}
use Rattle.lnet_edge.specs.declared.circuit.Rule.TheVariants.{Lut}
use Rattle.lnet_edge.specs.declared.circuit.WireRef.{WireRef}
use Rattle.lnet_edge.specs.Circuits.{CircuitValue, EquationValue}
use Rattle.lnet_edge.specs.Wires.{IsCircuit}
use Rattle.lnet_edge.specs.Values.{complemented, under_rule, value_of, ref_value}
use Rattle.lnet_edge.proofs.ValueLemmas.{value-equation, value-constant}
use Rattle.lnet_wires.specs.Naming.{wire_of}
use Rattle.lnet_bench.specs.Statements.{StatementValue, Input, Output, Gate, Constant}
use Rattle.lnet_bench.specs.Wiring.{refer_by}
use Rattle.lnet_bench.specs.Numbering.{use_of, equations_by}
use Rattle.lnet_bench.specs.Texts.{drives, driven_by, names_of, circuit_of}
use Rattle.lnet_benchwriter.specs.Nodes.{constant_name}
use Rattle.lnet_benchmeans.specs.Driving.{driven_names, IsOrdered}
use Rattle.lnet_benchmeans.proofs.Differing.{all_weak, all_with}
use Rattle.lnet_benchvalues.specs.Named.{name_value, Holds}

-- ---- uses of names

none_both : (a b : Bool) → (a || b) ≡ false → (a ≡ false) × (b ≡ false)
none_both true b none = absurd (false≢true (sym none))
none_both false b none = (refl, none)

-- names that are driven differ from one that isn't
undriven_apart : (name : List ℕ) (ss : List StatementValue) → drives ss name ≡ false → AllByRecursion (λ x. bytes_eq name x ≡ false) (driven_names ss)
undriven_apart name [] none = tt
undriven_apart name (Input x ∷ ss) none = let h = none_both (bytes_eq name x) (drives ss name) none in (h.0, undriven_apart name ss h.1)
undriven_apart name (Output x ∷ ss) none = undriven_apart name ss none
undriven_apart name (Gate x rule operands ∷ ss) none = let h = none_both (bytes_eq name x) (drives ss name) none in (h.0, undriven_apart name ss h.1)
undriven_apart name (Constant x value ∷ ss) none = let h = none_both (bytes_eq name x) (drives ss name) none in (h.0, undriven_apart name ss h.1)

abbrev pub wired : ℕ → WireRef
wired w = record { wire = record { 0 = w }; complement = false }

-- the use of the name is that of its wire
abbrev pub IsWired : List StatementValue → List ℕ → Type 0
IsWired ss x = use_of (driven_by ss) (names_of ss) x ≡ wired (wire_of (names_of ss) x)

own_use : (given : List StatementValue) (names : List (List ℕ)) (x : List ℕ) → bytes_eq (codes "gnd") x ≡ false → bytes_eq (codes "vdd") x ≡ false → use_of (driven_by given) names x ≡ wired (wire_of names x)
own_use given names x gnd vdd =
    ap (λ (b : Bool). (refer_by (cond (b && not (drives given (codes "gnd"))) (Some false) (cond (bytes_eq (codes "vdd") x && not (drives given (codes "vdd"))) (Some true) None)) names x).0) gnd
    ∙ ap (λ (b : Bool). (refer_by (cond (b && not (drives given (codes "vdd"))) (Some true) None) names x).0) vdd

pub all_wired : (ss : List StatementValue) → IsOrdered ss → AllByRecursion (IsWired ss) (driven_names ss)
all_wired ss ordered =
    let gnd = undriven_apart (codes "gnd") ss ordered.gnd in
    let vdd = undriven_apart (codes "vdd") ss ordered.vdd in
    all_weak (λ x. (bytes_eq (codes "gnd") x ≡ false) × (bytes_eq (codes "vdd") x ≡ false)) (IsWired ss) (driven_names ss) (λ x h. own_use ss (names_of ss) x h.0 h.1)
    (all_with (λ x. bytes_eq (codes "gnd") x ≡ false) (λ x. bytes_eq (codes "vdd") x ≡ false) (driven_names ss) gnd vdd)

-- ---- constants

constant_use : (given : List StatementValue) (names : List (List ℕ)) → drives given (codes "gnd") ≡ false → drives given (codes "vdd") ≡ false → (value : Bool) → use_of (driven_by given) names (constant_name value) ≡ record { wire = record { 0 = 0 }; complement = value }
constant_use given names gnd vdd true = ap (λ (b : Bool). (refer_by (cond (not b) (Some true) None) names (codes "vdd")).0) vdd
constant_use given names gnd vdd false = ap (λ (b : Bool). (refer_by (cond (not b) (Some false) None) names (codes "gnd")).0) gnd

pub of_false : (b : Bool) → complemented b false ≡ b
of_false true = refl
of_false false = refl

-- the names of constants have their values
pub constants_hold : (ss : List StatementValue) (a : ℕ → Bool) → IsOrdered ss → IsCircuit (circuit_of ss) → (value : Bool) → name_value ss a (constant_name value) ≡ value
constants_hold ss a ordered is value =
    ap (ref_value (circuit_of ss) a) (constant_use ss (names_of ss) ordered.gnd ordered.vdd value)
    ∙ ap (complemented value) (value-constant (circuit_of ss) a is)
    ∙ of_false value

-- ---- gates

constant_rule_value : (value : Bool) → under_rule (Lut (cond value 1 0)) [] ≡ value
constant_rule_value true = refl
constant_rule_value false = refl

-- an equation's target has the value of its rule
abbrev pub HasValue : CircuitValue → (ℕ → Bool) → EquationValue → Type 0
HasValue d a e = value_of d a e.target ≡ under_rule e.rule (map (ref_value d a) e.operands)

holds_by : (given : List StatementValue) (names : List (List ℕ)) (d : CircuitValue) (a : ℕ → Bool) (ts : List StatementValue) → AllByRecursion (HasValue d a) (equations_by (driven_by given) names ts) → AllByRecursion (λ x. use_of (driven_by given) names x ≡ wired (wire_of names x)) (driven_names ts) → AllByRecursion (Holds (λ x. ref_value d a (use_of (driven_by given) names x))) ts
holds_by given names d a [] values uses = tt
holds_by given names d a (Input name ∷ ts) values uses = (tt, holds_by given names d a ts values uses.1)
holds_by given names d a (Output name ∷ ts) values uses = (tt, holds_by given names d a ts values uses)
holds_by given names d a (Gate target rule operands ∷ ts) values uses = (
  ap (ref_value d a) uses.0 ∙ values.0 ∙ ap (under_rule rule) (map-map (ref_value d a) (use_of (driven_by given) names) operands),
  holds_by given names d a ts values.1 uses.1,
)
holds_by given names d a (Constant target value ∷ ts) values uses = (ap (ref_value d a) uses.0 ∙ values.0 ∙ constant_rule_value value, holds_by given names d a ts values.1 uses.1)

pub equations_hold : (d : CircuitValue) (a : ℕ → Bool) → IsCircuit d → AllByRecursion (HasValue d a) d.equations
equations_hold d a is = all_weak (Contains d.equations) (HasValue d a) d.equations (λ e stands. value-equation d a e is stands) (recursion_from_All (Contains d.equations) d.equations (All-contains_itself d.equations))

-- each statement gives its target the value that the circuit does
pub statements_hold : (ss : List StatementValue) (a : ℕ → Bool) → IsOrdered ss → IsCircuit (circuit_of ss) → AllByRecursion (Holds (name_value ss a)) ss
statements_hold ss a ordered is = holds_by ss (names_of ss) (circuit_of ss) a ss (equations_hold (circuit_of ss) a is) (all_wired ss ordered)
