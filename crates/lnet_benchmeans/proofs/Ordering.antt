-- The circuit of ordered statements has no cycles, and drives what it uses.
use Rattle.std.proofs.Common.{◌≡◌, ◌≢◌, ℕ, Bool, true, false, cond, List, [], ◌∷◌, map, Option, Some, None, codes, refl, sym, ap, subst, ◌∙◌, inl, inr}
use Rattle.std.specs.Prelude.{◌⊎◌, ◌||◌, not, Contains, flat_map}
use Rattle.std.specs.List.{AllByRecursion, IsDistinct}
use Rattle.std.specs.Str.{bytes_eq}
use Rattle.std.proofs.lemmas.Bool.{false≢true}
use Rattle.std.proofs.lemmas.List.Elements.{All-from_recursion, recursion_from_All, All-contains, All-contains_itself}
use Rattle.std.proofs.lemmas.Slice.Eq.{bytes_eq-Decides}
use Rattle.lnet_edge.specs.declared.circuit.WireRef.{WireRef}
use Rattle.lnet_edge.specs.Wires.{input_wires, output_wires, targets, operand_wires, driven_wires, used_wires, IsUndriven, IsTwice, IsCyclic}
use Rattle.lnet_wires.specs.Naming.{is_seen, wire_of}
use Rattle.lnet_bench.specs.Statements.{StatementValue, Input, Output, Gate, Constant}
use Rattle.lnet_bench.specs.Wiring.{constant_by, refer_by}
use Rattle.lnet_bench.specs.Numbering.{use_of, inputs_by, outputs_by, equations_by}
use Rattle.lnet_bench.specs.Texts.{drives, driven_by, names_of, circuit_of}
use Rattle.lnet_benchwriter.specs.Nodes.{constant_name}
use Rattle.lnet_benchmeans.specs.Driving.{driven_names, IsUsable, IsOrderedBehind, shown_names, IsOrdered}
use Rattle.lnet_benchmeans.proofs.Differing.{Differ, all_weak, all_both, all_first, all_second, differ_second, differ_apart}
use Rattle.lnet_benchmeans.proofs.Wires.{wires_once, once_differ}
use Rattle.lnet_benchmeans.proofs.Falling.{IsAhead, all_used, never_back}

-- ---- names

match_apart : (x y : List ℕ) → bytes_eq x y ≡ false → x ≢ y
match_apart x y unlike e = false≢true (sym unlike ∙ (bytes_eq-Decides x y).1 e)

pub distinct_differ : (xs : List (List ℕ)) → IsDistinct bytes_eq xs → Differ xs
unfolding IsDistinct
distinct_differ [] d = tt
distinct_differ (x ∷ xs) d = (all_weak (λ y. bytes_eq x y ≡ false) (λ y. x ≢ y) xs (match_apart x) d.0, distinct_differ xs d.1)

-- what holds of the wires of these names
abbrev pub HoldsOf : (ℕ → Type 0) → List (List ℕ) → List (List ℕ) → Type 0
HoldsOf P names known = (x : List ℕ) → is_seen known x ≡ true → P (wire_of names x)

holds_more : (P : ℕ → Type 0) (names known : List (List ℕ)) (name : List ℕ) → P (wire_of names name) → HoldsOf P names known → HoldsOf P names (name ∷ known)
holds_more P names known name one each x seen =
    elim (bytes_eq x name) as (λ b. bytes_eq x name ≡ b → (b || is_seen known x) ≡ true → P (wire_of names x)) [
      | true ↦ λ same h. subst (λ (y : List ℕ). P (wire_of names y)) (sym ((bytes_eq-Decides x name).0 same)) one
      | false ↦ λ unlike h. each x h
    ] refl seen

pub holds_all : (P : ℕ → Type 0) (names known : List (List ℕ)) → AllByRecursion P (map (wire_of names) known) → HoldsOf P names known
holds_all P names [] all x seen = absurd (false≢true seen)
holds_all P names (name ∷ known) all x seen = holds_more P names known name all.0 (holds_all P names known all.1) x seen

-- ---- uses

constant_wire : (given : List StatementValue) (names : List (List ℕ)) → drives given (codes "gnd") ≡ false → drives given (codes "vdd") ≡ false → (value : Bool) → (use_of (driven_by given) names (constant_name value)).wire.0 ≡ 0
constant_wire given names gnd vdd true = ap (λ (b : Bool). (refer_by (cond (not b) (Some true) None) names (codes "vdd")).0.wire.0) vdd
constant_wire given names gnd vdd false = ap (λ (b : Bool). (refer_by (cond (not b) (Some false) None) names (codes "gnd")).0.wire.0) gnd

use_holds : (P : ℕ → Type 0) (given : List StatementValue) (names known : List (List ℕ)) → drives given (codes "gnd") ≡ false → drives given (codes "vdd") ≡ false → HoldsOf P names known → (x : List ℕ) → IsUsable known x → ((use_of (driven_by given) names x).wire.0 ≡ 0) ⊎ P ((use_of (driven_by given) names x).wire.0)
use_holds P given names known gnd vdd each x (inl c) = inl (ap (λ (y : List ℕ). (use_of (driven_by given) names y).wire.0) c.1 ∙ constant_wire given names gnd vdd c.0)
use_holds P given names known gnd vdd each x (inr seen) = by (constant_by (driven_by given) x) where
  by : (o : Option Bool) → ((refer_by o names x).0.wire.0 ≡ 0) ⊎ P ((refer_by o names x).0.wire.0)
  by (Some value) = inl refl
  by None = inr (each x seen)

operands_hold : (P : ℕ → Type 0) (given : List StatementValue) (names known : List (List ℕ)) → drives given (codes "gnd") ≡ false → drives given (codes "vdd") ≡ false → HoldsOf P names known → (xs : List (List ℕ)) → AllByRecursion (IsUsable known) xs → AllByRecursion (λ v. (v ≡ 0) ⊎ P v) (map (λ (r : WireRef). r.wire.0) (map (use_of (driven_by given) names) xs))
operands_hold P given names known gnd vdd each [] all = tt
operands_hold P given names known gnd vdd each (x ∷ xs) all = (use_holds P given names known gnd vdd each x all.0, operands_hold P given names known gnd vdd each xs all.1)

-- ---- order

-- one more wire may be used
wider : (K : ℕ → Type 0) (t : ℕ) (vs : List ℕ) → AllByRecursion K vs → AllByRecursion (λ v. (v ≡ t) ⊎ K v) vs
wider K t vs all = all_weak K (λ v. (v ≡ t) ⊎ K v) vs (λ v k. inr k) all

pub behind : (K : ℕ → Type 0) (names known : List (List ℕ)) (target : List ℕ) → HoldsOf K names known → HoldsOf (λ v. (v ≡ wire_of names target) ⊎ K v) names (target ∷ known)
behind K names known target each = holds_more (λ v. (v ≡ wire_of names target) ⊎ K v) names known target (inl refl) (λ x seen. inr (each x seen))

wires_ahead : (given : List StatementValue) (names : List (List ℕ)) → drives given (codes "gnd") ≡ false → drives given (codes "vdd") ≡ false → (ss : List StatementValue) (known : List (List ℕ)) (K : ℕ → Type 0) → AllByRecursion K (input_wires (inputs_by names ss)) → HoldsOf K names known → IsOrderedBehind known ss → IsAhead K (equations_by (driven_by given) names ss)
wires_ahead given names gnd vdd [] known K all each ordered = tt
wires_ahead given names gnd vdd (Input name ∷ ss) known K all each ordered = wires_ahead given names gnd vdd ss (name ∷ known) K all.1 (holds_more K names known name all.0 each) ordered
wires_ahead given names gnd vdd (Output name ∷ ss) known K all each ordered = wires_ahead given names gnd vdd ss known K all each ordered
wires_ahead given names gnd vdd (Gate target rule operands ∷ ss) known K all each ordered = (
  operands_hold K given names known gnd vdd each operands ordered.0,
  wires_ahead given names gnd vdd ss (target ∷ known) (λ v. (v ≡ wire_of names target) ⊎ K v) (wider K (wire_of names target) (input_wires (inputs_by names ss)) all) (behind K names known target each) ordered.1,
)
wires_ahead given names gnd vdd (Constant target value ∷ ss) known K all each ordered = (
  tt,
  wires_ahead given names gnd vdd ss (target ∷ known) (λ v. (v ≡ wire_of names target) ⊎ K v) (wider K (wire_of names target) (input_wires (inputs_by names ss)) all) (behind K names known target each) ordered,
)

none_known : (K : ℕ → Type 0) (names : List (List ℕ)) → HoldsOf K names []
none_known K names x seen = absurd (false≢true seen)

ordered_wires : (ss : List StatementValue) → IsOrdered ss → Differ (driven_wires (circuit_of ss))
ordered_wires ss ordered = wires_once ss (distinct_differ (driven_names ss) ordered.once)

pub ordered_once : (ss : List StatementValue) → IsOrdered ss → ¬ (IsTwice (circuit_of ss))
ordered_once ss ordered = once_differ (driven_wires (circuit_of ss)) (ordered_wires ss ordered)

pub ordered_acyclic : (ss : List StatementValue) → IsOrdered ss → ¬ (IsCyclic (circuit_of ss))
ordered_acyclic ss ordered (w, back) =
    let names = names_of ss in
    let ins = input_wires (inputs_by names ss) in
    let es = equations_by (driven_by ss) names ss in
    let wires = ordered_wires ss ordered in
    let K : ℕ → Type 0 = λ v. AllByRecursion (λ t. v ≢ t) (targets es) in
    never_back K es (differ_second ins (targets es) wires.1) (all_second (λ t. 0 ≢ t) ins (targets es) wires.0) (λ v k. k)
    (wires_ahead ss names ordered.gnd ordered.vdd ss [] K (differ_apart ins (targets es) wires.1) (none_known K names) ordered.gates) w back

-- ---- what is used is driven

all_wires : (P : ℕ → Type 0) (given : List StatementValue) (names : List (List ℕ)) (ss : List StatementValue) → AllByRecursion P (input_wires (inputs_by names ss)) → AllByRecursion P (targets (equations_by (driven_by given) names ss)) → AllByRecursion P (map (wire_of names) (driven_names ss))
all_wires P given names [] ins ts = tt
all_wires P given names (Input name ∷ ss) ins ts = (ins.0, all_wires P given names ss ins.1 ts)
all_wires P given names (Output name ∷ ss) ins ts = all_wires P given names ss ins ts
all_wires P given names (Gate target rule operands ∷ ss) ins ts = (ts.0, all_wires P given names ss ins ts.1)
all_wires P given names (Constant target value ∷ ss) ins ts = (ts.0, all_wires P given names ss ins ts.1)

zero_or : (P : ℕ → Type 0) → P 0 → (v : ℕ) → ((v ≡ 0) ⊎ P v) → P v
zero_or P none v (inl is) = subst P (sym is) none
zero_or P none v (inr p) = p

outputs_hold : (P : ℕ → Type 0) (given : List StatementValue) (names known : List (List ℕ)) → drives given (codes "gnd") ≡ false → drives given (codes "vdd") ≡ false → P 0 → HoldsOf P names known → (ss : List StatementValue) → AllByRecursion (IsUsable known) (shown_names ss) → AllByRecursion P (output_wires (outputs_by (driven_by given) names ss))
outputs_hold P given names known gnd vdd none each [] all = tt
outputs_hold P given names known gnd vdd none each (Input name ∷ ss) all = outputs_hold P given names known gnd vdd none each ss all
outputs_hold P given names known gnd vdd none each (Output name ∷ ss) all =
    (zero_or P none ((use_of (driven_by given) names name).wire.0) (use_holds P given names known gnd vdd each name all.0), outputs_hold P given names known gnd vdd none each ss all.1)
outputs_hold P given names known gnd vdd none each (Gate target rule operands ∷ ss) all = outputs_hold P given names known gnd vdd none each ss all
outputs_hold P given names known gnd vdd none each (Constant target value ∷ ss) all = outputs_hold P given names known gnd vdd none each ss all

pub ordered_driven : (ss : List StatementValue) → IsOrdered ss → ¬ (IsUndriven (circuit_of ss))
ordered_driven ss ordered (w, used, undriven) =
    let names = names_of ss in
    let d = circuit_of ss in
    let ins = input_wires d.inputs in
    let ts = targets d.equations in
    let P : ℕ → Type 0 = Contains (driven_wires d) in
    let own = recursion_from_All P (driven_wires d) (All-contains_itself (driven_wires d)) in
    let ins_hold = all_first P ins ts own.1 in
    let ts_hold = all_second P ins ts own.1 in
    let known = holds_all P names (driven_names ss) (all_wires P ss names ss ins_hold ts_hold) in
    let ahead = wires_ahead ss names ordered.gnd ordered.vdd ss [] P ins_hold (none_known P names) ordered.gates in
    let all = all_both P (output_wires d.outputs) (flat_map operand_wires d.equations) (outputs_hold P ss names (driven_names ss) ordered.gnd ordered.vdd own.0 known ss ordered.outputs) (all_used P P d.equations own.0 (λ v p. p) ts_hold ahead) in
    undriven (All-contains P (used_wires d) w (All-from_recursion P (used_wires d) all) used)
