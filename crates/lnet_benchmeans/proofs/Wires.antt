-- No wire of the circuit of statements is driven twice.
use Rattle.std.proofs.Common.{◌≡◌, ◌≢◌, ℕ, zero, suc, ◌<◌, Bool, true, List, [], ◌∷◌, length, map, get_or, Option, Some, None, sym, arith}
use Rattle.std.specs.List.{AllByRecursion}
use Rattle.lnet_edge.specs.Circuits.{CircuitValue}
use Rattle.lnet_edge.specs.Wires.{input_wires, targets, driven_wires, Repeats, IsTwice, IsCircuit}
use Rattle.lnet_wires.specs.Naming.{is_seen, with_name, wire_of}
use Rattle.lnet_wires.proofs.WireLaws.{apart, sees}
use Rattle.lnet_bench.specs.Statements.{StatementValue, Input, Output, Gate, Constant}
use Rattle.lnet_bench.specs.Wiring.{constant_by, refer_by, refer, refer_all}
use Rattle.lnet_bench.specs.Numbering.{see, see_all, inputs_by, equations_by}
use Rattle.lnet_bench.specs.Texts.{driven_by, names_of, circuit_of}
use Rattle.lnet_benchtext.specs.Written.{written_statements}
use Rattle.lnet_benchmeans.specs.Driving.{HasWires, driven_names}
use Rattle.lnet_benchmeans.proofs.Differing.{Differ, Apart, all_weak, all_with, all_both, differ_both, differ_mapped}
use Rattle.lnet_benchmeans.proofs.Settled.{still_seen}
use Rattle.lnet_benchmeans.proofs.Once.{names_differ}

-- ---- each name that is driven is seen

refer_seen : (given : List StatementValue) (names : List (List ℕ)) (name x : List ℕ) → is_seen names x ≡ true → is_seen (refer (driven_by given) names name).1 x ≡ true
refer_seen given names name x seen = by (constant_by (driven_by given) name) where
  by : (o : Option Bool) → is_seen (refer_by o names name).1 x ≡ true
  by (Some value) = seen
  by None = still_seen names name x seen

refer_all_seen : (given : List StatementValue) (names xs : List (List ℕ)) (x : List ℕ) → is_seen names x ≡ true → is_seen (refer_all (driven_by given) names xs).1 x ≡ true
refer_all_seen given names [] x seen = seen
refer_all_seen given names (y ∷ ys) x seen = refer_all_seen given (refer (driven_by given) names y).1 ys x (refer_seen given names y x seen)

see_seen : (given : List StatementValue) (names : List (List ℕ)) (s : StatementValue) (x : List ℕ) → is_seen names x ≡ true → is_seen (see (driven_by given) names s) x ≡ true
see_seen given names (Input name) x seen = still_seen names name x seen
see_seen given names (Output name) x seen = refer_seen given names name x seen
see_seen given names (Gate target rule operands) x seen = refer_all_seen given (with_name names target) operands x (still_seen names target x seen)
see_seen given names (Constant target value) x seen = still_seen names target x seen

see_all_seen : (given : List StatementValue) (names : List (List ℕ)) (ss : List StatementValue) (x : List ℕ) → is_seen names x ≡ true → is_seen (see_all (driven_by given) names ss) x ≡ true
see_all_seen given names [] x seen = seen
see_all_seen given names (s ∷ ss) x seen = see_all_seen given (see (driven_by given) names s) ss x (see_seen given names s x seen)

pub driven_seen : (given : List StatementValue) (names : List (List ℕ)) (ss : List StatementValue) → AllByRecursion (λ x. is_seen (see_all (driven_by given) names ss) x ≡ true) (driven_names ss)
driven_seen given names [] = tt
driven_seen given names (Input name ∷ ss) = (see_all_seen given (with_name names name) ss name (sees names name), driven_seen given (with_name names name) ss)
driven_seen given names (Output name ∷ ss) = driven_seen given (refer (driven_by given) names name).1 ss
driven_seen given names (Gate target rule operands ∷ ss) =
    let later = (refer_all (driven_by given) (with_name names target) operands).1 in
    (see_all_seen given later ss target (refer_all_seen given (with_name names target) operands target (sees names target)), driven_seen given later ss)
driven_seen given names (Constant target value ∷ ss) = (see_all_seen given (with_name names target) ss target (sees names target), driven_seen given (with_name names target) ss)

-- ---- the wires of inputs and equations are those of the names that are driven

all_inputs : (P : ℕ → Type 0) (names : List (List ℕ)) (ss : List StatementValue) → AllByRecursion P (map (wire_of names) (driven_names ss)) → AllByRecursion P (input_wires (inputs_by names ss))
all_inputs P names [] all = tt
all_inputs P names (Input name ∷ ss) all = (all.0, all_inputs P names ss all.1)
all_inputs P names (Output name ∷ ss) all = all_inputs P names ss all
all_inputs P names (Gate target rule operands ∷ ss) all = all_inputs P names ss all.1
all_inputs P names (Constant target value ∷ ss) all = all_inputs P names ss all.1

all_targets : (P : ℕ → Type 0) (given : List StatementValue) (names : List (List ℕ)) (ss : List StatementValue) → AllByRecursion P (map (wire_of names) (driven_names ss)) → AllByRecursion P (targets (equations_by (driven_by given) names ss))
all_targets P given names [] all = tt
all_targets P given names (Input name ∷ ss) all = all_targets P given names ss all.1
all_targets P given names (Output name ∷ ss) all = all_targets P given names ss all
all_targets P given names (Gate target rule operands ∷ ss) all = (all.0, all_targets P given names ss all.1)
all_targets P given names (Constant target value ∷ ss) all = (all.0, all_targets P given names ss all.1)

-- the wires of inputs, and those of equations
record IsSplit (given : List StatementValue) (names : List (List ℕ)) (ss : List StatementValue) : Type 0 where
  inputs : Differ (input_wires (inputs_by names ss))
  equations : Differ (targets (equations_by (driven_by given) names ss))
  between : Apart (input_wires (inputs_by names ss)) (targets (equations_by (driven_by given) names ss))

-- an equation drives another wire than each input, and than each equation behind it
with_target : (w : ℕ) (given : List StatementValue) (names : List (List ℕ)) (ss : List StatementValue) → AllByRecursion (λ v. w ≢ v) (map (wire_of names) (driven_names ss)) → IsSplit given names ss → Apart (input_wires (inputs_by names ss)) (w ∷ targets (equations_by (driven_by given) names ss))
with_target w given names ss all split =
    let ins = input_wires (inputs_by names ss) in
    let ts = targets (equations_by (driven_by given) names ss) in
    all_with (λ v. v ≢ w) (λ v. AllByRecursion (λ u. v ≢ u) ts) ins (all_weak (λ v. w ≢ v) (λ v. v ≢ w) ins (λ v apart e. apart (sym e)) (all_inputs (λ v. w ≢ v) names ss all)) split.between

splits : (given : List StatementValue) (names : List (List ℕ)) (ss : List StatementValue) → Differ (map (wire_of names) (driven_names ss)) → IsSplit given names ss
splits given names [] differ = record { inputs = tt; equations = tt; between = tt }
splits given names (Input name ∷ ss) differ =
    let rest = splits given names ss differ.1 in
    record {
      inputs = (all_inputs (λ v. wire_of names name ≢ v) names ss differ.0, rest.inputs);
      equations = rest.equations;
      between = (all_targets (λ v. wire_of names name ≢ v) given names ss differ.0, rest.between);
    }
splits given names (Output name ∷ ss) differ = let rest = splits given names ss differ in record { inputs = rest.inputs; equations = rest.equations; between = rest.between }
splits given names (Gate target rule operands ∷ ss) differ =
    let rest = splits given names ss differ.1 in
    record {
      inputs = rest.inputs;
      equations = (all_targets (λ v. wire_of names target ≢ v) given names ss differ.0, rest.equations);
      between = with_target (wire_of names target) given names ss differ.0 rest;
    }
splits given names (Constant target value ∷ ss) differ =
    let rest = splits given names ss differ.1 in
    record {
      inputs = rest.inputs;
      equations = (all_targets (λ v. wire_of names target ≢ v) given names ss differ.0, rest.equations);
      between = with_target (wire_of names target) given names ss differ.0 rest;
    }

-- ---- no wire is driven twice

at_place : (x : ℕ) (xs : List ℕ) (k : ℕ) → AllByRecursion (λ y. x ≢ y) xs → k < length xs → x ≢ get_or xs k 0
at_place x [] k all low = absurd (omega arith)
at_place x (y ∷ ys) zero all low = all.0
at_place x (y ∷ ys) (suc k) all low = at_place x ys k all.1 (omega arith)

none_repeats : (xs : List ℕ) → Differ xs → (i j : ℕ) → i < j → j < length xs → get_or xs i 0 ≢ get_or xs j 0
none_repeats [] differ i j below within = absurd (omega arith)
none_repeats (x ∷ xs) differ zero zero below within = absurd (omega arith)
none_repeats (x ∷ xs) differ zero (suc j) below within = at_place x xs j differ.0 (omega arith)
none_repeats (x ∷ xs) differ (suc i) zero below within = absurd (omega arith)
none_repeats (x ∷ xs) differ (suc i) (suc j) below within = none_repeats xs differ.1 i j (omega arith) (omega arith)

pub once_differ : (xs : List ℕ) → Differ xs → ¬ (Repeats xs)
once_differ xs differ (i, j, below, within, same) = none_repeats xs differ i j below within same

pub above_zero : (names xs : List (List ℕ)) → AllByRecursion (λ w. 0 ≢ w) (map (wire_of names) xs)
above_zero names [] = tt
above_zero names (x ∷ xs) = ((λ e. omega arith), above_zero names xs)

-- statements that drive no name twice drive no wire twice
pub wires_once : (ss : List StatementValue) → Differ (driven_names ss) → Differ (driven_wires (circuit_of ss))
wires_once ss differ =
    let names = names_of ss in
    let wires = differ_mapped (λ x. is_seen names x ≡ true) (wire_of names) (driven_names ss) (λ x y p q e. apart names x y p q e) (driven_seen ss [] ss) differ in
    let split = splits ss names ss wires in
    let zeros = above_zero names (driven_names ss) in (
      all_both (λ w. 0 ≢ w) (input_wires (inputs_by names ss)) (targets (equations_by (driven_by ss) names ss)) (all_inputs (λ w. 0 ≢ w) names ss zeros) (all_targets (λ w. 0 ≢ w) ss names ss zeros),
      differ_both (input_wires (inputs_by names ss)) (targets (equations_by (driven_by ss) names ss)) split.inputs split.equations split.between,
    )

pub never_twice : (c : CircuitValue) → HasWires c → IsCircuit c → ¬ (IsTwice (circuit_of (written_statements c)))
never_twice c wires is = once_differ (driven_wires (circuit_of (written_statements c))) (wires_once (written_statements c) (names_differ c wires is))
