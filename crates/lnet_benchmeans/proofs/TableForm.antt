-- The statements of a circuit whose gates have tables use names that are driven before them.
use Rattle.std.proofs.Common.{◌≡◌, ◌≢◌, ℕ, true, false, List, [], ◌∷◌, ◌++◌, map, sym, subst, append_assoc, inl, inr, refl}
use Rattle.std.specs.Prelude.{◌⊎◌, ◌||◌, flat_map}
use Rattle.std.specs.List.{AllByRecursion}
use Rattle.std.specs.Str.{bytes_eq}
use Rattle.std.proofs.lemmas.Bool.{false≢true}
use Rattle.lnet_edge.specs.Circuits.{CircuitValue}
use Rattle.lnet_edge.specs.Plain.{IsPlain}
use Rattle.lnet_edge.specs.Wires.{input_wires, output_wires, targets, operand_wires, driven_wires, IsCircuit}
use Rattle.lnet_wires.specs.Naming.{is_seen}
use Rattle.lnet_naming.specs.Settling.{made_name, input_labels, output_labels}
use Rattle.lnet_nodes.specs.Nodes.{label_of, node_name}
use Rattle.lnet_bench.specs.Statements.{StatementValue, Input, Output}
use Rattle.lnet_benchtext.specs.Written.{port_statements, output_statements, table_output_statement, table_form_statements}
use Rattle.lnet_benchmeans.specs.Driving.{IsOrderedBehind}
use Rattle.lnet_benchmeans.proofs.Differing.{Apart, all_weak, all_with, all_first, differ_apart}
use Rattle.lnet_benchmeans.proofs.Once.{wires_differ}
use Rattle.lnet_benchmeans.proofs.Plain.{IsOneOf, one_both, used_one, plain_ahead}
use Rattle.lnet_benchmeans.proofs.Nodes.{input_named, gate_named}
use Rattle.lnet_benchmeans.proofs.Tables.{more_seen, tables_then, outputs_last}

-- ---- ports

pub inputs_then : (names known : List (List ℕ)) (ss : List StatementValue) → ((known' : List (List ℕ)) → ((x : List ℕ) → ((is_seen known x ≡ true) ⊎ (is_seen names x ≡ true)) → is_seen known' x ≡ true) → IsOrderedBehind known' ss) → IsOrderedBehind known (map Input names ++ ss)
inputs_then [] known ss rest = rest known at_end where
  at_end : (x : List ℕ) → ((is_seen known x ≡ true) ⊎ (is_seen [] x ≡ true)) → is_seen known x ≡ true
  at_end x (inl seen) = seen
  at_end x (inr seen) = absurd (false≢true seen)
inputs_then (name ∷ names) known ss rest = inputs_then names (name ∷ known) ss (λ known' later. rest known' (λ x h. later x (sooner x h))) where
  sooner : (x : List ℕ) → ((is_seen known x ≡ true) ⊎ (is_seen (name ∷ names) x ≡ true)) → ((is_seen (name ∷ known) x ≡ true) ⊎ (is_seen names x ≡ true))
  sooner x (inl seen) = inl (more_seen known name x seen)
  sooner x (inr seen) = elim (bytes_eq x name) as (λ b. (b || is_seen names x) ≡ true → (((b || is_seen known x) ≡ true) ⊎ (is_seen names x ≡ true))) [ true ↦ λ h. inl refl | false ↦ λ h. inr h ] seen

pub outputs_then : (names known : List (List ℕ)) (ss : List StatementValue) → IsOrderedBehind known ss → IsOrderedBehind known (map Output names ++ ss)
outputs_then [] known ss rest = rest
outputs_then (name ∷ names) known ss rest = outputs_then names known ss rest

-- ---- gates

all_unit : (xs ys : List ℕ) → AllByRecursion (λ y. Unit {0}) ys
all_unit xs [] = tt
all_unit xs (y ∷ ys) = (tt, all_unit xs ys)

flipped : (xs ys : List ℕ) → Apart xs ys → AllByRecursion (λ y. AllByRecursion (λ x. x ≢ y) xs) ys
flipped [] ys apart = all_unit [] ys
flipped (x ∷ xs) ys apart = all_with (λ y. x ≢ y) (λ y. AllByRecursion (λ z. z ≢ y) xs) ys apart.0 (flipped xs ys apart.1)

pub gates_named : (c : CircuitValue) → IsCircuit c → AllByRecursion (λ t. node_name (label_of c) t ≡ made_name 110 t) (targets c.equations)
gates_named c is =
    let ins = input_wires c.inputs in
    let ts = targets c.equations in
    all_weak (λ t. AllByRecursion (λ v. v ≢ t) ins) (λ t. node_name (label_of c) t ≡ made_name 110 t) ts (gate_named c) (flipped ins ts (differ_apart ins ts (wires_differ c is)))

pub shown_met : (L : ℕ → Type 0) (ins ts : List ℕ) → ((w : ℕ) → (IsOneOf ins w ⊎ IsOneOf ts w) → L w) → (w : ℕ) → IsOneOf (0 ∷ (ins ++ ts)) w → (w ≡ 0) ⊎ L w
shown_met L ins ts each w (inl zero_is) = inl zero_is
shown_met L ins ts each w (inr one) = inr (each w (one_both ins ts w one))

pub tables_ordered : (c : CircuitValue) → IsCircuit c → IsPlain c.equations → IsOrderedBehind [] (port_statements c ++ table_form_statements (label_of c) c)
tables_ordered c is plain =
    let label = label_of c in
    let ins = input_wires c.inputs in
    let ts = targets c.equations in
    let outs = output_statements (table_output_statement label) (output_labels c.inputs c.outputs) c.outputs in
    let form = table_form_statements label c in
    let names = output_labels c.inputs c.outputs in
    subst (IsOrderedBehind []) (sym (append_assoc (map Input (input_labels c.inputs)) (map Output names) form))
    (inputs_then (input_labels c.inputs) [] (map Output names ++ form) (λ known seen.
    outputs_then names known form
    (tables_then label c.equations outs known (IsOneOf ins) (plain_ahead c is plain) (λ w one. seen (node_name label w) (inr (input_named c w one))) (gates_named c is) (λ known' L later each.
    outputs_last label L names c.outputs known' each
    (all_weak (IsOneOf (driven_wires c)) (λ w. (w ≡ 0) ⊎ L w) (output_wires c.outputs) (shown_met L ins ts later)
    (all_first (IsOneOf (driven_wires c)) (output_wires c.outputs) (flat_map operand_wires c.equations) (used_one c is)))))))
