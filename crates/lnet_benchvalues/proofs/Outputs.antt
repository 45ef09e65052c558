-- The values of the names of outputs, and which names of a written text are those of ports.
use Rattle.std.proofs.Common.{◌≡◌, ℕ, pred, Bool, List, [], ◌∷◌, ◌++◌, length, map, refl, ap, ◌∙◌}
use Rattle.std.specs.List.{AllByRecursion}
use Rattle.std.proofs.lemmas.List.{append-nil}
use Rattle.lnet_edge.specs.declared.circuit.OutputPort.{OutputPort}
use Rattle.lnet_edge.specs.declared.circuit.Rule.{Rule}
use Rattle.lnet_edge.specs.declared.circuit.WireRef.{WireRef}
use Rattle.lnet_edge.specs.Circuits.{CircuitValue}
use Rattle.lnet_edge.specs.Values.{under_rule}
use Rattle.lnet_naming.specs.Settling.{input_labels, output_labels}
use Rattle.lnet_bench.specs.Statements.{StatementValue, Input, Output, Gate, Constant}
use Rattle.lnet_benchtext.specs.Written.{port_statements, output_statements}
use Rattle.lnet_benchmeans.specs.Driving.{shown_names}
use Rattle.lnet_benchmeans.proofs.Once.{shows}
use Rattle.lnet_benchvalues.specs.Named.{given_names, Holds}

-- ---- outputs

-- the names of outputs have the values of what they show
pub outputs_by_form : (v : List ℕ → Bool) (rule : WireRef → Rule) (operands : WireRef → List (List ℕ)) (value : WireRef → Bool) (names : List (List ℕ)) (ps : List OutputPort) → length names ≡ length ps → AllByRecursion (λ (p : OutputPort). under_rule (rule p.source) (map v (operands p.source)) ≡ value p.source) ps → AllByRecursion (Holds v) (output_statements (shows rule operands) names ps) → map v names ≡ map (λ (p : OutputPort). value p.source) ps
outputs_by_form v rule operands value [] [] same values holds = refl
outputs_by_form v rule operands value [] (p ∷ ps) same values holds = absurd cc
outputs_by_form v rule operands value (name ∷ names) [] same values holds = absurd cc
outputs_by_form v rule operands value (name ∷ names) (p ∷ ps) same values holds =
    let own = holds.0 ∙ values.0 in
    let rest = outputs_by_form v rule operands value names ps (ap pred same) values.1 holds.1 in
    λ i. own i ∷ rest i

-- ---- names of ports

shown_then : (ss ts : List StatementValue) → shown_names (ss ++ ts) ≡ shown_names ss ++ shown_names ts
shown_then [] ts = refl
shown_then (Input name ∷ ss) ts = shown_then ss ts
shown_then (Output name ∷ ss) ts = ap (λ (xs : List (List ℕ)). name ∷ xs) (shown_then ss ts)
shown_then (Gate target rule operands ∷ ss) ts = shown_then ss ts
shown_then (Constant target value ∷ ss) ts = shown_then ss ts

given_then : (ss ts : List StatementValue) → given_names (ss ++ ts) ≡ given_names ss ++ given_names ts
given_then [] ts = refl
given_then (Input name ∷ ss) ts = ap (λ (xs : List (List ℕ)). name ∷ xs) (given_then ss ts)
given_then (Output name ∷ ss) ts = given_then ss ts
given_then (Gate target rule operands ∷ ss) ts = given_then ss ts
given_then (Constant target value ∷ ss) ts = given_then ss ts

inputs_shown : (names : List (List ℕ)) → shown_names (map Input names) ≡ []
inputs_shown [] = refl
inputs_shown (name ∷ names) = inputs_shown names

outputs_shown : (names : List (List ℕ)) → shown_names (map Output names) ≡ names
outputs_shown [] = refl
outputs_shown (name ∷ names) = ap (λ (xs : List (List ℕ)). name ∷ xs) (outputs_shown names)

inputs_given : (names : List (List ℕ)) → given_names (map Input names) ≡ names
inputs_given [] = refl
inputs_given (name ∷ names) = ap (λ (xs : List (List ℕ)). name ∷ xs) (inputs_given names)

outputs_given : (names : List (List ℕ)) → given_names (map Output names) ≡ []
outputs_given [] = refl
outputs_given (name ∷ names) = outputs_given names

-- no port is among the statements
abbrev pub HasNoPorts : List StatementValue → Type 0
HasNoPorts ss = (given_names ss ≡ []) × (shown_names ss ≡ [])

pub none_then : (ss ts : List StatementValue) → HasNoPorts ss → HasNoPorts ts → HasNoPorts (ss ++ ts)
none_then ss ts first second = (
  given_then ss ts ∙ ap (λ (xs : List (List ℕ)). xs ++ given_names ts) first.0 ∙ second.0,
  shown_then ss ts ∙ ap (λ (xs : List (List ℕ)). xs ++ shown_names ts) first.1 ∙ second.1,
)

pub outputs_none : (rule : WireRef → Rule) (operands : WireRef → List (List ℕ)) (names : List (List ℕ)) (ps : List OutputPort) → HasNoPorts (output_statements (shows rule operands) names ps)
outputs_none rule operands [] ps = (refl, refl)
outputs_none rule operands (name ∷ names) [] = (refl, refl)
outputs_none rule operands (name ∷ names) (p ∷ ps) = outputs_none rule operands names ps

-- the ports before other statements
pub ports_given : (c : CircuitValue) (ss : List StatementValue) → HasNoPorts ss → (given_names (port_statements c ++ ss) ≡ input_labels c.inputs) × (shown_names (port_statements c ++ ss) ≡ output_labels c.inputs c.outputs)
ports_given c ss none =
    let ins = input_labels c.inputs in
    let outs = output_labels c.inputs c.outputs in (
      given_then (port_statements c) ss
          ∙ ap (λ (xs : List (List ℕ)). given_names (port_statements c) ++ xs) none.0
          ∙ append-nil (given_names (port_statements c))
          ∙ given_then (map Input ins) (map Output outs)
          ∙ ap (λ (xs : List (List ℕ)). given_names (map Input ins) ++ xs) (outputs_given outs)
          ∙ append-nil (given_names (map Input ins))
          ∙ inputs_given ins,
      shown_then (port_statements c) ss
          ∙ ap (λ (xs : List (List ℕ)). shown_names (port_statements c) ++ xs) none.1
          ∙ append-nil (shown_names (port_statements c))
          ∙ shown_then (map Input ins) (map Output outs)
          ∙ ap (λ (xs : List (List ℕ)). xs ++ shown_names (map Output outs)) (inputs_shown ins)
          ∙ outputs_shown outs,
    )
