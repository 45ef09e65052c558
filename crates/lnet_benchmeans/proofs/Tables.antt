-- The statements of gates with tables use names that are driven before them.
use Rattle.std.proofs.Common.{◌≡◌, ◌≢◌, ℕ, Bool, true, false, cond, eqb, List, [], ◌∷◌, ◌++◌, map, Option, refl, sym, ap, subst, ◌∙◌, inl, inr}
use Rattle.std.specs.Prelude.{◌⊎◌, ◌||◌, not}
use Rattle.std.specs.List.{AllByRecursion}
use Rattle.std.specs.Str.{bytes_eq}
use Rattle.std.proofs.lemmas.Bool.Decides.{eqb_tells}
use Rattle.std.proofs.lemmas.Slice.Eq.{bytes_eq-Decides}
use Rattle.lnet_edge.specs.declared.circuit.OutputPort.{OutputPort}
use Rattle.lnet_edge.specs.declared.circuit.WireRef.{WireRef}
use Rattle.lnet_edge.specs.Circuits.{EquationValue}
use Rattle.lnet_edge.specs.Wires.{output_wires, targets}
use Rattle.lnet_wires.specs.Naming.{is_seen}
use Rattle.lnet_naming.specs.Settling.{made_name}
use Rattle.lnet_nodes.specs.Nodes.{node_name}
use Rattle.lnet_nodes.specs.Rows.{variables}
use Rattle.lnet_bench.specs.Statements.{StatementValue}
use Rattle.lnet_benchwriter.specs.Texts.{shown_name}
use Rattle.lnet_benchwriter.specs.Nodes.{constant_name}
use Rattle.lnet_benchtext.specs.Written.{output_statements, table_statement, table_output_statement}
use Rattle.lnet_benchmeans.specs.Driving.{IsUsable, IsOrderedBehind}
use Rattle.lnet_benchmeans.proofs.Falling.{IsAhead}
use Rattle.lnet_benchmeans.proofs.Plain.{IsOneOf, one-sooner, one-none}

-- each node of these wires has one of these names
abbrev pub AreNamed : (ℕ → Option (List ℕ)) → (ℕ → Type 0) → List (List ℕ) → Type 0
AreNamed label K known = (w : ℕ) → K w → is_seen known (node_name label w) ≡ true

pub more_seen : (known : List (List ℕ)) (name x : List ℕ) → is_seen known x ≡ true → is_seen (name ∷ known) x ≡ true
more_seen known name x seen = elim (bytes_eq x name) as (λ b. (b || is_seen known x) ≡ true) [ true ↦ refl | false ↦ seen ]

pub first_seen : (known : List (List ℕ)) (name : List ℕ) → is_seen (name ∷ known) name ≡ true
first_seen known name = ap (λ (b : Bool). b || is_seen known name) ((bytes_eq-Decides name name).1 refl)

-- one more gate is named
pub more_named : (label : ℕ → Option (List ℕ)) (K : ℕ → Type 0) (known : List (List ℕ)) (t : ℕ) → node_name label t ≡ made_name 110 t → AreNamed label K known → AreNamed label (λ v. (v ≡ t) ⊎ K v) (made_name 110 t ∷ known)
more_named label K known t named each w (inl is) = ap (λ (v : ℕ). is_seen (made_name 110 t ∷ known) (node_name label v)) is ∙ ap (is_seen (made_name 110 t ∷ known)) named ∙ first_seen known (made_name 110 t)
more_named label K known t named each w (inr k) = more_seen known (made_name 110 t) (node_name label w) (each w k)

variables_usable : (label : ℕ → Option (List ℕ)) (K : ℕ → Type 0) (known : List (List ℕ)) → AreNamed label K known → (rs : List WireRef) → AllByRecursion (λ v. (v ≡ 0) ⊎ K v) (map (λ (r : WireRef). r.wire.0) rs) → AllByRecursion (IsUsable known) (map (λ (v : WireRef). node_name label v.wire.0) (variables rs))
variables_usable label K known each [] all = tt
variables_usable label K known each (r ∷ rs) all =
    elim (eqb_tells r.wire.0 0) as (λ _. AllByRecursion (IsUsable known) (map (λ (v : WireRef). node_name label v.wire.0) (cond (not (eqb r.wire.0 0)) (r ∷ variables rs) (variables rs)))) [
      | inl h ↦ subst (λ (b : Bool). AllByRecursion (IsUsable known) (map (λ (v : WireRef). node_name label v.wire.0) (cond (not b) (r ∷ variables rs) (variables rs)))) (sym h.0) (variables_usable label K known each rs all.1)
      | inr h ↦ subst (λ (b : Bool). AllByRecursion (IsUsable known) (map (λ (v : WireRef). node_name label v.wire.0) (cond (not b) (r ∷ variables rs) (variables rs)))) (sym h.0) (inr (each r.wire.0 (used h.1 all.0)), variables_usable label K known each rs all.1)
    ]
  where
    used : r.wire.0 ≢ 0 → ((r.wire.0 ≡ 0) ⊎ K r.wire.0) → K r.wire.0
    used apart (inl is) = absurd (apart is)
    used apart (inr k) = k

-- a gate and what stands behind it
table_then : (label : ℕ → Option (List ℕ)) (e : EquationValue) (ss : List StatementValue) (known : List (List ℕ)) → AllByRecursion (IsUsable known) (map (λ (v : WireRef). node_name label v.wire.0) (variables e.operands)) → IsOrderedBehind (made_name 110 e.target ∷ known) ss → IsOrderedBehind known (table_statement label e ∷ ss)
table_then label e ss known usable rest = by (variables e.operands) refl where
  by : (vs : List WireRef) → variables e.operands ≡ vs → IsOrderedBehind known (table_statement label e ∷ ss)
  by [] is = rw is rest
  by (r ∷ rs) is = rw is (subst (λ (vs : List WireRef). AllByRecursion (IsUsable known) (map (λ (v : WireRef). node_name label v.wire.0) vs)) is usable, rest)

-- gates with tables, and what stands behind them
pub tables_then : (label : ℕ → Option (List ℕ)) (es : List EquationValue) (ss : List StatementValue) (known : List (List ℕ)) (K : ℕ → Type 0) → IsAhead K es → AreNamed label K known → AllByRecursion (λ t. node_name label t ≡ made_name 110 t) (targets es) → ((known' : List (List ℕ)) (L : ℕ → Type 0) → ((w : ℕ) → (K w ⊎ IsOneOf (targets es) w) → L w) → AreNamed label L known' → IsOrderedBehind known' ss) → IsOrderedBehind known (map (table_statement label) es ++ ss)
tables_then label [] ss known K ahead each named rest = rest known K (one-none K) each
tables_then label (e ∷ es) ss known K ahead each named rest =
    table_then label e (map (table_statement label) es ++ ss) known (variables_usable label K known each e.operands ahead.0)
    (tables_then label es ss (made_name 110 e.target ∷ known) (λ v. (v ≡ e.target) ⊎ K v) ahead.1 (more_named label K known e.target named.0 each) named.1 (λ known' L later. rest known' L (λ w h. later w (one-sooner K e.target (targets es) w h))))

-- ---- outputs

shown_usable : (label : ℕ → Option (List ℕ)) (L : ℕ → Type 0) (known : List (List ℕ)) → AreNamed label L known → (r : WireRef) → ((r.wire.0 ≡ 0) ⊎ L r.wire.0) → IsUsable known (shown_name label r)
shown_usable label L known each r (inl is) = subst (λ (w : ℕ). IsUsable known (cond (eqb w 0) (constant_name r.complement) (node_name label w))) (sym is) (inl (r.complement, refl))
shown_usable label L known each r (inr k) = elim (eqb r.wire.0 0) as (λ b. IsUsable known (cond b (constant_name r.complement) (node_name label r.wire.0))) [ true ↦ inl (r.complement, refl) | false ↦ inr (each r.wire.0 k) ]

pub outputs_last : (label : ℕ → Option (List ℕ)) (L : ℕ → Type 0) (names : List (List ℕ)) (ps : List OutputPort) (known : List (List ℕ)) → AreNamed label L known → AllByRecursion (λ w. (w ≡ 0) ⊎ L w) (output_wires ps) → IsOrderedBehind known (output_statements (table_output_statement label) names ps)
outputs_last label L [] ps known each all = tt
outputs_last label L (name ∷ names) [] known each all = tt
outputs_last label L (name ∷ names) (p ∷ ps) known each all = (
  (shown_usable label L known each p.source all.0, tt),
  outputs_last label L names ps (name ∷ known) (λ w k. more_seen known name (node_name label w) (each w k)) all.1,
)
