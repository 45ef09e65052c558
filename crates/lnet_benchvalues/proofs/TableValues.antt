-- The values of gates with tables, gate by gate.
use Rattle.std.proofs.Common.{◌≡◌, ◌≢◌, ℕ, ◌^◌, Bool, true, false, cond, eqb, List, [], ◌∷◌, length, map, Option, refl, sym, ap, subst, ◌∙◌, inl, inr}
use Rattle.std.specs.Prelude.{◌⊎◌, ◌&&◌, not, ◌==◌}
use Rattle.std.specs.List.{AllByRecursion}
use Rattle.std.proofs.lemmas.Bool.{eqb-true, false≢true}
use Rattle.lnet_tables.specs.Bits.{number_by}
use Rattle.lnet_edge.specs.declared.circuit.Rule.TheVariants.{And}
use Rattle.lnet_edge.specs.declared.circuit.WireRef.{WireRef}
use Rattle.lnet_edge.specs.Circuits.{EquationValue}
use Rattle.lnet_edge.specs.Wires.{targets}
use Rattle.lnet_edge.specs.Values.{complemented, row_number, table_bit, under_rule}
use Rattle.lnet_naming.specs.Settling.{made_name}
use Rattle.lnet_nodes.specs.Nodes.{node_name}
use Rattle.lnet_nodes.specs.Rows.{variables, gate_value}
use Rattle.lnet_benchwriter.specs.Nodes.{constant_name}
use Rattle.lnet_benchwriter.specs.Tables.{gate_table}
use Rattle.lnet_benchwriter.specs.Texts.{shown_name}
use Rattle.lnet_benchtext.specs.Written.{table_statement}
use Rattle.lnet_benchtext.proofs.Forms.{operand_names, table_statement-none, table_statement-some}
use Rattle.lnet_benchmeans.proofs.Falling.{IsAhead}
use Rattle.lnet_benchmeans.proofs.Nodes.{eqb_same}
use Rattle.lnet_benchvalues.specs.Named.{Holds}
use Rattle.lnet_benchvalues.proofs.NameValues.{of_false}
use Rattle.lnet_benchvalues.proofs.RowValues.{variable_values, uses_in, table_value, table_alone}
use Rattle.lnet_benchvalues.proofs.Known.{AreKnown, known_more}

-- ---- one gate

-- a gate's name has the bit of its table
table_bit_is : (v : List ℕ → Bool) (label : ℕ → Option (List ℕ)) (e : EquationValue) → Holds v (table_statement label e) → v (made_name 110 e.target) ≡ table_bit (gate_table e) (row_number (map v (operand_names label (variables e.operands))))
table_bit_is v label e holds = by (variables e.operands) refl where
  by : (vs : List WireRef) → variables e.operands ≡ vs → v (made_name 110 e.target) ≡ table_bit (gate_table e) (row_number (map v (operand_names label (variables e.operands))))
  by [] is =
      subst (Holds v) (table_statement-none label e is) holds
      ∙ subst (λ (vs : List WireRef). (number_by (gate_value e) (2 ^ length vs) == 1) ≡ table_bit (number_by (gate_value e) (2 ^ length vs)) (row_number (map v (operand_names label vs)))) (sym is) (table_alone (gate_value e))
  by (r ∷ rs) is = subst (Holds v) (table_statement-some label e r rs is) holds ∙ ap (λ (vs : List WireRef). table_bit (gate_table e) (row_number (map v (operand_names label vs)))) (sym is)

variables_known : (v : List ℕ → Bool) (V : ℕ → Bool) (label : ℕ → Option (List ℕ)) (K : ℕ → Type 0) → AreKnown v V label K → (rs : List WireRef) → AllByRecursion (λ w. (w ≡ 0) ⊎ K w) (map (λ (r : WireRef). r.wire.0) rs) → map v (operand_names label (variables rs)) ≡ variable_values V (variables rs)
variables_known v V label K each [] all = refl
variables_known v V label K each (r ∷ rs) all = by (eqb r.wire.0 0) refl (variables_known v V label K each rs all.1) where
  used : r.wire.0 ≢ 0 → ((r.wire.0 ≡ 0) ⊎ K r.wire.0) → K r.wire.0
  used apart (inl is) = absurd (apart is)
  used apart (inr k) = k

  by : (b : Bool) → eqb r.wire.0 0 ≡ b → map v (operand_names label (variables rs)) ≡ variable_values V (variables rs) → map v (operand_names label (cond (not b) (r ∷ variables rs) (variables rs))) ≡ variable_values V (cond (not b) (r ∷ variables rs) (variables rs))
  by true zero_is rest = rest
  by false some rest =
      let own = each r.wire.0 (used (λ is. false≢true (sym some ∙ eqb_same r.wire.0 0 is)) all.0) in
      λ i. own i ∷ rest i

-- ---- gate after gate

-- an equation gives its target the value of its rule
abbrev pub Gives : (ℕ → Bool) → EquationValue → Type 0
Gives V e = V e.target ≡ under_rule e.rule (uses_in V e.operands)

pub tables_known : (v : List ℕ → Bool) (V : ℕ → Bool) (label : ℕ → Option (List ℕ)) → V 0 ≡ false → (es : List EquationValue) (K : ℕ → Type 0) → IsAhead K es → AreKnown v V label K → AllByRecursion (λ t. node_name label t ≡ made_name 110 t) (targets es) → AllByRecursion (Gives V) es → AllByRecursion (Holds v) (map (table_statement label) es) → AllByRecursion (λ t. v (node_name label t) ≡ V t) (targets es)
tables_known v V label none [] K ahead each named gives holds = tt
tables_known v V label none (e ∷ es) K ahead each named gives holds =
    let one : v (node_name label e.target) ≡ V e.target =
    ap v named.0
    ∙ table_bit_is v label e holds.0
    ∙ ap (λ (bits : List Bool). table_bit (gate_table e) (row_number bits)) (variables_known v V label K each e.operands ahead.0)
    ∙ table_value V none e
    ∙ sym gives.0 in
    (one, tables_known v V label none es (λ w. (w ≡ e.target) ⊎ K w) ahead.1 (known_more v V label K e.target each one) named.1 gives.1 holds.1)

-- ---- outputs

pub and_true : (b : Bool) → (b && true) ≡ b
and_true true = refl
and_true false = refl

-- what an output shows has its value
pub shown_value : (v : List ℕ → Bool) (V : ℕ → Bool) (label : ℕ → Option (List ℕ)) (K : ℕ → Type 0) → V 0 ≡ false → ((value : Bool) → v (constant_name value) ≡ value) → AreKnown v V label K → (r : WireRef) → ((r.wire.0 ≡ 0) ⊎ K r.wire.0) → under_rule (And (not (r.wire.0 == 0) && r.complement)) (map v (shown_name label r ∷ [])) ≡ complemented r.complement (V r.wire.0)
shown_value v V label K none constants each r used = by (eqb r.wire.0 0) refl where
  known : eqb r.wire.0 0 ≡ false → ((r.wire.0 ≡ 0) ⊎ K r.wire.0) → K r.wire.0
  known some (inl is) = absurd (false≢true (sym some ∙ eqb_same r.wire.0 0 is))
  known some (inr k) = k

  by : (b : Bool) → eqb r.wire.0 0 ≡ b → complemented (not b && r.complement) (v (cond b (constant_name r.complement) (node_name label r.wire.0)) && true) ≡ complemented r.complement (V r.wire.0)
  by true zero_is = and_true (v (constant_name r.complement)) ∙ constants r.complement ∙ sym (ap (complemented r.complement) (ap V (eqb-true r.wire.0 0 zero_is) ∙ none) ∙ of_false r.complement)
  by false some = ap (complemented r.complement) (and_true (v (node_name label r.wire.0)) ∙ each r.wire.0 (known some used))
