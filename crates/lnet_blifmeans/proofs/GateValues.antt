-- The covers of gates give their names the values of the gates.
use Rattle.std.proofs.Common.{◌≡◌, ◌≢◌, ℕ, ◌+◌, ◌*◌, ◌/◌, ◌%◌, Bool, true, false, cond, eqb, List, [], ◌∷◌, length, map, Option, refl, sym, ap, subst, ◌∙◌, inl, inr, arith}
use Rattle.std.specs.Prelude.{◌⊎◌, not, if◌then◌else◌}
use Rattle.std.specs.List.{AllByRecursion}
use Rattle.std.proofs.lemmas.Bool.Decides.{nat_tests, eqb_tells}
use Rattle.std.proofs.lemmas.List.{length-map}
use Rattle.lnet_edge.specs.declared.circuit.WireRef.{WireRef}
use Rattle.lnet_edge.specs.Circuits.{EquationValue}
use Rattle.lnet_edge.specs.Values.{complemented, row_number, under_rule, cover_value}
use Rattle.lnet_edge.specs.Wires.{targets, operand_wires}
use Rattle.lnet_naming.specs.Settling.{made_name}
use Rattle.lnet_nodes.specs.Nodes.{node_name}
use Rattle.lnet_nodes.specs.Rows.{variables, operand_values, gate_value}
use Rattle.lnet_blifwriter.specs.Texts.{operand_names}
use Rattle.lnet_benchmeans.proofs.Falling.{IsAhead}
use Rattle.lnet_benchmeans.proofs.Plain.{IsOneOf, one-sooner}
use Rattle.lnet_bliftext.specs.Written.{true_rows, gate_cover}
use Rattle.lnet_blifmeans.proofs.Shape.{true_cover}
use Rattle.lnet_blifmeans.proofs.CoverRows.{rows_value}
use Rattle.lnet_blifmeans.proofs.NameValues.{CoversHold}

-- ---- the row of operands

-- the values of wires, as operands use them
abbrev pub used_values : (ℕ → Bool) → List WireRef → List Bool
used_values value rs = map (λ (r : WireRef). complemented r.complement (value r.wire.0)) rs

-- the values of the operands that are no constants
abbrev pub free_values : (ℕ → Bool) → List WireRef → List Bool
free_values value rs = map (λ (r : WireRef). value r.wire.0) (variables rs)

low_bit : (b : Bool) (n : ℕ) → eqb (((if b then 1 else 0) + 2 * n) % 2) 1 ≡ b
low_bit true n = grind (arith, nat_tests)
low_bit false n = grind (arith, nat_tests)

high_bits : (b : Bool) (n : ℕ) → ((if b then 1 else 0) + 2 * n) / 2 ≡ n
high_bits true n = omega arith
high_bits false n = omega arith

plain_false : (complement : Bool) → complement ≡ complemented complement false
plain_false true = refl
plain_false false = refl

-- the operands have at their own row the values that they have
row_values : (value : ℕ → Bool) → value 0 ≡ false → (rs : List WireRef) → operand_values rs (row_number (free_values value rs)) ≡ used_values value rs
row_values value none [] = refl
row_values value none (r ∷ rs) = elim (eqb_tells r.wire.0 0) as (λ _. operand_values (r ∷ rs) (row_number (free_values value (r ∷ rs))) ≡ used_values value (r ∷ rs)) [
  | inl h ↦
      let here : r.complement ≡ complemented r.complement (value r.wire.0) = plain_false r.complement ∙ ap (complemented r.complement) (sym none ∙ ap value (sym h.1)) in
      ap (λ (b : Bool). taken b (row_number (given (not b)))) h.0 ∙ ap (λ (b : Bool). b ∷ operand_values rs (row_number (free_values value rs))) here ∙ ap (λ (bs : List Bool). complemented r.complement (value r.wire.0) ∷ bs) (row_values value none rs)
  | inr h ↦
      let n = row_number (free_values value rs) in
      ap (λ (b : Bool). taken b (row_number (given (not b)))) h.0
      ∙ ap (λ (b : Bool). complemented r.complement b ∷ operand_values rs (row_number (value r.wire.0 ∷ free_values value rs) / 2)) (low_bit (value r.wire.0) n)
      ∙ ap (λ (m : ℕ). complemented r.complement (value r.wire.0) ∷ operand_values rs m) (high_bits (value r.wire.0) n)
      ∙ ap (λ (bs : List Bool). complemented r.complement (value r.wire.0) ∷ bs) (row_values value none rs)
]
  where
    -- by whether the operand is a constant, and by whether it is none
    taken : Bool → ℕ → List Bool
    taken constant row = cond constant (r.complement ∷ operand_values rs row) (complemented r.complement (eqb (row % 2) 1) ∷ operand_values rs (row / 2))

    given : Bool → List Bool
    given free = map (λ (v : WireRef). value v.wire.0) (cond free (r ∷ variables rs) (variables rs))

-- ---- one gate

-- the names of these nodes have the values of their wires
abbrev pub Agree : (List ℕ → Bool) → (ℕ → Option (List ℕ)) → (ℕ → Bool) → (ℕ → Type 0) → Type 0
Agree v label value K = (w : ℕ) → K w → v (node_name label w) ≡ value w

operands_agree : (v : List ℕ → Bool) (label : ℕ → Option (List ℕ)) (value : ℕ → Bool) (K : ℕ → Type 0) → Agree v label value K → (rs : List WireRef) → AllByRecursion (λ w. (w ≡ 0) ⊎ K w) (map (λ (r : WireRef). r.wire.0) rs) → map v (operand_names label (variables rs)) ≡ free_values value rs
operands_agree v label value K agree [] all = refl
operands_agree v label value K agree (r ∷ rs) all = elim (eqb_tells r.wire.0 0) as (λ _. map v (operand_names label (cond (not (eqb r.wire.0 0)) (r ∷ variables rs) (variables rs))) ≡ map (λ (s : WireRef). value s.wire.0) (cond (not (eqb r.wire.0 0)) (r ∷ variables rs) (variables rs))) [
  | inl h ↦ subst (λ (b : Bool). map v (operand_names label (cond (not b) (r ∷ variables rs) (variables rs))) ≡ map (λ (s : WireRef). value s.wire.0) (cond (not b) (r ∷ variables rs) (variables rs))) (sym h.0) (operands_agree v label value K agree rs all.1)
  | inr h ↦ subst (λ (b : Bool). map v (operand_names label (cond (not b) (r ∷ variables rs) (variables rs))) ≡ map (λ (s : WireRef). value s.wire.0) (cond (not b) (r ∷ variables rs) (variables rs))) (sym h.0)
      (ap (λ (b : Bool). b ∷ map v (operand_names label (variables rs))) (agree r.wire.0 (used h.1 all.0)) ∙ ap (λ (bs : List Bool). value r.wire.0 ∷ bs) (operands_agree v label value K agree rs all.1))
]
  where
    used : r.wire.0 ≢ 0 → ((r.wire.0 ≡ 0) ⊎ K r.wire.0) → K r.wire.0
    used apart (inl is) = absurd (apart is)
    used apart (inr k) = k

gate_agrees : (v : List ℕ → Bool) (label : ℕ → Option (List ℕ)) (value : ℕ → Bool) (K : ℕ → Type 0) (e : EquationValue) → value 0 ≡ false → Agree v label value K → AllByRecursion (λ w. (w ≡ 0) ⊎ K w) (operand_wires e) → value e.target ≡ under_rule e.rule (used_values value e.operands) → v (made_name 110 e.target) ≡ cover_value (true_cover (gate_cover label e).rows) (map v (gate_cover label e).operands) → v (made_name 110 e.target) ≡ value e.target
gate_agrees v label value K e none agree ahead holds covered =
    covered
    ∙ ap (cover_value (true_cover (true_rows (gate_value e) (length (variables e.operands))))) (operands_agree v label value K agree e.operands ahead)
    ∙ rows_value (gate_value e) (length (variables e.operands)) (free_values value e.operands) (length-map (variables e.operands) (λ (r : WireRef). value r.wire.0))
    ∙ ap (under_rule e.rule) (row_values value none e.operands)
    ∙ sym holds

-- ---- gate after gate

abbrev pub GatesHold : (ℕ → Bool) → List EquationValue → Type 0
GatesHold value es = AllByRecursion (λ (e : EquationValue). value e.target ≡ under_rule e.rule (used_values value e.operands)) es

pub gates_agree : (v : List ℕ → Bool) (label : ℕ → Option (List ℕ)) (value : ℕ → Bool) (K : ℕ → Type 0) (es : List EquationValue) → value 0 ≡ false → IsAhead K es → AllByRecursion (λ t. node_name label t ≡ made_name 110 t) (targets es) → GatesHold value es → CoversHold v (map (gate_cover label) es) → Agree v label value K → Agree v label value (λ w. K w ⊎ IsOneOf (targets es) w)
gates_agree v label value K [] none ahead named holds covered agree w (inl k) = agree w k
gates_agree v label value K [] none ahead named holds covered agree w (inr one) = absurd one
gates_agree v label value K (e ∷ es) none ahead named holds covered agree w met =
    gates_agree v label value (λ u. (u ≡ e.target) ⊎ K u) es none ahead.1 named.1 holds.1 covered.1 more w (one-sooner K e.target (targets es) w met)
  where
    more : Agree v label value (λ u. (u ≡ e.target) ⊎ K u)
    more u (inl is) = ap (λ (t : ℕ). v (node_name label t)) is ∙ ap v named.0 ∙ gate_agrees v label value K e none agree ahead.0 holds.0 covered.0 ∙ ap value (sym is)
    more u (inr k) = agree u k
