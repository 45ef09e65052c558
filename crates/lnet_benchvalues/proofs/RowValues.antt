-- The value of a gate's table at the row of its operands is that of its rule.
use Rattle.std.proofs.Common.{◌≡◌, ℕ, suc, ◌+◌, ◌*◌, ◌/◌, ◌%◌, ◌^◌, ◌<◌, Bool, true, false, cond, eqb, List, [], ◌∷◌, length, map, refl, sym, ap, subst, ◌∙◌, arith, pow-suc}
use Rattle.std.specs.Prelude.{not, ◌==◌}
use Rattle.std.proofs.lemmas.List.{length-map}
use Rattle.std.proofs.lemmas.Bool.{eqb-true}
use Rattle.lnet_tables.specs.Bits.{is_set, number_by, bit_of}
use Rattle.lnet_tables.proofs.Depends.{number_bit}
use Rattle.lnet_edge.specs.declared.circuit.WireRef.{WireRef}
use Rattle.lnet_edge.specs.Circuits.{EquationValue}
use Rattle.lnet_edge.specs.Values.{complemented, row_number, table_bit, under_rule}
use Rattle.lnet_nodes.specs.Rows.{variables, operand_values, gate_value}
use Rattle.lnet_benchwriter.specs.Tables.{gate_table}
use Rattle.lnet_benchvalues.proofs.NameValues.{of_false}

-- ---- rows

low_bit : (b : Bool) (n : ℕ) → (((cond b 1 0 + 2 * n) % 2) == 1) ≡ b
low_bit true n = let e : (1 + 2 * n) % 2 ≡ 1 = omega arith in ap (λ (k : ℕ). k == 1) e
low_bit false n = let e : (0 + 2 * n) % 2 ≡ 0 = omega arith in ap (λ (k : ℕ). k == 1) e

high_bits : (b : Bool) (n : ℕ) → (cond b 1 0 + 2 * n) / 2 ≡ n
high_bits true n = omega arith
high_bits false n = omega arith

row_below : (bits : List Bool) → row_number bits < 2 ^ length bits
row_below [] = omega arith
row_below (b ∷ bits) =
    let h = row_below bits in
    let p : 2 ^ suc (length bits) ≡ 2 ^ length bits * 2 = pow-suc 2 (length bits) in
    elim b as (λ b. row_number (b ∷ bits) < 2 ^ length (b ∷ bits)) [ true ↦ omega arith | false ↦ omega arith ]

-- the values of the operands that are no constants
abbrev pub variable_values : (ℕ → Bool) → List WireRef → List Bool
variable_values V rs = map (λ (r : WireRef). V r.wire.0) rs

-- the values of operands
abbrev pub uses_in : (ℕ → Bool) → List WireRef → List Bool
uses_in V rs = map (λ (r : WireRef). complemented r.complement (V r.wire.0)) rs

-- at the row of the operands each has its own value
operands_at : (V : ℕ → Bool) → V 0 ≡ false → (rs : List WireRef) → operand_values rs (row_number (variable_values V (variables rs))) ≡ uses_in V rs
operands_at V none [] = refl
operands_at V none (r ∷ rs) = by (eqb r.wire.0 0) refl (operands_at V none rs) where
  by : (b : Bool) → eqb r.wire.0 0 ≡ b → operand_values rs (row_number (variable_values V (variables rs))) ≡ uses_in V rs → cond b (r.complement ∷ operand_values rs (row_number (variable_values V (cond (not b) (r ∷ variables rs) (variables rs))))) (complemented r.complement ((row_number (variable_values V (cond (not b) (r ∷ variables rs) (variables rs))) % 2) == 1) ∷ operand_values rs (row_number (variable_values V (cond (not b) (r ∷ variables rs) (variables rs))) / 2)) ≡ uses_in V (r ∷ rs)
  by true zero_is rest =
      let own : r.complement ≡ complemented r.complement (V r.wire.0) = sym (ap (complemented r.complement) (ap V (eqb-true r.wire.0 0 zero_is) ∙ none) ∙ of_false r.complement) in
      λ i. own i ∷ rest i
  by false some rest =
      let own = ap (complemented r.complement) (low_bit (V r.wire.0) (row_number (variable_values V (variables rs)))) in
      let later = ap (operand_values rs) (high_bits (V r.wire.0) (row_number (variable_values V (variables rs)))) ∙ rest in
      λ i. own i ∷ later i

-- ---- tables

table_set : (t k : ℕ) → table_bit t k ≡ is_set t k
unfolding is_set
table_set t k = refl

-- the bit of a gate's table at the row of its operands
pub table_value : (V : ℕ → Bool) → V 0 ≡ false → (e : EquationValue) → table_bit (gate_table e) (row_number (variable_values V (variables e.operands))) ≡ under_rule e.rule (uses_in V e.operands)
table_value V none e =
    let bits = variable_values V (variables e.operands) in
    let count : length bits ≡ length (variables e.operands) = length-map (variables e.operands) (λ (r : WireRef). V r.wire.0) in
    let low : row_number bits < 2 ^ length (variables e.operands) = subst (λ (k : ℕ). row_number bits < 2 ^ k) count (row_below bits) in
    table_set (gate_table e) (row_number bits)
    ∙ number_bit (gate_value e) (2 ^ length (variables e.operands)) (row_number bits) low
    ∙ ap (under_rule e.rule) (operands_at V none e.operands)

-- a table of no operands is its one bit
pub table_alone : (f : ℕ → Bool) → (number_by f (2 ^ 0) == 1) ≡ table_bit (number_by f (2 ^ 0)) 0
unfolding number_by
table_alone f = elim (f 0) as (λ b. ((bit_of b + 2 * 0) == 1) ≡ table_bit (bit_of b + 2 * 0) 0) [ true ↦ refl | false ↦ refl ]
