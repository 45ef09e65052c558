-- A gate's rule means what its operation with its phase computes.
use Rattle.std.proofs.Common.{◌≡◌, ℕ, zero, suc, ◌+◌, ◌*◌, ◌^◌, ◌<◌, ◌≤◌, Bool, true, false, not, cond, ◌&&◌, ◌||◌, List, [], ◌∷◌, length, map, eqb, refl, sym, ap, subst, ◌∙◌, arith, pow-suc}
use Rattle.std.specs.Int.{bit_at}
use Rattle.lnet_tables.specs.Bits.{is_set, number_by}
use Rattle.lnet_tables.proofs.Depends.{number_bit}
use Rattle.lnet_gates.specs.declared.gate.Op.{Op}
use Rattle.lnet_gates.specs.declared.gate.Op.TheVariants.{And, Xor, Maj, Lut}
use Rattle.lnet_gates.specs.Gates.{row_of, apply, flip}
use Rattle.lnet_gates.specs.Plans.{Takes}
use Rattle.lnet_gates.proofs.GateComputed.{is-bit}
use Rattle.lnet_edge.specs.Wires.{HasArity}
use Rattle.lnet_edge.specs.Plain.{is_gate}
use Rattle.lnet_edge.specs.Values.{row_number, table_bit, under_rule}
use Rattle.lnet_export.specs.Exported.{turned, phased, rule_for}

row-same : (bits : List Bool) → row_number bits ≡ row_of bits
row-same [] = refl
row-same (true ∷ bits) = ap (λ n. 1 + 2 * n) (row-same bits)
row-same (false ∷ bits) = ap (λ n. 0 + 2 * n) (row-same bits)

row-below : (bits : List Bool) → row_of bits < 2 ^ length bits
row-below [] = omega arith
row-below (b ∷ bits) = let h = row-below bits in let p : 2 ^ suc (length bits) ≡ 2 ^ length bits * 2 = pow-suc 2 (length bits) in elim b as (λ b. row_of (b ∷ bits) < 2 ^ length (b ∷ bits)) [ true ↦ omega arith | false ↦ omega arith ]

-- a bit of a table with its phase
phased-bit : (phase : Bool) (n t r : ℕ) → r < 2 ^ n → is_set (phased phase n t) r ≡ flip phase (is_set t r)
phased-bit true n t r low = number_bit (λ q. not (is_set t q)) (2 ^ n) r low
phased-bit false n t r low = refl

lut-value : (phase : Bool) (t n : ℕ) (bits : List Bool) → length bits ≡ n → table_bit (phased phase n t) (row_number bits) ≡ flip phase (eqb (bit_at t (row_of bits)) 1)
lut-value phase t n bits count =
    let low : row_of bits < 2 ^ n = subst (λ k. row_of bits < 2 ^ k) count (row-below bits) in
    ap (table_bit (phased phase n t)) (row-same bits)
    ∙ sym (is-bit (phased phase n t) (row_of bits))
    ∙ phased-bit phase n t (row_of bits) low
    ∙ ap (flip phase) (is-bit t (row_of bits))

pub rule-value : (op : Op) (phase : Bool) (n : ℕ) (bits : List Bool) → Takes op n → length bits ≡ n → under_rule (rule_for op phase n) bits ≡ apply op phase bits
rule-value (Lut t) phase n bits takes count = lut-value phase t n bits count
rule-value And true n (true ∷ true ∷ []) takes count = refl
rule-value And true n (true ∷ false ∷ []) takes count = refl
rule-value And true n (false ∷ b ∷ []) takes count = refl
rule-value And false n (true ∷ true ∷ []) takes count = refl
rule-value And false n (true ∷ false ∷ []) takes count = refl
rule-value And false n (false ∷ b ∷ []) takes count = refl
rule-value And phase n [] takes count = absurd (omega arith)
rule-value And phase n (a ∷ []) takes count = absurd (omega arith)
rule-value And phase n (a ∷ b ∷ c ∷ bits) takes count = absurd (omega arith)
rule-value Xor true n (true ∷ true ∷ []) takes count = refl
rule-value Xor true n (true ∷ false ∷ []) takes count = refl
rule-value Xor true n (false ∷ true ∷ []) takes count = refl
rule-value Xor true n (false ∷ false ∷ []) takes count = refl
rule-value Xor false n (true ∷ true ∷ []) takes count = refl
rule-value Xor false n (true ∷ false ∷ []) takes count = refl
rule-value Xor false n (false ∷ true ∷ []) takes count = refl
rule-value Xor false n (false ∷ false ∷ []) takes count = refl
rule-value Xor phase n [] takes count = absurd (omega arith)
rule-value Xor phase n (a ∷ []) takes count = absurd (omega arith)
rule-value Xor phase n (a ∷ b ∷ c ∷ bits) takes count = absurd (omega arith)
rule-value Maj phase n (a ∷ b ∷ c ∷ []) takes count = maj phase a b c
  where
    maj : (phase a b c : Bool) → under_rule (rule_for Maj phase n) (a ∷ b ∷ c ∷ []) ≡ apply Maj phase (a ∷ b ∷ c ∷ [])
    maj true true true true = refl
    maj true true true false = refl
    maj true true false true = refl
    maj true true false false = refl
    maj true false true true = refl
    maj true false true false = refl
    maj true false false true = refl
    maj true false false false = refl
    maj false true true true = refl
    maj false true true false = refl
    maj false true false true = refl
    maj false true false false = refl
    maj false false true true = refl
    maj false false true false = refl
    maj false false false true = refl
    maj false false false false = refl
rule-value Maj phase n [] takes count = absurd (omega arith)
rule-value Maj phase n (a ∷ []) takes count = absurd (omega arith)
rule-value Maj phase n (a ∷ b ∷ []) takes count = absurd (omega arith)
rule-value Maj phase n (a ∷ b ∷ c ∷ d ∷ bits) takes count = absurd (omega arith)

-- a rule takes as many operands as the operation
pub rule-arity : (op : Op) (phase : Bool) (n m : ℕ) → Takes op n → m ≡ n → HasArity (rule_for op phase n) m
rule-arity And phase n m takes same = omega arith
rule-arity Xor phase n m takes same = omega arith
rule-arity Maj phase n m takes same = omega arith
rule-arity (Lut t) phase n m takes same = omega arith

-- and it is a gate's
pub rule-is_gate : (op : Op) (phase : Bool) (n m : ℕ) → Takes op n → m ≡ n → is_gate (rule_for op phase n) m ≡ true
rule-is_gate And phase n m takes same = ap (λ k. eqb k 2) (same ∙ takes)
rule-is_gate Xor phase n m takes same = ap (λ k. eqb k 2) (same ∙ takes)
rule-is_gate Maj phase n m takes same = refl
rule-is_gate (Lut t) phase n m takes same = refl
