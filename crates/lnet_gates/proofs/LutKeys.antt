-- The keys of look-up tables: their tables and their operands.
use Rattle.std.proofs.Common.{◌≡◌, ℕ, zero, suc, ◌^◌, ◌<◌, ◌≤◌, Bool, false, List, [], ◌∷◌, map, length, eqb, refl, sym, ap, subst, ◌∙◌, inl, pow_pos, arith}
use Rattle.std.proofs.lemmas.List.{length-map}
use Rattle.std.specs.Int.{bit_at}
use Rattle.lnet_tables.specs.Bits.{bit_of}
use Rattle.lnet_tables.specs.Inverse.{bit_inside}
use Rattle.lnet_tables.proofs.RowNumbers.{number_below}
use Rattle.lnet_gates.specs.declared.gate.Op.TheVariants.{Lut}
use Rattle.lnet_gates.specs.declared.normal.Normal.{Normal}
use Rattle.lnet_gates.specs.declared.normal.Normal.TheVariants.{Is, Gate}
use Rattle.lnet_gates.specs.Gates.{GateValue, KeyValue, flip}
use Rattle.lnet_gates.specs.Operands.{IsNamedBy}
use Rattle.lnet_gates.specs.NormalLaws.{keyed_gate, gate_reading}
use Rattle.lnet_gates.specs.LutForms.{IsLutGate, AscendsFrom, IsTableKey, IsLutForm, grounded, put, all_false, changes_with, support, assigned, lowest_bits, table_of, signal_of, form_over, function_of, bound_of, normal_lut}
use Rattle.lnet_gates.specs.Lawful.OperandLemmas.{by_test, untrue, eqb-same}
use Rattle.lnet_gates.specs.Lawful.NodeFunctions.{IsIn, flip-self, unchanged, in-passes}
use Rattle.lnet_gates.specs.Lawful.LutLaws.{stable, named-signals}
use Rattle.lnet_gates.proofs.Ascending.{Ascends, passing-ascends}

ascends-from : (ns : List ℕ) (n : ℕ) → Ascends ns → ((m : ℕ) → IsIn m ns → n ≤ m) → AscendsFrom n (map (signal_of false) ns)
ascends-from [] n a from = tt
ascends-from (m ∷ ns) n a from = (refl, from m (inl refl), ascends-from ns (suc m) a.1 (λ k h. a.0 k h))

-- no function of a gate changes with node 0
not-zero : (g : GateValue) (bound m : ℕ) → IsIn m (support (function_of g) bound) → 1 ≤ m
not-zero g bound zero h = untrue (changes_with (function_of g) bound 0) (in-passes (changes_with (function_of g) bound) bound 0 h) (unchanged (function_of g) bound 0 (λ V b. same V b))
  where
    at : (V : ℕ → Bool) (b : Bool) (n : ℕ) → grounded (put V 0 b) n ≡ grounded V n
    at V b zero = refl
    at V b (suc n) = by_test (λ r. r ≡ V (suc n)) (eqb (suc n) 0) b (V (suc n)) (λ h. let e : suc n ≡ 0 = eqb-same (suc n) 0 h in absurd (omega arith)) (λ _. refl)

    same : (V : ℕ → Bool) (b : Bool) → function_of g (put V 0 b) ≡ function_of g V
    same V b = λ i. gate_reading (λ n. at V b n i) g
not-zero g bound (suc m) h = omega arith

lowest-zero : (ns : List ℕ) (m : ℕ) → assigned ns (lowest_bits (length ns) 0) m ≡ false
lowest-zero [] m = refl
lowest-zero (n ∷ ns) m = by_test (λ r. r ≡ false) (eqb m n) false (assigned ns (lowest_bits (length ns) 0) m) (λ _. refl) (λ _. lowest-zero ns m)

row-zero : (f : (ℕ → Bool) → Bool) (ns : List ℕ) → bit_at (table_of (f all_false) f ns) 0 ≡ 0
row-zero f ns =
    bit_inside (λ r. flip (f all_false) (f (assigned ns (lowest_bits (length ns) r)))) (2 ^ length ns) 0 (pow_pos (length ns))
    ∙ (λ i. bit_of (flip (f all_false) (f (λ m. lowest-zero ns m i))))
    ∙ ap bit_of (flip-self (f all_false))

-- what the key of a form is, if the form is a key
abbrev ShapeOf : List ℕ → Normal → Type 0
ShapeOf ns (Is s) = Unit
ShapeOf ns (Gate k phase) = (t : ℕ) × (k.op ≡ Lut t) × (bit_at t 0 ≡ 0) × (t < 2 ^ 2 ^ length k.fanins) × (2 ≤ length k.fanins) × (k.fanins ≡ map (signal_of false) ns)

shape-over : (f : (ℕ → Bool) → Bool) (ns : List ℕ) → ShapeOf ns (form_over f ns)
shape-over f [] = tt
shape-over f (n ∷ []) = tt
shape-over f (n ∷ m ∷ ns) = (
  table_of (f all_false) f (n ∷ m ∷ ns),
  refl,
  row-zero f (n ∷ m ∷ ns),
  subst (λ k. table_of (f all_false) f (n ∷ m ∷ ns) < 2 ^ 2 ^ k) (sym (length-map (n ∷ m ∷ ns) (signal_of false))) (number_below (λ r. flip (f all_false) (f (assigned (n ∷ m ∷ ns) (lowest_bits (length (n ∷ m ∷ ns)) r)))) (2 ^ length (n ∷ m ∷ ns))),
  omega arith,
  refl,
)

-- a key's table has its row 0 false, and its operands are those that it changes with, plain and ascending
table-keys : (g : GateValue) (k : KeyValue) (phase : Bool) → IsLutGate g → normal_lut g ≡ Gate k phase → IsTableKey k phase
table-keys g k phase of is_key = record {
  table = shape.0;
  op_is = shape.1;
  row_zero = shape.2;
  clear = shape.3;
  two = shape.4;
  operands = subst (AscendsFrom 1) (sym shape.5) (ascends-from nodes 1 (passing-ascends (changes_with (function_of own) (bound_of k.fanins)) (bound_of k.fanins)) (not-zero own (bound_of k.fanins)));
  needed = λ n named. in-passes (changes_with (function_of own) (bound_of k.fanins)) (bound_of k.fanins) n (named-signals n nodes (subst (IsNamedBy n) shape.5 named));
}
  where
    own : GateValue
    own = keyed_gate k phase

    nodes : List ℕ
    nodes = support (function_of own) (bound_of k.fanins)

    shape : ShapeOf nodes (Gate k phase)
    shape = subst (ShapeOf nodes) (stable g k phase of is_key) (shape-over (function_of own) nodes)

-- a gate's normal form is proper
pub proper-form : (g : GateValue) → IsLutGate g → IsLutForm (normal_lut g)
proper-form g of = either (normal_lut g) refl
  where
    either : (n : Normal) → normal_lut g ≡ n → IsLutForm n
    either (Is s) e = tt
    either (Gate k phase) e = table-keys g k phase of e
