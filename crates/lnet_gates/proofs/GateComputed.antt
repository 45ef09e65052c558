-- The value of a gate, as a table and the signals of its fanins compute it.
use Rattle.std.proofs.Common.{◌≡◌, ℕ, zero, suc, ◌+◌, ◌*◌, ◌≤◌, Bool, true, false, List, [], ◌∷◌, map, length, eqb, add-one, refl, sym, ap, subst, ◌∙◌, arith}
use Rattle.std.specs.Int.{bit_at}
use Rattle.std.proofs.lemmas.List.{length-map}
use Rattle.lnet_tables.specs.Bits.{number_by, is_set, bit_of}
use Rattle.lnet_tables.proofs.Shrunk.{number_same}
use Rattle.lnet_gates.specs.declared.signal.Signal.{Signal}
use Rattle.lnet_gates.specs.declared.gate.Op.{Op}
use Rattle.lnet_gates.specs.declared.gate.Op.TheVariants.{And, Xor, Maj, Lut}
use Rattle.lnet_gates.specs.Gates.{GateValue, row_of, operate}
use Rattle.lnet_gates.specs.Operands.{read}
use Rattle.lnet_gates.specs.LutForms.{HasCount, IsLutGate}
use Rattle.lnet_gates.specs.Wiring.{op_table}
use Rattle.lnet_gates.specs.Wiring.{signal_at, row_at}
use Rattle.lnet_gates.specs.Lawful.LutLaws.{six}

-- ---- the value of a gate's operation by its table

op-value : (op : Op) (bs : List Bool) → HasCount op (length bs) → eqb (bit_at (op_table op) (row_of bs)) 1 ≡ operate op bs
op-value And (true ∷ true ∷ []) h = refl
op-value And (true ∷ false ∷ []) h = refl
op-value And (false ∷ true ∷ []) h = refl
op-value And (false ∷ false ∷ []) h = refl
op-value Xor (true ∷ true ∷ []) h = refl
op-value Xor (true ∷ false ∷ []) h = refl
op-value Xor (false ∷ true ∷ []) h = refl
op-value Xor (false ∷ false ∷ []) h = refl
op-value Maj (true ∷ true ∷ true ∷ []) h = refl
op-value Maj (true ∷ true ∷ false ∷ []) h = refl
op-value Maj (true ∷ false ∷ true ∷ []) h = refl
op-value Maj (true ∷ false ∷ false ∷ []) h = refl
op-value Maj (false ∷ true ∷ true ∷ []) h = refl
op-value Maj (false ∷ true ∷ false ∷ []) h = refl
op-value Maj (false ∷ false ∷ true ∷ []) h = refl
op-value Maj (false ∷ false ∷ false ∷ []) h = refl
op-value (Lut t) bs h = refl
op-value And [] h = absurd (omega arith)
op-value And (a ∷ []) h = absurd (omega arith)
op-value And (a ∷ b ∷ c ∷ bs) h = absurd (omega arith)
op-value Xor [] h = absurd (omega arith)
op-value Xor (a ∷ []) h = absurd (omega arith)
op-value Xor (a ∷ b ∷ c ∷ bs) h = absurd (omega arith)
op-value Maj [] h = absurd (omega arith)
op-value Maj (a ∷ []) h = absurd (omega arith)
op-value Maj (a ∷ b ∷ []) h = absurd (omega arith)
op-value Maj (a ∷ b ∷ c ∷ d ∷ bs) h = absurd (omega arith)

-- a bit of a table, as a test
pub is-bit : (t r : ℕ) → is_set t r ≡ eqb (bit_at t r) 1
unfolding is_set
is-bit t r = refl

number-false : (f : ℕ → Bool) (n : ℕ) → ((k : ℕ) → f k ≡ false) → number_by f n ≡ 0
unfolding number_by
number-false f zero h = refl
number-false f (suc n) h =
    let rest : number_by (λ k. f (k + 1)) n ≡ 0 = number-false (λ k. f (k + 1)) n (λ k. h (k + 1)) in
    let low : bit_of (f 0) ≡ 0 = ap bit_of (h 0) in
    omega arith

-- the row that places read is that of the values in order
pub row-of-signals : (V : ℕ → Bool) → V 0 ≡ false → (ss : List Signal) (n : ℕ) → length ss ≤ n → number_by (λ k. read V (signal_at ss k)) n ≡ row_of (map (read V) ss)
unfolding number_by
row-of-signals V zero_false [] n le = number-false (λ k. read V (signal_at [] k)) n (λ k. zero_false)
row-of-signals V zero_false (s ∷ ss) zero le = absurd (omega arith)
row-of-signals V zero_false (s ∷ ss) (suc n) le =
    let rest : number_by (λ k. read V (signal_at (s ∷ ss) (k + 1))) n ≡ row_of (map (read V) ss) =
    number_same (λ k. read V (signal_at (s ∷ ss) (k + 1))) (λ k. read V (signal_at ss k)) n (λ k lt. ap (λ j. read V (signal_at (s ∷ ss) j)) (add-one k))
    ∙ row-of-signals V zero_false ss n (omega arith) in
    ap (λ q. bit_of (read V s) + 2 * q) rest

pub gate-computed : (V : ℕ → Bool) → V 0 ≡ false → (g : GateValue) (t : ℕ) (ss : List Signal) → IsLutGate g → t ≡ op_table g.op → ((k : ℕ) → signal_at ss k ≡ signal_at g.fanins k)
    → operate g.op (map (read V) g.fanins) ≡ is_set t (row_at V ss)
gate-computed V zero_false g t ss of table signals =
    sym (ap (is_set t) (number_same (λ k. read V (signal_at ss k)) (λ k. read V (signal_at g.fanins k)) 6 (λ k lt. ap (read V) (signals k)) ∙ row-of-signals V zero_false g.fanins 6 (six g.op (length g.fanins) of))
    ∙ is-bit t (row_of (map (read V) g.fanins))
    ∙ ap (λ x. eqb (bit_at x (row_of (map (read V) g.fanins))) 1) table
    ∙ op-value g.op (map (read V) g.fanins) (subst (HasCount g.op) (sym (length-map g.fanins (read V))) of))
