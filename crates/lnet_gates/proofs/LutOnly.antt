-- Look-up tables: a form is the only one of its function.
use Rattle.std.proofs.Common.{◌≡◌, ℕ, zero, suc, ◌+◌, ◌*◌, ◌/◌, ◌%◌, ◌^◌, ◌<◌, ◌≤◌, Bool, true, false, cond, List, [], ◌∷◌, map, length, eqb, refl, sym, ap, subst, ◌∙◌, inl, inr, pow-suc, arith}
use Rattle.std.proofs.lemmas.Bool.{cases_lt}
use Rattle.std.proofs.lemmas.Nat.Bits.{bit_at-lt, bit_at_above, same_from_bits}
use Rattle.std.specs.Int.{bit_at}
use Rattle.lnet_tables.specs.Bits.{bit_of}
use Rattle.lnet_tables.specs.Inverse.{bit_inside, bit_outside}
use Rattle.lnet_gates.specs.declared.signal.Signal.{Signal}
use Rattle.lnet_gates.specs.declared.gate.Op.{Op}
use Rattle.lnet_gates.specs.declared.gate.Op.TheVariants.{Lut}
use Rattle.lnet_gates.specs.declared.normal.Normal.{Normal}
use Rattle.lnet_gates.specs.declared.normal.Normal.TheVariants.{Is, Gate}
use Rattle.lnet_gates.specs.Gates.{GateValue, KeyValue, flip, row_of, operate}
use Rattle.lnet_gates.specs.Operands.{read, IsNamedBy}
use Rattle.lnet_gates.specs.NormalLaws.{keyed_gate, gate_reading, form_reading}
use Rattle.lnet_gates.specs.LutForms.{AscendsFrom, IsTableKey, IsLutForm, grounded, all_false, changes_with, support, assigned, lowest_bits, table_of, signal_of, form_over, function_of, bound_of, normal_lut}
use Rattle.lnet_gates.specs.Lawful.OperandLemmas.{flip-comm, cond-true, cond-false, eqb-self, eqb-apart}
use Rattle.lnet_gates.specs.Lawful.NodeFunctions.{IsIn, in-passing, in-passes, changes-below}
use Rattle.lnet_gates.specs.Lawful.LutTables.{literal-form, flip-twice}
use Rattle.lnet_gates.specs.Lawful.LutLaws.{reads-gate, changing-named, same-form}
use Rattle.lnet_gates.proofs.Ascending.{Ascends, ascends-one, passing-ascends}

-- ---- plain signals in order

-- the nodes of the signals
abbrev nodes_in : List Signal → List ℕ
nodes_in [] = []
nodes_in (s ∷ ss) = s.node.0 ∷ nodes_in ss

length-nodes : (ss : List Signal) → length (nodes_in ss) ≡ length ss
length-nodes [] = refl
length-nodes (s ∷ ss) = ap suc (length-nodes ss)

signals-again : (ss : List Signal) (n : ℕ) → AscendsFrom n ss → ss ≡ map (signal_of false) (nodes_in ss)
signals-again [] n a = refl
signals-again (s ∷ ss) n a = λ i. record { node = s.node; complement = a.0 i } ∷ signals-again ss (suc s.node.0) a.2 i

nodes-from : (ss : List Signal) (n m : ℕ) → AscendsFrom n ss → IsIn m (nodes_in ss) → n ≤ m
nodes-from [] n m a h = absurd h
nodes-from (s ∷ ss) n m a (inl e) = let lt : n ≤ s.node.0 = a.1 in omega arith
nodes-from (s ∷ ss) n m a (inr h) = let lt : n ≤ s.node.0 = a.1 in let k : suc s.node.0 ≤ m = nodes-from ss (suc s.node.0) m a.2 h in omega arith

nodes-ascend : (ss : List Signal) (n : ℕ) → AscendsFrom n ss → Ascends (nodes_in ss)
nodes-ascend [] n a = tt
nodes-ascend (s ∷ ss) n a = (λ m h. nodes-from ss (suc s.node.0) m a.2 h, nodes-ascend ss (suc s.node.0) a.2)

named-in : (n : ℕ) (ss : List Signal) → IsNamedBy n ss → IsIn n (nodes_in ss)
named-in n [] h = h
named-in n (s ∷ ss) (inl e) = inl e
named-in n (s ∷ ss) (inr h) = inr (named-in n ss h)

in-named : (n : ℕ) (ss : List Signal) → IsIn n (nodes_in ss) → IsNamedBy n ss
in-named n [] h = h
in-named n (s ∷ ss) (inl e) = inl e
in-named n (s ∷ ss) (inr h) = inr (in-named n ss h)

grounded-pos : (V : ℕ → Bool) (m : ℕ) → 1 ≤ m → grounded V m ≡ V m
grounded-pos V zero h = absurd (omega arith)
grounded-pos V (suc m) h = refl

read-plain : (V : ℕ → Bool) (ss : List Signal) (n : ℕ) → 1 ≤ n → AscendsFrom n ss → map (read (grounded V)) ss ≡ map V (nodes_in ss)
read-plain V [] n pos a = refl
read-plain V (s ∷ ss) n pos a =
    let lt : n ≤ s.node.0 = a.1 in
    λ i. (ap (λ c. flip c (grounded V s.node.0)) a.0 ∙ grounded-pos V s.node.0 (omega arith)) i ∷ read-plain V ss (suc s.node.0) (omega arith) a.2 i

-- ---- rows and numbers

row-lowest : (k r : ℕ) → r < 2 ^ k → row_of (lowest_bits k r) ≡ r
row-lowest zero r h = omega arith
row-lowest (suc k) r h =
    let e : 2 ^ suc k ≡ 2 ^ k * 2 = pow-suc 2 k in
    let rest : row_of (lowest_bits k (r / 2)) ≡ r / 2 = row-lowest k (r / 2) (omega arith) in
    ap (λ q. cond (eqb (r % 2) 1) 1 0 + 2 * q) rest ∙ low r
  where
    bit : (b : ℕ) → b < 2 → cond (eqb b 1) 1 0 ≡ b
    bit zero h = refl
    bit (suc zero) h = refl
    bit (suc (suc b)) h = absurd (omega arith)

    low : (r : ℕ) → cond (eqb (r % 2) 1) 1 0 + 2 * (r / 2) ≡ r
    low r = let e : cond (eqb (r % 2) 1) 1 0 ≡ r % 2 = bit (r % 2) (omega arith) in omega arith

length-lowest : (k r : ℕ) → length (lowest_bits k r) ≡ k
length-lowest zero r = refl
length-lowest (suc k) r = ap suc (length-lowest k (r / 2))

map-alike : (V W : ℕ → Bool) (ns : List ℕ) → ((m : ℕ) → IsIn m ns → V m ≡ W m) → map V ns ≡ map W ns
map-alike V W [] h = refl
map-alike V W (n ∷ ns) h = λ i. h n (inl refl) i ∷ map-alike V W ns (λ m k. h m (inr k)) i

assigned-back : (ns : List ℕ) (bs : List Bool) → Ascends ns → length bs ≡ length ns → map (assigned ns bs) ns ≡ bs
assigned-back [] [] a h = refl
assigned-back [] (b ∷ bs) a h = absurd (omega arith)
assigned-back (n ∷ ns) [] a h = absurd (omega arith)
assigned-back (n ∷ ns) (b ∷ bs) a h =
    λ i. cond-true (eqb n n) b (assigned ns bs n) (eqb-self n) i
    ∷ (map-alike (assigned (n ∷ ns) (b ∷ bs)) (assigned ns bs) ns (λ m k. let lt : n < m = a.0 m k in cond-false (eqb m n) b (assigned ns bs m) (eqb-apart m n (λ e. absurd (omega arith)))) ∙ assigned-back ns bs a.1 (omega arith)) i

false-row : (ns : List ℕ) → row_of (map all_false ns) ≡ 0
false-row [] = refl
false-row (n ∷ ns) = let h : row_of (map all_false ns) ≡ 0 = false-row ns in omega arith

bit-again : (b : ℕ) → b < 2 → bit_of (eqb b 1) ≡ b
bit-again zero h = refl
bit-again (suc zero) h = refl
bit-again (suc (suc b)) h = absurd (omega arith)

whole : (f : (ℕ → Bool) → Bool) (ns : List ℕ) (k : KeyValue) (phase : Bool) (t : ℕ) → 2 ≤ length ns → k.op ≡ Lut t → k.fanins ≡ map (signal_of false) ns → f all_false ≡ phase → table_of phase f ns ≡ t
    → form_over f ns ≡ Gate k phase
whole f [] k phase t two op is off number = absurd (omega arith)
whole f (n ∷ []) k phase t two op is off number = absurd (omega arith)
whole f (n ∷ m ∷ ns) k phase t two op is off number =
    λ i. Gate (record { op = (ap (λ c. Lut (table_of c f (n ∷ m ∷ ns))) off ∙ ap Lut number ∙ sym op) i; fanins = sym is i }) (off i)

-- ---- a key's gate is its own form

module _ (k : KeyValue) (phase : Bool) (key : IsTableKey k phase) where
  abbrev f : (ℕ → Bool) → Bool
  f = function_of (keyed_gate k phase)

  abbrev ns : List ℕ
  ns = nodes_in k.fanins

  at : (V : ℕ → Bool) → f V ≡ flip phase (eqb (bit_at key.table (row_of (map V ns))) 1)
  at V = ap (λ (o : Op). flip phase (operate o (map (read (grounded V)) k.fanins))) key.op_is ∙ ap (λ bs. flip phase (eqb (bit_at key.table (row_of bs)) 1)) (read-plain V k.fanins 1 (omega arith) key.operands)

  kept : support f (bound_of k.fanins) ≡ ns
  kept = ascends-one (support f (bound_of k.fanins)) ns (passing-ascends (changes_with f (bound_of k.fanins)) (bound_of k.fanins)) (nodes-ascend k.fanins 1 key.operands)
      (λ n h. named-in n k.fanins (changing-named (keyed_gate k phase) n (in-passes (changes_with f (bound_of k.fanins)) (bound_of k.fanins) n h)))
      (λ n h. let c : changes_with f (bound_of k.fanins) n ≡ true = key.needed n (in-named n k.fanins h) in
      in-passing (changes_with f (bound_of k.fanins)) (bound_of k.fanins) n (changes-below f (bound_of k.fanins) n (reads-gate (keyed_gate k phase)) c) c)

  off : f all_false ≡ phase
  off = at all_false ∙ ap (λ r. flip phase (eqb (bit_at key.table r) 1)) (false-row ns) ∙ ap (λ b. flip phase (eqb b 1)) key.row_zero ∙ flip-comm phase false

  row : (r : ℕ) → r < 2 ^ length ns → flip phase (f (assigned ns (lowest_bits (length ns) r))) ≡ eqb (bit_at key.table r) 1
  row r lt =
      ap (flip phase) (at (assigned ns (lowest_bits (length ns) r)))
      ∙ flip-twice phase (eqb (bit_at key.table (row_of (map (assigned ns (lowest_bits (length ns) r)) ns))) 1)
      ∙ ap (λ bs. eqb (bit_at key.table (row_of bs)) 1) (assigned-back ns (lowest_bits (length ns) r) (nodes-ascend k.fanins 1 key.operands) (length-lowest (length ns) r))
      ∙ ap (λ q. eqb (bit_at key.table q) 1) (row-lowest (length ns) r lt)

  number : table_of phase f ns ≡ key.table
  number = same_from_bits (table_of phase f ns) key.table (λ i. elim (cases_lt i (2 ^ length ns)) as (λ _. bit_at (table_of phase f ns) i ≡ bit_at key.table i) [
    | inl lt ↦ bit_inside (λ r. flip phase (f (assigned ns (lowest_bits (length ns) r)))) (2 ^ length ns) i lt ∙ ap bit_of (row i lt) ∙ bit-again (bit_at key.table i) (bit_at-lt key.table i)
    | inr ge ↦ bit_outside (λ r. flip phase (f (assigned ns (lowest_bits (length ns) r)))) (2 ^ length ns) i ge ∙ sym (bit_at_above key.table (2 ^ length ns) i (subst (λ n. key.table < 2 ^ 2 ^ n) (sym (length-nodes k.fanins)) key.clear) ge)
  ])

  own-form : normal_lut (keyed_gate k phase) ≡ Gate k phase
  own-form = ap (form_over f) kept ∙ whole f ns k phase key.table (let e : length ns ≡ length k.fanins = length-nodes k.fanins in let t : 2 ≤ length k.fanins = key.two in omega arith) key.op_is (signals-again k.fanins 1 key.operands) off number

-- a form that has the value of a gate is the gate's normal form
pub only-form : (g : GateValue) (n : Normal) → IsLutForm n → ((V : ℕ → Bool) → V 0 ≡ false → form_reading V n ≡ gate_reading V g) → normal_lut g ≡ n
only-form g (Is s) proper means = literal-form (function_of g) (bound_of g.fanins) s (reads-gate g) (λ V. sym (means (grounded V) refl))
only-form g (Gate k phase) key means = same-form g (keyed_gate k phase) (λ V zero_false. sym (means V zero_false)) ∙ own-form k phase key
