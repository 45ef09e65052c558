-- The normal form of a gate in a network of look-up tables: the table of its function over the nodes that the function
-- changes with, ascending. Source: canonical truth tables over the functional support, R. E. Bryant, "Graph-Based Algorithms
-- for Boolean Function Manipulation", IEEE Transactions on Computers 35 (1986), section 2.
use Rattle.std.specs.Prelude.{◌≡◌, ℕ, zero, suc, ◌/◌, ◌%◌, ◌^◌, ◌<◌, ◌≤◌, Bool, false, true, cond, ◌||◌, List, [], ◌∷◌, ◌++◌, map, length, eqb, max}
use Rattle.std.specs.Int.{bit_at}
use Rattle.lnet_tables.specs.Bits.{number_by}
use Rattle.lnet_gates.specs.declared.signal.Signal.{Signal}
use Rattle.lnet_gates.specs.declared.gate.Op.{Op}
use Rattle.lnet_gates.specs.declared.gate.Op.TheVariants.{And, Xor, Maj, Lut}
use Rattle.lnet_gates.specs.declared.normal.Normal.{Normal}
use Rattle.lnet_gates.specs.declared.normal.Normal.TheVariants.{Is, Gate}
use Rattle.lnet_gates.specs.Gates.{GateValue, KeyValue, flip}
use Rattle.lnet_gates.specs.Operands.{constant, IsNamedBy}
use Rattle.lnet_gates.specs.NormalLaws.{gate_reading, keyed_gate}

-- ---- gates

-- a count of fanins that an operation has in a network of look-up tables; a table has 64 bits
abbrev pub HasCount : Op → ℕ → Type 0
HasCount And n = n ≡ 2
HasCount Xor n = n ≡ 2
HasCount Maj n = n ≡ 3
HasCount (Lut t) n = (n ≤ 6) × (t < 2 ^ 64)

-- a gate that a network of look-up tables may have
abbrev pub IsLutGate : GateValue → Type 0
IsLutGate g = HasCount g.op (length g.fanins)

-- ---- functions of nodes

-- these values of the nodes, but false at node 0
abbrev pub grounded : (ℕ → Bool) → ℕ → Bool
grounded V zero = false
grounded V (suc n) = V (suc n)

-- these values of the nodes, but b at node n
abbrev pub put : (ℕ → Bool) → ℕ → Bool → ℕ → Bool
put V n b m = cond (eqb m n) b (V m)

-- each node is false
abbrev pub all_false : ℕ → Bool
all_false n = false

-- whether p holds for some values of the nodes below the bound, where the others are false
abbrev pub holds_somewhere : ℕ → ((ℕ → Bool) → Bool) → Bool
holds_somewhere zero p = p all_false
holds_somewhere (suc n) p = holds_somewhere n (λ V. p (put V n false) || p (put V n true))

-- whether the function f of the nodes below the bound changes with node n
abbrev pub changes_with : ((ℕ → Bool) → Bool) → ℕ → ℕ → Bool
changes_with f bound n = holds_somewhere bound (λ V. flip (f (put V n false)) (f (put V n true)))

-- the numbers below the bound that pass a test, ascending
abbrev pub passing : (ℕ → Bool) → ℕ → List ℕ
passing p zero = []
passing p (suc n) = passing p n ++ cond (p n) (n ∷ []) []

-- the nodes that the function f of the nodes below the bound changes with, ascending
abbrev pub support : ((ℕ → Bool) → Bool) → ℕ → List ℕ
support f bound = passing (changes_with f bound) bound

-- these nodes have these values, and each other node is false
abbrev pub assigned : List ℕ → List Bool → ℕ → Bool
assigned (n ∷ ns) (b ∷ bs) m = cond (eqb m n) b (assigned ns bs m)
assigned _ _ m = false

-- ---- forms

-- the k lowest bits of the number r, from the lowest on
abbrev pub lowest_bits : ℕ → ℕ → List Bool
lowest_bits zero r = []
lowest_bits (suc k) r = eqb (r % 2) 1 ∷ lowest_bits k (r / 2)

-- the table of f over these nodes, complemented where c: bit r is the value where node i of them is bit i of r
abbrev pub table_of : Bool → ((ℕ → Bool) → Bool) → List ℕ → ℕ
table_of c f ns = number_by (λ r. flip c (f (assigned ns (lowest_bits (length ns) r)))) (2 ^ length ns)

-- the signal of a node, complemented where c
abbrev pub signal_of : Bool → ℕ → Signal
signal_of c n = record { node = record { 0 = n }; complement = c }

-- the form of f over the nodes that it changes with: of no node a constant, of one node that node or its complement, and of
-- more nodes a table whose row 0 is false, with a phase
abbrev pub form_over : ((ℕ → Bool) → Bool) → List ℕ → Normal
form_over f [] = Is (constant (f all_false))
form_over f (n ∷ []) = Is (signal_of (f all_false) n)
form_over f (n ∷ m ∷ ns) = Gate (record { op = Lut (table_of (f all_false) f (n ∷ m ∷ ns)); fanins = map (signal_of false) (n ∷ m ∷ ns) }) (f all_false)

-- the form of the function f of the nodes below the bound
abbrev pub function_form : ((ℕ → Bool) → Bool) → ℕ → Normal
function_form f bound = form_over f (support f bound)

-- the value of a gate as a function of the values of nodes, where node 0 is false
abbrev pub function_of : GateValue → (ℕ → Bool) → Bool
function_of g V = gate_reading (grounded V) g

-- a number above each node of the signals
abbrev pub bound_of : List Signal → ℕ
bound_of [] = 0
bound_of (s ∷ ss) = max (suc s.node.0) (bound_of ss)

-- the normal form of a gate in a network of look-up tables: the form of its function
abbrev pub normal_lut : GateValue → Normal
normal_lut g = function_form (function_of g) (bound_of g.fanins)

-- ---- keys

-- plain signals of nodes from n on, each of a lower node than the next
abbrev pub AscendsFrom : ℕ → List Signal → Type 0
AscendsFrom n [] = Unit
AscendsFrom n (s ∷ ss) = (s.complement ≡ false) × (n ≤ s.node.0) × AscendsFrom (suc s.node.0) ss

-- what the key of a look-up table is: a table whose row 0 is false, over two or more plain operands, ascending, none of them
-- constant and none without influence
pub record IsTableKey (k : KeyValue) (phase : Bool) : Type 0 where
  pub table : ℕ
  pub op_is : k.op ≡ Lut table
  pub row_zero : bit_at table 0 ≡ 0
  pub clear : table < 2 ^ 2 ^ length k.fanins
  pub two : 2 ≤ length k.fanins
  pub operands : AscendsFrom 1 k.fanins
  pub needed : (n : ℕ) → IsNamedBy n k.fanins → changes_with (function_of (keyed_gate k phase)) (bound_of k.fanins) n ≡ true

-- a proper form: a signal, or a key of a look-up table
abbrev pub IsLutForm : Normal → Type 0
IsLutForm (Is s) = Unit
IsLutForm (Gate k phase) = IsTableKey k phase
