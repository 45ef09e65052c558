-- Gates as contracts see them, and what they compute. Source: the textbook meaning of the gates.
use Rattle.std.specs.Prelude.{ℕ, ◌+◌, ◌*◌, Bool, false, cond, not, ◌&&◌, ◌||◌, List, [], ◌∷◌, eqb}
use Rattle.std.specs.Int.{bit_at}
use Rattle.lnet_gates.specs.declared.signal.Signal.{Signal}
use Rattle.lnet_gates.specs.declared.gate.Op.{Op}
use Rattle.lnet_gates.specs.declared.gate.Op.TheVariants.{And, Xor, Maj, Lut}

-- a gate is its operation, its phase and the list of its fanins
pub record GateValue : Type 0 where
  pub op : Op
  pub phase : Bool
  pub fanins : List Signal

-- a key is an operation and the list of its fanins: a gate but for its phase
pub record KeyValue : Type 0 where
  pub op : Op
  pub fanins : List Signal

-- a bit, complemented where the flag is set
abbrev pub flip : Bool → Bool → Bool
flip c b = cond c (not b) b

-- the number whose bit i is the bit at place i
abbrev pub row_of : List Bool → ℕ
row_of [] = 0
row_of (b ∷ bs) = cond b 1 0 + 2 * row_of bs

-- both of two
abbrev pub and_of : List Bool → Bool
and_of (a ∷ b ∷ []) = a && b
and_of _ = false

-- exactly one of two
abbrev pub xor_of : List Bool → Bool
xor_of (a ∷ b ∷ []) = flip a b
xor_of _ = false

-- at least two of three
abbrev pub maj_of : List Bool → Bool
maj_of (a ∷ b ∷ c ∷ []) = (a && b) || (c && (a || b))
maj_of _ = false

-- the operation on the fanins' values
abbrev pub operate : Op → List Bool → Bool
operate And bs = and_of bs
operate Xor bs = xor_of bs
operate Maj bs = maj_of bs
operate (Lut t) bs = eqb (bit_at t (row_of bs)) 1

-- the value of a gate of this operation and phase, on its fanins' values
abbrev pub apply : Op → Bool → List Bool → Bool
apply op phase bs = flip phase (operate op bs)
