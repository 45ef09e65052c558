-- Keys told apart, and their hash. Source: FxHash, the hash of the Rust compiler's tables.
use Rattle.std.specs.Prelude.{ℕ, ◌*◌, ◌/◌, ◌%◌, ◌^◌, Bool, List, ◌∷◌, map, fold, nat_eq, bit_xor}
use Rattle.std.specs.Int.{w64, rotate_left}
use Rattle.std.specs.Cmp.Lexicographic.{pointwise}
use Rattle.lnet_gates.specs.declared.gate.Op.{Op}
use Rattle.lnet_gates.specs.declared.gate.Op.TheVariants.{And, Xor, Maj, Lut}
use Rattle.lnet_gates.specs.Gates.{KeyValue}
use Rattle.lnet_gates.specs.Operands.{code}

-- the operation as a number
abbrev pub operation : Op → ℕ
operation And = 0
operation Xor = 1
operation Maj = 2
operation (Lut t) = 3

-- the operation's table, 0 where it has none
abbrev pub table : Op → ℕ
table (Lut t) = t
table _ = 0

-- the words that tell a key from others: its operation, its table and the codes of its fanins
abbrev pub words : KeyValue → List ℕ
words k = operation k.op ∷ table k.op ∷ map code k.fanins

-- whether two keys are one
abbrev pub is_key : KeyValue → KeyValue → Bool
is_key a b = pointwise nat_eq (words a) (words b)

-- a hash with one word more
unfoldable pub stirred : ℕ → ℕ → ℕ
stirred hash word = (bit_xor (rotate_left w64 hash 5) word * 5871781006564002453) % 2 ^ 64

-- the hash of a key
unfoldable pub hash_of : KeyValue → ℕ
hash_of k = fold (λ hash s. stirred hash (code s)) (stirred (stirred 0 (operation k.op)) (table k.op)) k.fanins

-- the chain of the key, where there are so many
unfoldable pub chain_of : ℕ → KeyValue → ℕ
chain_of chains k = (hash_of k / 2 ^ 32) % chains
