-- The words that spell a command.
use Rattle.std.specs.Prelude.{◌≡◌, ℕ, ◌<◌, ◌≤◌, ◌^◌, List, [], ◌∷◌, codes, IsTrue, if◌then◌else◌}
use Rattle.std.specs.Fmt.{decimal}
use Rattle.lnet_gates.specs.declared.signal.Signal.{Signal}
use Rattle.lnet_gates.specs.declared.gate.Kind.{Kind}
use Rattle.lnet_gates.specs.KindWords.{kind_word}
use Rattle.lnet_model.specs.declared.view_spec.ViewSpec.TheVariants as views
use Rattle.lnet_script.specs.declared.command.Command.{Command}
use Rattle.lnet_script.specs.declared.command.Command.TheVariants.{Read, Write, Gen, View, Drop, Ask, Print, Stats, Simulate, Merge, Convert}
use Rattle.lnet_script.specs.declared.command.Query.TheVariants.{Level}
use Rattle.lnet_script.specs.declared.command.ReadFormat.{ReadFormat}
use Rattle.lnet_script.specs.declared.command.ReadFormat.TheVariants as reads
use Rattle.lnet_script.specs.declared.command.WriteFormat.{WriteFormat}
use Rattle.lnet_script.specs.declared.command.WriteFormat.TheVariants as writes
use Rattle.lnet_script.specs.Pieces.{is_word}

-- the word of a format that is read
abbrev pub read_word : ReadFormat → List ℕ
read_word reads.Aiger = codes "aiger"
read_word reads.Blif = codes "blif"
read_word reads.Bench = codes "bench"

-- the word of a format that is written
abbrev pub write_word : WriteFormat → List ℕ
write_word writes.Aag = codes "aag"
write_word writes.Aig = codes "aig"
write_word writes.Blif = codes "blif"
write_word writes.Bench = codes "bench"

-- the word of a signal: its node's number, behind `!` where it is complemented
abbrev pub signal_word : Signal → List ℕ
signal_word s = if s.complement then 33 ∷ decimal s.node.0 else decimal s.node.0

-- the number is between these two
abbrev pub IsBetween : ℕ → ℕ → ℕ → Type 0
IsBetween least n most = (least ≤ n) × (n ≤ most)

-- A command's words: those of its syntax in their order. A name is a word, and a number is its decimal digits, below
-- 2 ^ 32, and below 2 ^ 64 where a generated circuit starts. Commands and views that have no line here have no words.
abbrev pub Spells : List (List ℕ) → Command → Type 0
Spells words (Read format name kind) = IsTrue (is_word name) × (words ≡ codes "read" ∷ read_word format ∷ name ∷ kind_word kind ∷ [])
Spells words (Write format name) = IsTrue (is_word name) × (words ≡ codes "write" ∷ write_word format ∷ name ∷ [])
Spells words (Gen kind g) =
    IsBetween 1 g.inputs 4096 × IsBetween 0 g.gates 262144 × IsBetween 1 g.outputs 4096 × (g.start < 2 ^ 64)
    × (words ≡ codes "gen" ∷ kind_word kind ∷ decimal g.inputs ∷ decimal g.gates ∷ decimal g.outputs ∷ decimal g.start ∷ [])
Spells words (View views.Depth) = words ≡ codes "view" ∷ codes "depth" ∷ []
Spells words (View _) = ⊥
Spells words (Drop v) = (v < 2 ^ 32) × (words ≡ codes "drop" ∷ decimal v ∷ [])
Spells words (Ask v Level node) = (v < 2 ^ 32) × (node < 2 ^ 32) × (words ≡ codes "ask" ∷ decimal v ∷ codes "level" ∷ decimal node ∷ [])
Spells words Print = words ≡ codes "print" ∷ []
Spells words Stats = words ≡ codes "stats" ∷ []
Spells words (Simulate bits) = IsTrue (is_word bits) × (words ≡ codes "simulate" ∷ bits ∷ [])
Spells words (Merge node by) = (node < 2 ^ 32) × (by.node.0 < 2 ^ 32) × (words ≡ codes "merge" ∷ decimal node ∷ signal_word by ∷ [])
Spells words (Convert kind) = words ≡ codes "convert" ∷ kind_word kind ∷ []
