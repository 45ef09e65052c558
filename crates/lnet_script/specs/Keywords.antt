-- What one word stands for: a keyword, a number or a name.
use Rattle.std.specs.Prelude.{ℕ, ◌^◌, Bool, true, false, not, ◌&&◌, ◌==◌, nat_lt, nat_le, List, [], ◌∷◌, length, drop, slice_index, Option, Some, None, find, codes, if◌then◌else◌}
use Rattle.std.specs.Str.{bytes_eq, all_ascii_digits}
use Rattle.std.specs.Str.Parse.{digits_value}
use Rattle.lnet_gates.specs.declared.signal.Signal.{Signal}
use Rattle.lnet_gates.specs.declared.gate.Kind.{Kind}
use Rattle.lnet_gates.specs.declared.gate.Kind.TheVariants.{Aig, Xag, Mig, Klut}
use Rattle.lnet_script.specs.declared.command.Query.{Query}
use Rattle.lnet_script.specs.declared.command.Query.TheVariants.{Level}
use Rattle.lnet_model.specs.declared.view_spec.ViewSpec.{ViewSpec}
use Rattle.lnet_model.specs.declared.view_spec.ViewSpec.TheVariants as views
use Rattle.lnet_script.specs.declared.command.ReadFormat.{ReadFormat}
use Rattle.lnet_script.specs.declared.command.ReadFormat.TheVariants as reads
use Rattle.lnet_script.specs.declared.command.WriteFormat.{WriteFormat}
use Rattle.lnet_script.specs.declared.command.WriteFormat.TheVariants as writes
use Rattle.lnet_script.specs.declared.keywords.Verb.{Verb}
use Rattle.lnet_script.specs.declared.keywords.Verb.TheVariants as verbs
use Rattle.lnet_gates.specs.KindWords.{kind_word}
use Rattle.lnet_script.specs.Spelling.{read_word, write_word}
use Rattle.lnet_script.specs.Pieces.{is_word}

-- the first word of a command
abbrev pub verb_word : Verb → List ℕ
verb_word verbs.Read = codes "read"
verb_word verbs.Write = codes "write"
verb_word verbs.Gen = codes "gen"
verb_word verbs.View = codes "view"
verb_word verbs.Drop = codes "drop"
verb_word verbs.Ask = codes "ask"
verb_word verbs.Print = codes "print"
verb_word verbs.Stats = codes "stats"
verb_word verbs.Simulate = codes "simulate"
verb_word verbs.Merge = codes "merge"
verb_word verbs.Convert = codes "convert"

-- the command that a word begins
abbrev pub verb_of : List ℕ → Option Verb
verb_of word = find (λ v. bytes_eq (verb_word v) word) (verbs.Read ∷ verbs.Write ∷ verbs.Gen ∷ verbs.View ∷ verbs.Drop ∷ verbs.Ask ∷ verbs.Print ∷ verbs.Stats ∷ verbs.Simulate ∷ verbs.Merge ∷ verbs.Convert ∷ [])

-- the kind of networks that a word names
abbrev pub kind_of : List ℕ → Option Kind
kind_of word = find (λ k. bytes_eq (kind_word k) word) (Aig ∷ Xag ∷ Mig ∷ Klut ∷ [])

-- this value where the word is that text
abbrev pub if_word : {A : Type 0} → List ℕ → A → List ℕ → Option A
if_word text x word = if bytes_eq text word then Some x else None

-- the formats, the views of one word, and what views are asked for
abbrev pub read_format_of : List ℕ → Option ReadFormat
read_format_of word = find (λ f. bytes_eq (read_word f) word) (reads.Aiger ∷ reads.Blif ∷ reads.Bench ∷ [])

abbrev pub write_format_of : List ℕ → Option WriteFormat
write_format_of word = find (λ f. bytes_eq (write_word f) word) (writes.Aag ∷ writes.Aig ∷ writes.Blif ∷ writes.Bench ∷ [])

abbrev pub view_of : List ℕ → Option ViewSpec
view_of word = if_word (codes "depth") views.Depth word

abbrev pub query_of : List ℕ → Option Query
query_of word = if_word (codes "level") Level word

-- digits without a leading zero, for a number below 2 ^ 64
abbrev pub is_numeral : List ℕ → Bool
is_numeral ds = nat_lt 0 (length ds) && not (nat_lt 1 (length ds) && (slice_index ds 0 == 48)) && nat_lt (digits_value 10 ds) (2 ^ 64)

-- the number of a word, below 2 ^ 64
unfoldable pub long_number_of : List ℕ → Option ℕ
long_number_of word = if all_ascii_digits word && is_numeral word then Some (digits_value 10 word) else None

-- the number that is read, where it passes
abbrev pub where_passes : (ℕ → Bool) → Option ℕ → Option ℕ
where_passes passes None = None
where_passes passes (Some n) = if passes n then Some n else None

-- the number of a word, below 2 ^ 32
unfoldable pub number_of : List ℕ → Option ℕ
number_of word = where_passes (λ n. nat_lt n (2 ^ 32)) (long_number_of word)

-- the word begins with `!`
abbrev pub is_complemented : List ℕ → Bool
is_complemented [] = false
is_complemented (b ∷ bs) = b == 33

-- the signal of a node's number
abbrev pub as_signal : Bool → Option ℕ → Option Signal
as_signal complement None = None
as_signal complement (Some n) = Some (record { node = record { 0 = n }; complement = complement })

-- the signal of a word: a number, or `!` and a number
unfoldable pub signal_of : List ℕ → Option Signal
signal_of word = if is_complemented word then as_signal true (number_of (drop 1 word)) else as_signal false (number_of word)

-- the number of a word, between these two
unfoldable pub count_of : ℕ → ℕ → List ℕ → Option ℕ
count_of least most word = where_passes (λ n. nat_le least n && nat_le n most) (number_of word)

-- the name that a word is
unfoldable pub name_of : List ℕ → Option (List ℕ)
name_of word = if is_word word then Some word else None
