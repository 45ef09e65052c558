-- Reading the words of a piece as a command.
use Rattle.std.specs.Prelude.{ℕ, List, [], ◌∷◌, Option, Some, None}
use Rattle.lnet_script.specs.declared.command.Command.{Command}
use Rattle.lnet_script.specs.declared.command.Command.TheVariants.{Read, Write, Gen, View, Drop, Ask, Print, Stats, Simulate, Merge, Convert}
use Rattle.lnet_script.specs.declared.keywords.Verb.{Verb}
use Rattle.lnet_script.specs.declared.keywords.Verb.TheVariants as verbs
use Rattle.lnet_script.specs.Given.{◌>>=◌}
use Rattle.lnet_script.specs.Keywords.{verb_of, kind_of, read_format_of, write_format_of, view_of, query_of, long_number_of, number_of, signal_of, count_of, name_of}

-- ---- words one after the other

abbrev pub next_of : List (List ℕ) → Option (List ℕ × List (List ℕ))
next_of [] = None
next_of (w ∷ ws) = Some (w, ws)

abbrev pub no_word : List (List ℕ) → Option (Unit {0})
no_word [] = Some tt
no_word (w ∷ ws) = None

abbrev pub one_word : List (List ℕ) → Option (List ℕ)
one_word words = do
  first ← next_of words
  end ← no_word first.1
  Some first.0

abbrev pub two_words : List (List ℕ) → Option (List ℕ × List ℕ)
two_words words = do
  first ← next_of words
  second ← one_word first.1
  Some (first.0, second)

abbrev pub three_words : List (List ℕ) → Option (List ℕ × List ℕ × List ℕ)
three_words words = do
  first ← next_of words
  others ← two_words first.1
  Some (first.0, others.0, others.1)

abbrev pub five_words : List (List ℕ) → Option (List ℕ × List ℕ × List ℕ × List ℕ × List ℕ)
five_words words = do
  first ← next_of words
  second ← next_of first.1
  others ← three_words second.1
  Some (first.0, second.0, others.0, others.1, others.2)

-- ---- commands, by the words behind the first

unfoldable pub read_of : List (List ℕ) → Option Command
read_of words = do
  w ← three_words words
  format ← read_format_of w.0
  kind ← kind_of w.2
  name ← name_of w.1
  Some (Read format name kind)

unfoldable pub write_of : List (List ℕ) → Option Command
write_of words = do
  w ← two_words words
  format ← write_format_of w.0
  name ← name_of w.1
  Some (Write format name)

unfoldable pub generate_of : List (List ℕ) → Option Command
generate_of words = do
  w ← five_words words
  kind ← kind_of w.0
  inputs ← count_of 1 4096 w.1
  gates ← count_of 0 262144 w.2
  outputs ← count_of 1 4096 w.3
  start ← long_number_of w.4
  Some (Gen kind (record { inputs = inputs; gates = gates; outputs = outputs; start = start }))

unfoldable pub attach_of : List (List ℕ) → Option Command
attach_of words = do
  w ← one_word words
  view ← view_of w
  Some (View view)

unfoldable pub drop_of : List (List ℕ) → Option Command
drop_of words = do
  w ← one_word words
  v ← number_of w
  Some (Drop v)

unfoldable pub ask_of : List (List ℕ) → Option Command
ask_of words = do
  w ← three_words words
  v ← number_of w.0
  query ← query_of w.1
  node ← number_of w.2
  Some (Ask v query node)

unfoldable pub simulate_of : List (List ℕ) → Option Command
simulate_of words = do
  w ← one_word words
  bits ← name_of w
  Some (Simulate bits)

unfoldable pub merge_of : List (List ℕ) → Option Command
merge_of words = do
  w ← two_words words
  node ← number_of w.0
  s ← signal_of w.1
  Some (Merge node s)

unfoldable pub convert_of : List (List ℕ) → Option Command
convert_of words = do
  w ← one_word words
  kind ← kind_of w
  Some (Convert kind)

abbrev pub alone_of : Command → List (List ℕ) → Option Command
alone_of command words = do
  end ← no_word words
  Some command

-- the command of the words behind its first
abbrev pub behind : Verb → List (List ℕ) → Option Command
behind verbs.Read words = read_of words
behind verbs.Write words = write_of words
behind verbs.Gen words = generate_of words
behind verbs.View words = attach_of words
behind verbs.Drop words = drop_of words
behind verbs.Ask words = ask_of words
behind verbs.Print words = alone_of Print words
behind verbs.Stats words = alone_of Stats words
behind verbs.Simulate words = simulate_of words
behind verbs.Merge words = merge_of words
behind verbs.Convert words = convert_of words

-- the command that words are
unfoldable pub command_of : List (List ℕ) → Option Command
command_of words = do
  first ← next_of words
  verb ← verb_of first.0
  behind verb first.1
