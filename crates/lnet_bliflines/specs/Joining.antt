-- The lines of the Berkeley Logic Interchange Format: `#` begins a comment to the line's end, and a line that then ends in `\` is
-- joined with the next one by a space. After "Berkeley Logic Interchange Format (BLIF)", University of California, Berkeley, 1992.
use Rattle.std.specs.Prelude.{ℕ, ◌+◌, ◌-◌, ◌==◌, Bool, List, [], ◌∷◌, ◌++◌, length, take, slice_index, Option, Some, None, if◌then◌else◌}
use Rattle.std.specs.List.{before_first}
use Rattle.lnet_words.specs.Cutting.{is_byte}

-- a line up to its comment
abbrev pub uncommented : List ℕ → List ℕ
uncommented line = before_first (is_byte 35) line

-- whether a line without its comment goes on in the next one: it ends in `\`
abbrev pub goes_on : List ℕ → Bool
goes_on piece = slice_index piece (length piece - 1) == 92

-- the line without that byte
abbrev pub shortened : List ℕ → List ℕ
shortened piece = take (length piece - 1) piece

-- a joined line: the number of its first line, its text, and the number of the line that isn't there, where the content ends in `\`
pub record Joined : Type 0 where
  pub number : ℕ
  pub text : List ℕ
  pub due : Option ℕ

-- what goes on, joined with the first of the later lines, whose number would be the second one
abbrev pub onto_next : ℕ → ℕ → List ℕ → List Joined → List Joined
onto_next n m start [] = record { number = n; text = start; due = Some m } ∷ []
onto_next n m start (next ∷ later) = record { number = n; text = start ++ 32 ∷ next.text; due = next.due } ∷ later

-- a line without its comment, before the later lines, whose first number is the second one
abbrev pub before_later : ℕ → ℕ → List ℕ → List Joined → List Joined
before_later n m piece later = if goes_on piece then onto_next n m (shortened piece) later else record { number = n; text = piece; due = None } ∷ later

-- the joined lines of lines, the first of which has this number
abbrev pub joined_from : ℕ → List (List ℕ) → List Joined
joined_from n [] = []
joined_from n (line ∷ lines) = before_later n (n + 1) (uncommented line) (joined_from (n + 1) lines)
