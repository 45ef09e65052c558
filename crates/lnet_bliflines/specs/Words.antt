-- The words of joined lines, and the faults of their bytes: words are separated by spaces and tabs, and have bytes from 33 to 126.
use Rattle.std.specs.Prelude.{◌≡◌, ℕ, true, false, ◌==◌, ◌&&◌, ◌||◌, nat_lt, nat_le, Bool, List, [], ◌∷◌, length, map, Option, Some, None, Result, Ok, Err, if◌then◌else◌}
use Rattle.std.specs.Borrow.{Bor}
use Rattle.std.specs.List.{list_all}
use Rattle.lnet_edge.specs.declared.fault.Fault.{Fault}
use Rattle.lnet_edge.specs.declared.fault.Fault.TheVariants as faults
use Rattle.lnet_edge.specs.declared.fault.Malformed.{Malformed}
use Rattle.lnet_lines.specs.Lines.{Place, lines_of}
use Rattle.lnet_words.specs.Cutting.{words_of}
use Rattle.lnet_edge.specs.declared.fault.ReadError.{ReadError}
use Rattle.lnet_edge.specs.declared.fault.ReadError.TheVariants as errors
use Rattle.lnet_bliflines.specs.declared.joining.TextLine.{TextLine}
use Rattle.lnet_bliflines.specs.Joining.{goes_on, shortened, Joined, joined_from}

-- a byte that may stand outside comments: those of words, spaces and tabs
abbrev pub is_text_byte : ℕ → Bool
is_text_byte b = (nat_le 32 b && nat_le b 126) || (b == 9)

-- a word has one or more bytes from 33 to 126
abbrev pub is_word_byte : ℕ → Bool
is_word_byte b = nat_le 33 b && nat_le b 126

abbrev pub is_word : List ℕ → Bool
is_word word = nat_lt 0 (length word) && list_all is_word_byte word

-- a broken rule on a line
abbrev pub fault_on : ℕ → Fault → Malformed
fault_on line kind = record { line = line; kind = kind }

-- the number of a line and its words
pub record LineWords : Type 0 where
  pub number : ℕ
  pub words : List (List ℕ)

-- the words of a line whose bytes may all stand there, unless a line is missing behind it
abbrev pub words_unless : Joined → Option ℕ → Result LineWords Malformed
words_unless line None = Ok (record { number = line.number; words = words_of line.text })
words_unless line (Some due) = Err (fault_on due faults.Missing)

-- the words of a joined line, or its first fault
abbrev pub words_on : Joined → Result LineWords Malformed
words_on line = if list_all is_text_byte line.text then words_unless line line.due else Err (fault_on line.number faults.Syntax)

-- the words of each joined line of lines, the first of which has this number
abbrev pub words_from : ℕ → List (List ℕ) → List (Result LineWords Malformed)
words_from n lines = map words_on (joined_from n lines)

-- the same of a content
abbrev pub words_in : List ℕ → List (Result LineWords Malformed)
words_in bytes = words_from 1 (lines_of bytes)

-- ---- what functions return

-- the words of the lines that are due at a place
abbrev pub words_at : Place → List (Result LineWords Malformed)
words_at place = words_from place.number (lines_of place.rest)

-- words of the code
abbrev pub word_lists : List (Bor (List ℕ)) → List (List ℕ)
word_lists words = map (λ word. word.now) words

abbrev pub line_view : TextLine → LineWords
line_view line = record { number = line.number; words = word_lists line.words.items }

-- the first line of those that are due, and the others then: there is none, its words, or its fault unless memory ran out
abbrev pub TakesLine : Result (Option TextLine) ReadError → List (Result LineWords Malformed) → List (Result LineWords Malformed) → Type 0
TakesLine (Ok None) before after = before ≡ []
TakesLine (Ok (Some line)) before after = before ≡ Ok (line_view line) ∷ after
TakesLine (Err (errors.Malformed fault)) before after = (later : List (Result LineWords Malformed)) × (before ≡ Err fault ∷ later)
TakesLine (Err errors.NoMemory) before after = Unit {0}

-- whether what was read are words
abbrev pub are_words : Result (Option TextLine) ReadError → Bool
are_words (Ok (Some line)) = list_all is_word (word_lists line.words.items)
are_words (Ok None) = true
are_words (Err error) = true

-- how many words a line that was read has
abbrev pub word_count : Result (Option TextLine) ReadError → ℕ
word_count (Ok (Some line)) = length line.words.items
word_count (Ok None) = 0
word_count (Err error) = 0

-- what stands on a piece of a line besides the `\`
abbrev pub piece_text : List ℕ → List ℕ
piece_text piece = if goes_on piece then shortened piece else piece

-- what reading a piece of the line of this number answers: whether it goes on, or the fault of a byte, unless memory ran out
abbrev pub ReadsPiece : ℕ → List ℕ → Result Bool ReadError → Type 0
ReadsPiece number piece (Ok on) = (on ≡ goes_on piece) × (list_all is_text_byte (piece_text piece) ≡ true)
ReadsPiece number piece (Err (errors.Malformed fault)) = (fault ≡ fault_on number faults.Syntax) × (list_all is_text_byte (piece_text piece) ≡ false)
ReadsPiece number piece (Err errors.NoMemory) = Unit {0}
