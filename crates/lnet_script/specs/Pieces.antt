-- How the bytes of a script are cut: into lines, which lose their comments, into pieces, and into words.
use Rattle.std.specs.Prelude.{ℕ, ◌+◌, Bool, ◌||◌, ◌&&◌, not, ◌==◌, nat_lt, nat_le, List, [], ◌∷◌, ◌++◌, length, map, filter, Option}
use Rattle.std.specs.List.{before_first, list_all}
use Rattle.lnet_words.specs.Cutting.{is_byte, parts, parts_behind}

-- between words stand spaces, tabs and carriage returns
abbrev pub is_blank : ℕ → Bool
is_blank b = (b == 32) || (b == 9) || (b == 13)

-- a word has bytes from 33 to 126 other than `;` and `#`
abbrev pub is_word_byte : ℕ → Bool
is_word_byte b = nat_le 33 b && nat_le b 126 && not (b == 59) && not (b == 35)

-- a word has 1 to 255 of them
abbrev pub is_word : List ℕ → Bool
is_word word = nat_lt 0 (length word) && nat_le (length word) 255 && list_all is_word_byte word

-- the lines of a script, without their newlines
abbrev pub lines_of : List ℕ → List (List ℕ)
lines_of bytes = parts (is_byte 10) bytes

-- a line up to its comment
abbrev pub without_comment : List ℕ → List ℕ
without_comment line = before_first (is_byte 35) line

-- bytes that are not blank, one after the other
abbrev pub words_of : List ℕ → List (List ℕ)
words_of text = filter (λ word. nat_lt 0 (length word)) (parts is_blank text)

-- the words of a piece, and the line on which it stands
pub record Piece : Type 0 where
  pub line : ℕ
  pub words : List (List ℕ)

-- texts as pieces on a line; those without words are none
abbrev pub pieces_on : ℕ → List (List ℕ) → List Piece
pieces_on n texts = filter (λ p. nat_lt 0 (length p.words)) (map (λ text. record { line = n; words = words_of text }) texts)

-- the pieces of a line
abbrev pub line_pieces : ℕ → List ℕ → List Piece
line_pieces n line = pieces_on n (parts (is_byte 59) (without_comment line))

-- the pieces of lines, the first of which has this number
abbrev pub pieces_from : ℕ → List (List ℕ) → List Piece
pieces_from n [] = []
pieces_from n (line ∷ lines) = line_pieces n line ++ pieces_from (n + 1) lines

-- the pieces of a script
abbrev pub pieces_of : List ℕ → List Piece
pieces_of bytes = pieces_from 1 (lines_of bytes)

-- the words of what stands behind a cut
abbrev pub words_behind : Option (List ℕ) → List (List ℕ)
words_behind rest = filter (λ word. nat_lt 0 (length word)) (parts_behind is_blank rest)
