-- How bytes are cut into parts and words.
use Rattle.std.specs.Prelude.{ℕ, ◌+◌, Bool, ◌||◌, ◌==◌, nat_lt, List, [], ◌∷◌, length, take, drop, filter, position, Option, Some, None}
use Rattle.std.specs.List.{slice_split}

-- this byte
abbrev pub is_byte : ℕ → ℕ → Bool
is_byte c b = b == c

-- blanks are spaces and tabs
abbrev pub is_blank : ℕ → Bool
is_blank b = (b == 32) || (b == 9)

-- the parts between the bytes that separate
abbrev pub parts : (ℕ → Bool) → List ℕ → List (List ℕ)
parts separates bytes = slice_split separates bytes

-- what stands before the first byte that separates, and what behind it, if there is one
abbrev pub cut_of : (ℕ → Bool) → List ℕ → List ℕ × Option (List ℕ)
cut_of separates bytes = at (position separates bytes) where
  at : Option ℕ → List ℕ × Option (List ℕ)
  at None = (bytes, None)
  at (Some k) = (take k bytes, Some (drop (k + 1) bytes))

-- words: bytes that are not blank, one after the other
abbrev pub words_of : List ℕ → List (List ℕ)
words_of text = filter (λ word. nat_lt 0 (length word)) (parts is_blank text)

-- the word where there is exactly one
abbrev pub only_of : List (List ℕ) → Option (List ℕ)
only_of [] = None
only_of (word ∷ []) = Some word
only_of (word ∷ more ∷ words) = None

-- ---- cutting off one part after the other

-- the parts of what stands behind a cut
abbrev pub parts_behind : (ℕ → Bool) → Option (List ℕ) → List (List ℕ)
parts_behind separates None = []
parts_behind separates (Some rest) = parts separates rest

-- how many bytes are left behind a cut, with and without the separator
abbrev pub left : Option (List ℕ) → ℕ
left None = 0
left (Some rest) = length rest + 1

abbrev pub left_length : Option (List ℕ) → ℕ
left_length None = 0
left_length (Some rest) = length rest

-- the words of what stands behind a cut
abbrev pub words_behind : Option (List ℕ) → List (List ℕ)
words_behind rest = filter (λ word. nat_lt 0 (length word)) (parts_behind is_blank rest)
