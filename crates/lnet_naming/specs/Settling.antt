-- Which names of ports are kept in BLIF and BENCH texts, and what the others are called.
use Rattle.std.specs.Prelude.{ℕ, ◌+◌, Bool, true, false, not, ◌&&◌, ◌||◌, ◌==◌, nat_lt, nat_le, List, [], ◌∷◌, length, drop, slice_index, Option, Some, None, codes, if◌then◌else◌}
use Rattle.std.specs.Char.{is_ascii_digit}
use Rattle.std.specs.Fmt.{decimal}
use Rattle.std.specs.List.{list_all}
use Rattle.std.specs.Str.{str_eq_ignore_ascii_case}
use Rattle.lnet_edge.specs.declared.circuit.InputPort.{InputPort}
use Rattle.lnet_edge.specs.declared.circuit.OutputPort.{OutputPort}
use Rattle.lnet_edge.specs.Shown.{input_names, output_names}
use Rattle.lnet_naming.specs.declared.settling.Side.{Side}
use Rattle.lnet_naming.specs.declared.settling.Side.TheVariants.{Input, Output}
use Rattle.lnet_wires.specs.Naming.{is_seen, with_name}

-- bytes from 33 to 126 other than `(`, `)`, `,`, `=`, `#`, `\`, `;` and `"`
abbrev pub is_text_byte : ℕ → Bool
is_text_byte b = nat_le 33 b && nat_le b 126 && not (b == 40) && not (b == 41) && not (b == 44) && not (b == 61) && not (b == 35) && not (b == 92) && not (b == 59) && not (b == 34)

-- names are made with these letters: i, o, n and c
abbrev pub is_letter : ℕ → Bool
is_letter b = (b == 105) || (b == 111) || (b == 110) || (b == 99)

-- `_`, such a letter, and digits alone
abbrev pub is_made : List ℕ → Bool
is_made name = nat_lt 2 (length name) && (slice_index name 0 == 95) && is_letter (slice_index name 1) && list_all is_ascii_digit (drop 2 name)

-- the name of a constant, in any letter case
abbrev pub is_constant : List ℕ → Bool
is_constant name = str_eq_ignore_ascii_case name (codes "gnd") || str_eq_ignore_ascii_case name (codes "vdd")

-- the name stands in texts as it is, unless it stands there already
abbrev pub is_plain : List ℕ → Bool
is_plain name = list_all is_text_byte name && not (slice_index name 0 == 46) && not (is_constant name) && not (is_made name)

-- `i` for an input, and `o` for an output
abbrev pub letter_of : Side → ℕ
letter_of Input = 105
letter_of Output = 111

-- the name that is made with a letter of a number
abbrev pub made_name : ℕ → ℕ → List ℕ
made_name letter number = 95 ∷ letter ∷ decimal number

-- whether a name is kept, and the names that are kept then
abbrev pub keeps : List (List ℕ) → List ℕ → Bool × List (List ℕ)
keeps kept name = if is_plain name then (not (is_seen kept name), with_name kept name) else (false, kept)

abbrev pub settle_by : List ℕ → List ℕ → Bool × List (List ℕ) → List ℕ × List (List ℕ)
settle_by made name (true, kept) = (name, kept)
settle_by made name (false, kept) = (made, kept)

-- the name of one port, and the names that are kept then
abbrev pub settle : ℕ → ℕ → List (List ℕ) → Option (List ℕ) → List ℕ × List (List ℕ)
settle letter place kept None = (made_name letter place, kept)
settle letter place kept (Some name) = settle_by (made_name letter place) name (keeps kept name)

-- the same of ports one after the other, the first of which has this place
abbrev pub settle_all : ℕ → ℕ → List (List ℕ) → List (Option (List ℕ)) → List (List ℕ) × List (List ℕ)
settle_all letter place kept [] = ([], kept)
settle_all letter place kept (name ∷ names) = ((settle letter place kept name).0 ∷ (settle_all letter (place + 1) (settle letter place kept name).1 names).0, (settle_all letter (place + 1) (settle letter place kept name).1 names).1)

-- the names of a circuit's ports: inputs first, then outputs
abbrev pub input_labels : List InputPort → List (List ℕ)
input_labels inputs = (settle_all 105 0 [] (input_names inputs)).0

abbrev pub output_labels : List InputPort → List OutputPort → List (List ℕ)
output_labels inputs outputs = (settle_all 111 0 (settle_all 105 0 [] (input_names inputs)).1 (output_names outputs)).0
