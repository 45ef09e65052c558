-- The names in a written text are words without the bytes that mark comments and joined lines.
use Rattle.std.proofs.Common.{◌≡◌, ℕ, ◌<◌, Bool, true, false, List, [], ◌∷◌, length, Option, refl, ap, ◌∙◌, arith}
use Rattle.std.specs.Prelude.{not, ◌&&◌, nat_lt, ◌==◌}
use Rattle.std.specs.Fmt.{digit_glyph, decimal}
use Rattle.std.specs.List.{list_all, flat_map}
use Rattle.std.proofs.lemmas.Bool.Decides.{nat_tests}
use Rattle.std.proofs.lemmas.List.Concat.{flat_map-cons}
use Rattle.lnet_edge.specs.declared.circuit.WireRef.{WireRef}
use Rattle.lnet_edge.specs.Circuits.{CircuitValue}
use Rattle.lnet_edge.specs.Names.{IsName}
use Rattle.lnet_words.specs.Cutting.{is_blank}
use Rattle.lnet_naming.specs.Settling.{is_text_byte, is_plain, made_name, input_labels, output_labels}
use Rattle.lnet_nodes.specs.Nodes.{label_of, node_name}
use Rattle.lnet_blifwriter.specs.Texts.{spaced, operand_names}
use Rattle.lnet_benchtext.specs.Written.{HasNames}
use Rattle.lnet_benchtext.proofs.Cutting.{both_true, true_both, all-append, all_weaker, some_bytes, IsWord}
use Rattle.lnet_benchtext.proofs.NameBytes.{is_line_byte}
use Rattle.lnet_benchtext.proofs.Decimals.{decimal-all}
use Rattle.lnet_benchtext.proofs.Labels.{Suits, plain_bytes, some_of, input_labels-suit, output_labels-suit, label_of-suit}

-- a byte of a line that neither begins a comment nor may let the line go on
abbrev pub is_kept_byte : ℕ → Bool
is_kept_byte b = is_line_byte b && not (b == 92)

-- a name as it is written: one byte or more, each as in names that are kept
abbrev pub is_written : List ℕ → Bool
is_written name = nat_lt 0 (length name) && list_all is_text_byte name

no_blank : (b : ℕ) → is_text_byte b ≡ true → not (is_blank b) ≡ true
no_blank b e = grind (arith, nat_tests)

kept_byte : (b : ℕ) → is_text_byte b ≡ true → is_kept_byte b ≡ true
kept_byte b e = grind (arith, nat_tests)

bytes_of : (name : List ℕ) → is_written name ≡ true → list_all is_text_byte name ≡ true
bytes_of name is = (both_true (nat_lt 0 (length name)) (list_all is_text_byte name) is).1

pub name_word : (name : List ℕ) → is_written name ≡ true → IsWord name
name_word name is = record {
  some = (both_true (nat_lt 0 (length name)) (list_all is_text_byte name) is).0;
  whole = all_weaker is_text_byte (λ b. not (is_blank b)) name no_blank (bytes_of name is);
}

pub name_kept : (name : List ℕ) → is_written name ≡ true → list_all is_kept_byte name ≡ true
name_kept name is = all_weaker is_text_byte is_kept_byte name kept_byte (bytes_of name is)

-- names, each behind a space
pub spaced_kept : (names : List (List ℕ)) → list_all is_written names ≡ true → list_all is_kept_byte (flat_map spaced names) ≡ true
spaced_kept [] all = refl
spaced_kept (x ∷ xs) all =
    let t = both_true (is_written x) (list_all is_written xs) all in
    ap (list_all is_kept_byte) (flat_map-cons spaced x xs) ∙ all-append is_kept_byte x (flat_map spaced xs) (name_kept x t.0) (spaced_kept xs t.1)

-- ---- made names and labels

glyph_byte : (d : ℕ) → d < 10 → is_text_byte (digit_glyph false d) ≡ true
glyph_byte d low = grind (arith, nat_tests)

pub made-written : (letter n : ℕ) → is_text_byte letter ≡ true → is_written (made_name letter n) ≡ true
made-written letter n is = true_both (nat_lt 0 (length (made_name letter n))) (list_all is_text_byte (made_name letter n)) (some_bytes 95 (letter ∷ decimal n)) (true_both (is_text_byte letter) (list_all is_text_byte (decimal n)) is (decimal-all is_text_byte glyph_byte n))

plain-written : (name : List ℕ) → IsName name → is_plain name ≡ true → is_written name ≡ true
plain-written name is plain = true_both (nat_lt 0 (length name)) (list_all is_text_byte name) (some_of name is) (plain_bytes name plain)

suits : (letter : ℕ) → is_text_byte letter ≡ true → Suits letter is_written
suits letter is = record { made = λ n. made-written letter n is; kept = plain-written }

pub input_labels-written : (c : CircuitValue) → HasNames c → list_all is_written (input_labels c.inputs) ≡ true
input_labels-written c has = input_labels-suit is_written c (suits 105 refl) has

pub output_labels-written : (c : CircuitValue) → HasNames c → list_all is_written (output_labels c.inputs c.outputs) ≡ true
output_labels-written c has = output_labels-suit is_written c (suits 111 refl) has

-- each node has a name that can be written
abbrev pub WritesNodes : (ℕ → Option (List ℕ)) → Type 0
WritesNodes label = (n : ℕ) → is_written (node_name label n) ≡ true

pub label_of-written : (c : CircuitValue) → HasNames c → WritesNodes (label_of c)
label_of-written c has = label_of-suit is_written c (suits 105 refl) (λ n. made-written 110 n refl) has

pub operand_names-written : (label : ℕ → Option (List ℕ)) (rs : List WireRef) → WritesNodes label → list_all is_written (operand_names label rs) ≡ true
operand_names-written label [] written = refl
operand_names-written label (r ∷ rs) written = true_both (is_written (node_name label r.wire.0)) (list_all is_written (operand_names label rs)) (written r.wire.0) (operand_names-written label rs written)
