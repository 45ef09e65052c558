-- The words of gates give their rules.
use Rattle.std.proofs.Common.{◌≡◌, ℕ, zero, suc, ◌<◌, ◌≤◌, ◌^◌, Bool, true, false, cond, ltb, List, [], ◌∷◌, ◌++◌, length, Option, Some, None, Result, Ok, Err, codes, refl, ap, ◌∙◌, arith}
use Rattle.std.specs.Prelude.{not, ◌&&◌, nat_lt, nat_le}
use Rattle.std.specs.Char.{is_ascii_hexdigit}
use Rattle.std.specs.List.{list_all}
use Rattle.std.specs.Str.Parse.{digits_value}
use Rattle.std.proofs.lemmas.Bool.Decides.{nat_tests}
use Rattle.lnet_edge.specs.declared.fault.Fault.{Fault}
use Rattle.lnet_edge.specs.declared.fault.Fault.TheVariants as faults
use Rattle.lnet_edge.specs.declared.circuit.Rule.{Rule}
use Rattle.lnet_edge.specs.declared.circuit.Rule.TheVariants.{And, Xor, Lut}
use Rattle.lnet_words.specs.Cutting.{is_byte, words_of}
use Rattle.lnet_bench.specs.Gates.{gate_rule, other_gate_rule, is_table, table_of, fits_rows, rule_of_table, table_rule}
use Rattle.lnet_bench.specs.Statements.{is_name_byte, is_name, rule_of}
use Rattle.lnet_tables.specs.Digits.{digit_count, hex_digits}
use Rattle.lnet_benchwriter.specs.Texts.{gate_word}
use Rattle.lnet_benchtext.proofs.Cutting.{true_both, some_bytes, all-append, words_before}
use Rattle.lnet_benchtext.proofs.NameBytes.{is_line_byte, opens_none, name_line, name_word}
use Rattle.lnet_benchtext.proofs.Decimals.{length-hex_digits, hex_digits-hex, hex_digits-names, digits_value-hex}
use Rattle.lnet_benchtext.proofs.Lines.{IsWordOf}

pub and_word : (complement : Bool) (count : ℕ) → IsWordOf (gate_word (And complement)) (And complement) count
unfolding gate_rule
and_word true count = record { unopened = refl; bytes = refl; means = refl }
and_word false count = record { unopened = refl; bytes = refl; means = refl }

pub xor_word : (complement : Bool) (count : ℕ) → IsWordOf (gate_word (Xor complement)) (Xor complement) count
unfolding gate_rule
xor_word true count = record { unopened = refl; bytes = refl; means = refl }
xor_word false count = record { unopened = refl; bytes = refl; means = refl }

-- of one operand
pub not_word : IsWordOf (codes "NOT") (And true) 1
unfolding gate_rule other_gate_rule
not_word = record { unopened = refl; bytes = refl; means = refl }

pub buff_word : IsWordOf (codes "BUFF") (And false) 1
unfolding gate_rule other_gate_rule
buff_word = record { unopened = refl; bytes = refl; means = refl }

-- ---- tables

-- a table of so many operands fits into its digits
pub record FitsDigits (count table : ℕ) : Type 0 where
  pub some : nat_lt 0 (digit_count count) ≡ true
  pub few : nat_le (digit_count count) 16 ≡ true
  pub digits : table < 16 ^ digit_count count
  pub small : nat_lt table (2 ^ 64) ≡ true
  pub rows : fits_rows table count ≡ true

is_less : {m n : ℕ} → m < n → ltb m n ≡ true
is_less h = grind (arith, nat_tests)

pub fits : (count table : ℕ) → count ≤ 6 → table < 2 ^ (2 ^ count) → FitsDigits count table
fits zero table few low = record { some = refl; few = refl; digits = omega arith; small = is_less (omega arith); rows = is_less low }
fits (suc zero) table few low = record { some = refl; few = refl; digits = omega arith; small = is_less (omega arith); rows = is_less low }
fits (suc (suc zero)) table few low = record { some = refl; few = refl; digits = omega arith; small = is_less (omega arith); rows = is_less low }
fits (suc (suc (suc zero))) table few low = record { some = refl; few = refl; digits = omega arith; small = is_less (omega arith); rows = is_less low }
fits (suc (suc (suc (suc zero)))) table few low = record { some = refl; few = refl; digits = omega arith; small = is_less (omega arith); rows = is_less low }
fits (suc (suc (suc (suc (suc zero))))) table few low = record { some = refl; few = refl; digits = omega arith; small = is_less (omega arith); rows = is_less low }
fits (suc (suc (suc (suc (suc (suc zero)))))) table few low = record { some = refl; few = refl; digits = omega arith; small = is_less low; rows = refl }
fits (suc (suc (suc (suc (suc (suc (suc n))))))) table few low = absurd (omega arith)

abbrev table_bytes : ℕ → ℕ → List ℕ
table_bytes digits table = codes "0x" ++ hex_digits digits table

table_name : (digits table : ℕ) → is_name (table_bytes digits table) ≡ true
table_name digits table = true_both (nat_lt 0 (length (table_bytes digits table))) (list_all is_name_byte (table_bytes digits table)) (some_bytes 48 (120 ∷ hex_digits digits table)) (hex_digits-names digits table)

-- the words before the operands
table_words : (digits table : ℕ) → words_of (32 ∷ (codes "LUT 0x" ++ (hex_digits digits table ++ codes " "))) ≡ codes "LUT" ∷ table_bytes digits table ∷ []
table_words digits table =
    words_before (codes "LUT") (table_bytes digits table ++ 32 ∷ []) (record { some = refl; whole = refl })
    ∙ ap (λ (ws : List (List ℕ)). codes "LUT" ∷ ws) (words_before (table_bytes digits table) [] (name_word (table_bytes digits table) (table_name digits table)))

picked : (a b : Bool) (v t : ℕ) → a ≡ true → b ≡ true → v ≡ t → cond (a && b) (Some v) None ≡ Some t
picked a b v t first second same = rw (first, second) (ap Some same)

abbrev ok_rule : Rule → Result Rule Fault
ok_rule rule = Ok rule

chosen : (a b : Bool) (rule : Rule) → a ≡ false → b ≡ true → cond a (Err faults.Syntax) (cond b (ok_rule rule) (Err faults.Cover)) ≡ ok_rule rule
chosen a b rule first second = rw (first, second) refl

table_is : (count table : ℕ) → FitsDigits count table → table_of (hex_digits (digit_count count) table) ≡ Some table
unfolding table_of
table_is count table fit =
    let length_is = length-hex_digits (digit_count count) table in
    let value_is = digits_value-hex (digit_count count) table fit.digits in
    let some : nat_lt 0 (length (hex_digits (digit_count count) table)) ≡ true = ap (nat_lt 0) length_is ∙ fit.some in
    let few : nat_le (length (hex_digits (digit_count count) table)) 16 ≡ true = ap (λ (n : ℕ). nat_le n 16) length_is ∙ fit.few in
    let is : is_table (hex_digits (digit_count count) table) ≡ true = true_both (nat_lt 0 (length (hex_digits (digit_count count) table)) && nat_le (length (hex_digits (digit_count count) table)) 16) (list_all is_ascii_hexdigit (hex_digits (digit_count count) table)) (true_both (nat_lt 0 (length (hex_digits (digit_count count) table))) (nat_le (length (hex_digits (digit_count count) table)) 16) some few) (hex_digits-hex (digit_count count) table) in
    picked (is_table (hex_digits (digit_count count) table)) (nat_lt (digits_value 16 (hex_digits (digit_count count) table)) (2 ^ 64)) (digits_value 16 (hex_digits (digit_count count) table)) table is (ap (λ (n : ℕ). nat_lt n (2 ^ 64)) value_is ∙ fit.small) value_is

rule_is : (count table : ℕ) → count ≤ 6 → FitsDigits count table → table_rule (table_bytes (digit_count count) table) count ≡ Ok (Lut table)
unfolding table_rule
rule_is count table few fit =
    let within : nat_lt 6 count ≡ false = grind (arith, nat_tests) in
    ap (λ (t : Option ℕ). rule_of_table t count) (table_is count table fit) ∙ chosen (nat_lt 6 count) (fits_rows table count) (Lut table) within fit.rows

with_name : (a : Bool) (r : Result Rule Fault) (rule : Rule) → a ≡ true → r ≡ ok_rule rule → cond (a && true) r (Err faults.Syntax) ≡ ok_rule rule
with_name a r rule first is = rw first is

pub table_word : (count table : ℕ) → count ≤ 6 → table < 2 ^ (2 ^ count) → IsWordOf (codes "LUT 0x" ++ (hex_digits (digit_count count) table ++ codes " ")) (Lut table) count
table_word count table few low =
    let name = table_name (digit_count count) table in
    record {
      unopened = all-append (λ b. not (is_byte 40 b)) (table_bytes (digit_count count) table) (codes " ") (opens_none (table_bytes (digit_count count) table) name) refl;
      bytes = all-append is_line_byte (table_bytes (digit_count count) table) (codes " ") (name_line (table_bytes (digit_count count) table) name) refl;
      means = ap (λ (ws : List (List ℕ)). rule_of ws count) (table_words (digit_count count) table) ∙ with_name (is_name (table_bytes (digit_count count) table)) (table_rule (table_bytes (digit_count count) table) count) (Lut table) name (rule_is count table few (fits count table few low));
    }
