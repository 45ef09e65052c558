-- Digits of a word, and their value.
use Rattle.std.proofs.Common.{◌≡◌, ℕ, zero, suc, ◌<◌, ◌^◌, Bool, true, false, List, length, get_or, Option, None, Some, Result, Ok, Err, refl, sym, ap, ◌∙◌, arith}
use Rattle.std.specs.Prelude.{MatchOption, ◌&&◌, nat_lt, nat_le, drop, [], ◌∷◌, cond}
use Rattle.std.specs.Fmt.{decimal}
use Rattle.std.proofs.lemmas.Fmt.{decimal-digits_value, digits_decimal, digits_value-decimal, decimal_nonempty, decimal_digit, first_decimal}
use Rattle.std.proofs.lemmas.Option.{cond_some}
use Rattle.std.specs.Result.{result_ok}
use Rattle.std.specs.Str.{all_ascii_digits}
use Rattle.std.specs.Str.Parse.{digits_value, ParsesUnsigned}
use Rattle.std.proofs.lemmas.Str.Parse.{IsNumeralModel, numerals_by_value, tells_all_ascii_digits, parse_digits}
use Rattle.std.proofs.lemmas.Bool.Decides.{nat_tests}
use Rattle.lnet_gates.specs.declared.signal.Signal.{Signal}
use Rattle.lnet_script.specs.Spelling.{IsBetween, signal_word}
use Rattle.lnet_script.specs.Keywords.{is_numeral, long_number_of, where_passes, number_of, is_complemented, as_signal, signal_of, count_of}

pub own : IsNumeralModel (λ ds. all_ascii_digits ds ≡ true) (digits_value 10)
own = numerals_by_value _ tells_all_ascii_digits

numeral_by : (ds : List ℕ) → 0 < length ds → (1 < length ds → get_or ds 0 0 ≡ 48 → ⊥) → digits_value 10 ds < 2 ^ 64 → is_numeral ds ≡ true
numeral_by ds some first small = grind (arith, nat_tests)

not_numeral : (ds : List ℕ) → ((0 < length ds) × (digits_value 10 ds < 2 ^ 64) → ⊥) → is_numeral ds ≡ false
not_numeral ds none = grind (arith, nat_tests)

pub numeral_is : {E : Type 0} (ds : List ℕ) (r : Result ℕ E) → all_ascii_digits ds ≡ true → (1 < length ds → get_or ds 0 0 ≡ 48 → ⊥) → ParsesUnsigned 64 10 ds r → MatchOption (result_ok r) (is_numeral ds ≡ false) (λ n. (is_numeral ds ≡ true) × (n ≡ digits_value 10 ds))
numeral_is {E = E} ds (Ok x) all first parsed = let p = parse_digits own {E = E} 64 ds (Ok x) parsed all in (numeral_by ds p.0.0 first p.0.1, p.1)
numeral_is {E = E} ds (Err e) all first parsed = not_numeral ds (parse_digits own {E = E} 64 ds (Err e) parsed all)

both_true : (a b : Bool) → (a && b) ≡ true → (a ≡ true) × (b ≡ true)
both_true true b e = (refl, e)
both_true false b e = absurd cc

-- what a numeral says of its digits
numeral_parts : (ds : List ℕ) → is_numeral ds ≡ true → (0 < length ds) × (get_or ds 0 0 ≡ 48 → length ds ≡ 1) × (digits_value 10 ds < 2 ^ 64)
numeral_parts ds e = (grind (arith, nat_tests), grind (arith, nat_tests), grind (arith, nat_tests))

-- a number's word is its decimal digits
pub long_number_is : (word : List ℕ) (n : ℕ) → long_number_of word ≡ Some n → (word ≡ decimal n) × (n < 2 ^ 64)
unfolding long_number_of
long_number_is word n e =
    let g = cond_some (all_ascii_digits word && is_numeral word) (digits_value 10 word) n e in
    let b = both_true (all_ascii_digits word) (is_numeral word) g.0 in
    let p = numeral_parts word b.1 in
    let text : decimal (digits_value 10 word) ≡ word = decimal-digits_value own word b.0 p.0 p.1 (omega (arith, p.2)) in
    (sym text ∙ ap decimal g.1, omega (arith, p.2, g.1))

pub long_number_again : (n : ℕ) → n < 2 ^ 64 → long_number_of (decimal n) ≡ Some n
unfolding long_number_of
long_number_again n small =
    let all = digits_decimal own n (omega arith) in
    let value : digits_value 10 (decimal n) ≡ n = digits_value-decimal own n (omega arith) in
    let numeral : is_numeral (decimal n) ≡ true = numeral_by (decimal n) (decimal_nonempty n (omega arith)) (first_digit n (omega arith)) (omega (arith, value)) in
    rw (all, numeral, value) refl
  where
    first_digit : (n : ℕ) → n < 2 ^ 64 → 1 < length (decimal n) → get_or (decimal n) 0 0 ≡ 48 → ⊥
    first_digit zero small long e = omega (arith, ap length (decimal_digit 0 (omega arith)))
    first_digit (suc m) small long e = omega (arith, first_decimal (suc m) (omega arith) small)

-- ---- shorter numbers

passed : (passes : ℕ → Bool) (o : Option ℕ) (n : ℕ) → where_passes passes o ≡ Some n → (o ≡ Some n) × (passes n ≡ true)
passed passes None n e = absurd cc
passed passes (Some m) n e =
    let g = cond_some (passes m) m n e in
    (ap Some g.1, ap passes (sym g.1) ∙ g.0)

passes_on : (passes : ℕ → Bool) (o : Option ℕ) (n : ℕ) → o ≡ Some n → passes n ≡ true → where_passes passes o ≡ Some n
passes_on passes None n e p = absurd cc
passes_on passes (Some m) n e p = let same : m ≡ n = cc in rw same (rw p refl)

pub number_is : (word : List ℕ) (n : ℕ) → number_of word ≡ Some n → (word ≡ decimal n) × (n < 2 ^ 32)
unfolding number_of
number_is word n e =
    let p = passed (λ n. nat_lt n (2 ^ 32)) (long_number_of word) n e in
    ((long_number_is word n p.0).0, grind (arith, nat_tests, p.1))

pub number_again : (n : ℕ) → n < 2 ^ 32 → number_of (decimal n) ≡ Some n
unfolding number_of
number_again n small =
    let t : nat_lt n (2 ^ 32) ≡ true = grind (arith, nat_tests) in
    passes_on (λ n. nat_lt n (2 ^ 32)) (long_number_of (decimal n)) n (long_number_again n (omega arith)) t

pub count_is : (least most : ℕ) (word : List ℕ) (n : ℕ) → count_of least most word ≡ Some n → (word ≡ decimal n) × IsBetween least n most
unfolding count_of
count_is least most word n e =
    let p = passed (λ n. nat_le least n && nat_le n most) (number_of word) n e in
    let b = both_true (nat_le least n) (nat_le n most) p.1 in
    ((number_is word n p.0).0, (grind (arith, nat_tests, b.0), grind (arith, nat_tests, b.1)))

pub count_again : (least most n : ℕ) → IsBetween least n most → most < 2 ^ 32 → count_of least most (decimal n) ≡ Some n
unfolding count_of
count_again least most n between small =
    let low : nat_le least n ≡ true = grind (arith, nat_tests, between.0) in
    let high : nat_le n most ≡ true = grind (arith, nat_tests, between.1) in
    let t : (nat_le least n && nat_le n most) ≡ true = rw (low, high) refl in
    passes_on (λ n. nat_le least n && nat_le n most) (number_of (decimal n)) n (number_again n (omega (arith, between.1, small))) t

-- ---- signals

signal_same : (s t : Signal) → Some s ≡ Some t → s ≡ t
signal_same s t e = cc

signal_left : (complement : Bool) (o : Option ℕ) (s : Signal) → as_signal complement o ≡ Some s → (o ≡ Some s.node.0) × (s.complement ≡ complement)
signal_left complement None s e = absurd cc
signal_left complement (Some n) s e =
    let same = signal_same (record { node = record { 0 = n }; complement = complement }) s e in
    (ap (λ (t : Signal). Some t.node.0) same, sym (ap (λ (t : Signal). t.complement) same))

complemented_word : (word : List ℕ) → is_complemented word ≡ true → word ≡ 33 ∷ drop 1 word
complemented_word [] e = absurd cc
complemented_word (b ∷ bs) e = let same : b ≡ 33 = grind (arith, nat_tests) in ap (λ x. x ∷ bs) same

digits_plain : (word : List ℕ) → all_ascii_digits word ≡ true → is_complemented word ≡ false
digits_plain [] e = refl
digits_plain (b ∷ bs) e = grind (arith, nat_tests)

pub signal_is : (word : List ℕ) (s : Signal) → signal_of word ≡ Some s → (word ≡ signal_word s) × (s.node.0 < 2 ^ 32)
unfolding signal_of
signal_is word s e = by (is_complemented word) refl e where
  by : (t : Bool) → is_complemented word ≡ t → cond t (as_signal true (number_of (drop 1 word))) (as_signal false (number_of word)) ≡ Some s → (word ≡ signal_word s) × (s.node.0 < 2 ^ 32)
  by true t h =
      let l = signal_left true (number_of (drop 1 word)) s h in
      let n = number_is (drop 1 word) s.node.0 l.0 in
      (complemented_word word t ∙ ap (λ ds. 33 ∷ ds) n.0 ∙ sym (ap (λ c. cond c (33 ∷ decimal s.node.0) (decimal s.node.0)) l.1), n.1)
  by false t h =
      let l = signal_left false (number_of word) s h in
      let n = number_is word s.node.0 l.0 in
      (n.0 ∙ sym (ap (λ c. cond c (33 ∷ decimal s.node.0) (decimal s.node.0)) l.1), n.1)

pub signal_again : (s : Signal) → s.node.0 < 2 ^ 32 → signal_of (signal_word s) ≡ Some s
unfolding signal_of
signal_again s small = by s.complement refl where
  by : (c : Bool) → s.complement ≡ c → signal_of (cond s.complement (33 ∷ decimal s.node.0) (decimal s.node.0)) ≡ Some s
  by true t = rw t (rw (number_again s.node.0 small, ← t) refl)
  by false t =
      let plain = digits_plain (decimal s.node.0) (digits_decimal own s.node.0 (omega arith)) in
      rw t (rw (plain, number_again s.node.0 small, ← t) refl)
