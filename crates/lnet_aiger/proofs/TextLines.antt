-- Lines and numbers of written texts.
use Rattle.std.proofs.Common.{◌≡◌, ◌≢◌, ℕ, zero, suc, ◌+◌, ◌-◌, ◌<◌, ◌≤◌, Bool, true, false, not, cond, eqb, ltb, leb, List, [], ◌∷◌, ◌++◌, length, take, drop, get_or, Option, Some, refl, sym, ap, ◌∙◌, append_assoc, arith, length-append, lit<}
use Rattle.std.specs.Prelude.{◌&&◌}
use Rattle.std.specs.Char.{is_ascii_digit}
use Rattle.std.specs.Fmt.{decimal}
use Rattle.std.specs.List.{slice_split, onto_first, before_first, position_or_len}
use Rattle.std.specs.Str.{all_ascii_digits}
use Rattle.std.specs.Str.Parse.{digits_value}
use Rattle.std.proofs.lemmas.Bool.{false≢true}
use Rattle.std.proofs.lemmas.Bool.Decides.{nat_tests}
use Rattle.std.proofs.lemmas.Fmt.{digits_decimal, digits_value-decimal, decimal_nonempty, length-decimal-le}
use Rattle.std.proofs.lemmas.List.{take_at, drop_at}
use Rattle.lnet_lines.specs.Lines.{is_newline, lines_of, without_return, first_line, after_line}
use Rattle.lnet_lines.specs.Numbers.{number_of}
use Rattle.lnet_lines.proofs.Digits.{own}
use Rattle.lnet_lines.proofs.Steps.{lines_of-step}
use Rattle.lnet_aiger.specs.Header.{is_space, onto_numbers, all_numbers, numbers_of}

-- each byte is 32 or more
abbrev pub AreText : List ℕ → Type 0
AreText [] = Unit {0}
AreText (b ∷ bs) = (32 ≤ b) × AreText bs

pub text-append : (xs ys : List ℕ) → AreText xs → AreText ys → AreText (xs ++ ys)
text-append [] ys tx ty = ty
text-append (x ∷ xs) ys tx ty = (tx.0, text-append xs ys tx.1 ty)

both : (a b : Bool) → (a && b) ≡ true → (a ≡ true) × (b ≡ true)
both true b e = (refl, e)
both false b e = absurd (false≢true e)

digit_range : (c : ℕ) → is_ascii_digit c ≡ true → (48 ≤ c) × (c ≤ 57)
digit_range c e = (grind (arith, nat_tests), grind (arith, nat_tests))

pub text-digits : (ds : List ℕ) → all_ascii_digits ds ≡ true → AreText ds
text-digits [] all = tt
text-digits (d ∷ ds) all = let b = both (is_ascii_digit d) (all_ascii_digits ds) all in let r = digit_range d b.0 in (omega arith, text-digits ds b.1)

pub decimal_digits : (n : ℕ) → n ≤ 2147483647 → all_ascii_digits (decimal n) ≡ true
decimal_digits n small = digits_decimal own n (omega arith)

pub text-decimal : (n : ℕ) → n ≤ 2147483647 → AreText (decimal n)
text-decimal n small = text-digits (decimal n) (decimal_digits n small)

-- ---- a line

newline_at : (text rest : List ℕ) → AreText text → position_or_len is_newline (text ++ 10 ∷ rest) ≡ length text
newline_at [] rest text = refl
newline_at (b ∷ bs) rest text =
    let t : not (is_newline b) ≡ true = let h = text.0 in grind (arith, nat_tests) in
    ap (λ (u : Bool). cond u (1 + position_or_len is_newline (bs ++ 10 ∷ rest)) 0) t ∙ omega (arith, newline_at bs rest text.1)

no_return : (text : List ℕ) (k : ℕ) → AreText text → eqb (get_or text k 0) 13 ≡ false
no_return [] k text = refl
no_return (b ∷ bs) zero text = let h = text.0 in grind (arith, nat_tests)
no_return (b ∷ bs) (suc k) text = no_return bs k text.1

kept_whole : (text : List ℕ) → AreText text → without_return text ≡ text
kept_whole text is = ap (λ (b : Bool). cond b (take (length text - 1) text) text) (no_return text (length text - 1) is)

pub first_line-text : (text rest : List ℕ) → AreText text → first_line (text ++ 10 ∷ rest) ≡ text
first_line-text text rest is =
    let at = newline_at text rest is in
    let len = length-append text (10 ∷ rest) in
    let t : ltb (position_or_len is_newline (text ++ 10 ∷ rest)) (length (text ++ 10 ∷ rest)) ≡ true = grind (arith, nat_tests) in
    ap (λ (b : Bool). cond b (without_return (before_first is_newline (text ++ 10 ∷ rest))) (text ++ 10 ∷ rest)) t
    ∙ ap (λ (k : ℕ). without_return (take k (text ++ 10 ∷ rest))) at
    ∙ ap without_return (take_at text (10 ∷ rest) (length text) refl)
    ∙ kept_whole text is

dropped : (text rest : List ℕ) → drop (length text + 1) (text ++ 10 ∷ rest) ≡ rest
dropped text rest = ap (drop (length text + 1)) (sym (append_assoc text (10 ∷ []) rest)) ∙ drop_at (text ++ 10 ∷ []) rest (length text + 1) (length-append text (10 ∷ []))

pub after_line-text : (text rest : List ℕ) → AreText text → after_line (text ++ 10 ∷ rest) ≡ rest
after_line-text text rest is = ap (λ (k : ℕ). drop (k + 1) (text ++ 10 ∷ rest)) (newline_at text rest is) ∙ dropped text rest

pub some_text : (text rest : List ℕ) → (text ++ 10 ∷ rest) ≢ []
some_text [] rest e = cc
some_text (b ∷ bs) rest e = cc

pub lines_of-text : (text rest : List ℕ) → AreText text → lines_of (text ++ 10 ∷ rest) ≡ text ∷ lines_of rest
lines_of-text text rest is =
    let len = length-append text (10 ∷ rest) in
    let more : 0 < length (text ++ 10 ∷ rest) = omega arith in
    lines_of-step (text ++ 10 ∷ rest) more ∙ ap (λ (l : List ℕ). l ∷ lines_of (after_line (text ++ 10 ∷ rest))) (first_line-text text rest is) ∙ ap (λ (r : List ℕ). text ∷ lines_of r) (after_line-text text rest is)

-- ---- numbers

pub number_of-decimal : (n : ℕ) → n ≤ 2147483647 → number_of (decimal n) ≡ Some n
unfolding number_of
number_of-decimal n small =
    let all = decimal_digits n small in
    let value : digits_value 10 (decimal n) ≡ n = digits_value-decimal own n (omega arith) in
    let some = decimal_nonempty n (omega arith) in
    let short = length-decimal-le 10 n (lit< tt) (omega arith) (omega arith) in
    let t1 : ltb 0 (length (decimal n)) ≡ true = grind (arith, nat_tests) in
    let t2 : leb (length (decimal n)) 10 ≡ true = grind (arith, nat_tests) in
    let t3 : leb n 2147483647 ≡ true = grind (arith, nat_tests) in
    rw (all, t1, t2, value, t3) refl

-- digits are one word
word_cut : (ds rest : List ℕ) → all_ascii_digits ds ≡ true → slice_split is_space (ds ++ 32 ∷ rest) ≡ ds ∷ slice_split is_space rest
word_cut [] rest all = refl
word_cut (d ∷ ds) rest all =
    let b = both (is_ascii_digit d) (all_ascii_digits ds) all in
    let r = digit_range d b.0 in
    let t : is_space d ≡ false = grind (arith, nat_tests) in
    rw t (ap (onto_first d) (word_cut ds rest b.1))

word_last : (ds : List ℕ) → all_ascii_digits ds ≡ true → slice_split is_space ds ≡ ds ∷ []
word_last [] all = refl
word_last (d ∷ ds) all =
    let b = both (is_ascii_digit d) (all_ascii_digits ds) all in
    let r = digit_range d b.0 in
    let t : is_space d ≡ false = grind (arith, nat_tests) in
    rw t (ap (onto_first d) (word_last ds b.1))

pub numbers_of-more : (n : ℕ) (rest : List ℕ) → n ≤ 2147483647 → numbers_of (decimal n ++ 32 ∷ rest) ≡ onto_numbers (Some n) (numbers_of rest)
unfolding numbers_of
numbers_of-more n rest small = ap all_numbers (word_cut (decimal n) rest (decimal_digits n small)) ∙ ap (λ (o : Option ℕ). onto_numbers o (all_numbers (slice_split is_space rest))) (number_of-decimal n small)

pub numbers_of-one : (n : ℕ) → n ≤ 2147483647 → numbers_of (decimal n) ≡ Some (n ∷ [])
unfolding numbers_of
numbers_of-one n small = ap all_numbers (word_last (decimal n) (decimal_digits n small)) ∙ ap (λ (o : Option ℕ). onto_numbers o (Some [])) (number_of-decimal n small)

pub numbers_of-three : (a b c : ℕ) → a ≤ 2147483647 → b ≤ 2147483647 → c ≤ 2147483647 → numbers_of (decimal a ++ 32 ∷ (decimal b ++ 32 ∷ decimal c)) ≡ Some (a ∷ b ∷ c ∷ [])
numbers_of-three a b c sa sb sc = numbers_of-more a (decimal b ++ 32 ∷ decimal c) sa ∙ ap (onto_numbers (Some a)) (numbers_of-more b (decimal c) sb ∙ ap (onto_numbers (Some b)) (numbers_of-one c sc))

pub numbers_of-five : (a b c d e : ℕ) → a ≤ 2147483647 → b ≤ 2147483647 → c ≤ 2147483647 → d ≤ 2147483647 → e ≤ 2147483647 → numbers_of (decimal a ++ 32 ∷ (decimal b ++ 32 ∷ (decimal c ++ 32 ∷ (decimal d ++ 32 ∷ decimal e)))) ≡ Some (a ∷ b ∷ c ∷ d ∷ e ∷ [])
numbers_of-five a b c d e sa sb sc sd se = numbers_of-more a (decimal b ++ 32 ∷ (decimal c ++ 32 ∷ (decimal d ++ 32 ∷ decimal e))) sa ∙ ap (onto_numbers (Some a)) (numbers_of-more b (decimal c ++ 32 ∷ (decimal d ++ 32 ∷ decimal e)) sb ∙ ap (onto_numbers (Some b)) (numbers_of-three c d e sc sd se))
