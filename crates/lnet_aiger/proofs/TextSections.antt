-- Written texts are lines under the rules of the format.
use Rattle.std.proofs.Common.{◌≡◌, ℕ, suc, ◌+◌, ◌*◌, ◌%◌, ◌<◌, ◌≤◌, true, false, List, [], ◌∷◌, ◌++◌, length, map, flat_map, get_or, Result, Ok, refl, sym, ap, subst, ◌∙◌, append_assoc, arith, lit<, lit≤}
use Rattle.std.specs.Prelude.{codes}
use Rattle.std.specs.Fmt.{decimal}
use Rattle.std.proofs.lemmas.Bool.Decides.{nat_tests}
use Rattle.std.proofs.lemmas.Fmt.{decimal_digit}
use Rattle.std.proofs.lemmas.List.Concat.{flat_map-cons}
use Rattle.lnet_edge.specs.declared.fault.Fault.{Fault}
use Rattle.lnet_aiger.specs.declared.body.Gate.{Gate}
use Rattle.lnet_aiger.specs.declared.header.Form.{Form}
use Rattle.lnet_aiger.specs.declared.header.Form.TheVariants.{Ascii, Binary}
use Rattle.lnet_aiger.specs.declared.header.Counts.{Counts}
use Rattle.lnet_aiger.specs.Header.{counts_if, counts_of, top_fits, are_too_many, header_of, header_line}
use Rattle.lnet_aiger.specs.LineRules.{input_of, output_of, equation_of, is_plain, is_within, input_line, output_line, gate_line, equation_line}
use Rattle.lnet_aiger.specs.Texts.{header_text, gate_text}
use Rattle.lnet_aiger.specs.Grammar.{AreLines}
use Rattle.lnet_aiger.proofs.TextLines.{AreText, text-append, text-decimal, first_line-text, after_line-text, some_text, numbers_of-one, numbers_of-three, numbers_of-five}

-- ---- any lines

-- a text of lines, one for each item
pub lines_text : {A B : Type 0} (rule : List ℕ → Result B Fault) (line : A → List ℕ) (item : A → B) (xs : List A) (rest : List ℕ) → ((k : ℕ) (d : A) → k < length xs → AreText (line (get_or xs k d)) × (rule (line (get_or xs k d)) ≡ Ok (item (get_or xs k d)))) → AreLines rule (flat_map (λ x. line x ++ 10 ∷ []) xs ++ rest) (map item xs) rest
lines_text rule line item [] rest each = refl
lines_text rule line item (x ∷ xs) rest each =
    let f = λ (y : _). line y ++ 10 ∷ [] in
    let text = each 0 x (omega arith) in
    let behind : List ℕ = flat_map f xs ++ rest in
    let e : flat_map f (x ∷ xs) ++ rest ≡ line x ++ 10 ∷ behind = ap (λ (t : List ℕ). t ++ rest) (flat_map-cons f x xs) ∙ simp append_assoc in
    let others = lines_text rule line item xs rest (λ k d low. each (suc k) d (omega arith)) in
    subst (λ (bytes : List ℕ). AreLines rule bytes (item x ∷ map item xs) rest) (sym e)
    (some_text (line x) behind, ap rule (first_line-text (line x) behind text.0) ∙ text.1, subst (λ (bytes : List ℕ). AreLines rule bytes (map item xs) rest) (sym (after_line-text (line x) behind text.0)) others)

-- ---- ports

pub input_line-decimal : (top n : ℕ) → n ≤ 2147483647 → n % 2 ≡ 0 → 2 ≤ n → n ≤ 2 * top → input_line top (decimal n) ≡ Ok (input_of n)
unfolding input_line
input_line-decimal top n small even low high =
    let t : is_plain top n ≡ true = grind (arith, nat_tests) in
    rw (numbers_of-one n small, t) refl

pub output_line-decimal : (top n : ℕ) → n ≤ 2147483647 → n ≤ 2 * top + 1 → output_line top (decimal n) ≡ Ok (output_of n)
unfolding output_line
output_line-decimal top n small high =
    let t : is_within top n ≡ true = grind (arith, nat_tests) in
    rw (numbers_of-one n small, t) refl

-- ---- gates

-- the line of a gate, without its newline
abbrev pub gate_words : Gate → List ℕ
gate_words g = decimal g.target ++ 32 ∷ (decimal g.first ++ 32 ∷ decimal g.second)

pub gate_words-text : (g : Gate) → g.target ≤ 2147483647 → g.first ≤ 2147483647 → g.second ≤ 2147483647 → AreText (gate_words g)
gate_words-text g st sf ss = text-append (decimal g.target) (32 ∷ (decimal g.first ++ 32 ∷ decimal g.second)) (text-decimal g.target st) (lit≤ tt, text-append (decimal g.first) (32 ∷ decimal g.second) (text-decimal g.first sf) (lit≤ tt, text-decimal g.second ss))

pub gate_words-line : (g : Gate) → gate_text g ≡ gate_words g ++ 10 ∷ []
gate_words-line g = simp append_assoc

pub equation_line-words : (top : ℕ) (g : Gate) → g.target ≤ 2147483647 → g.first ≤ 2147483647 → g.second ≤ 2147483647 → g.target % 2 ≡ 0 → 2 ≤ g.target → g.target ≤ 2 * top → g.first ≤ 2 * top + 1 → g.second ≤ 2 * top + 1 → equation_line top (gate_words g) ≡ Ok (equation_of g)
unfolding equation_line gate_line
equation_line-words top g st sf ss even low high first second =
    let t0 : is_plain top g.target ≡ true = grind (arith, nat_tests) in
    let t1 : is_within top g.first ≡ true = grind (arith, nat_tests) in
    let t2 : is_within top g.second ≡ true = grind (arith, nat_tests) in
    rw (numbers_of-three g.target g.first g.second st sf ss, t0, t1, t2) refl

-- ---- the header

-- the numbers of a first line
abbrev pub header_words : ℕ → ℕ → ℕ → List ℕ
header_words i o a = decimal (i + a) ++ 32 ∷ (decimal i ++ 32 ∷ (decimal 0 ++ 32 ∷ (decimal o ++ 32 ∷ decimal a)))

abbrev pub counts_by_numbers : ℕ → ℕ → ℕ → Counts
counts_by_numbers i o a = record { top = i + a; inputs = i; latches = 0; outputs = o; gates = a; bad = 0; constraints = 0; justice = 0; fairness = 0 }

counts_of-words : (i o a : ℕ) → i + a ≤ 1048576 → o ≤ 100000000 → counts_of (header_words i o a) ≡ Ok (counts_by_numbers i o a)
unfolding counts_of
counts_of-words i o a few few_outputs = ap counts_if (numbers_of-five (i + a) i 0 o a (omega arith) (omega arith) (lit≤ tt) (omega arith) (omega arith))

header_of-counts : (form : Form) (i o a : ℕ) → i + a ≤ 1048576 → o ≤ 100000000 → top_fits form (counts_by_numbers i o a) ≡ true → header_of form (counts_by_numbers i o a) ≡ Ok (record { form = form; top = i + a; inputs = i; outputs = o; gates = a })
unfolding header_of
header_of-counts form i o a few few_outputs fits =
    let t0 : are_too_many (counts_by_numbers i o a) ≡ false = grind (arith, nat_tests) in
    rw (fits, t0) refl

pub header_line-ascii : (i o a : ℕ) → i + a ≤ 1048576 → o ≤ 100000000 → header_line (codes "aag " ++ header_words i o a) ≡ Ok (record { form = Ascii; top = i + a; inputs = i; outputs = o; gates = a })
unfolding header_line
header_line-ascii i o a few few_outputs =
    let fits : top_fits Ascii (counts_by_numbers i o a) ≡ true = grind (arith, nat_tests) in
    rw (counts_of-words i o a few few_outputs) (header_of-counts Ascii i o a few few_outputs fits)

pub header_line-binary : (i o a : ℕ) → i + a ≤ 1048576 → o ≤ 100000000 → header_line (codes "aig " ++ header_words i o a) ≡ Ok (record { form = Binary; top = i + a; inputs = i; outputs = o; gates = a })
unfolding header_line
header_line-binary i o a few few_outputs =
    let fits : top_fits Binary (counts_by_numbers i o a) ≡ true = grind (arith, nat_tests) in
    rw (counts_of-words i o a few few_outputs) (header_of-counts Binary i o a few few_outputs fits)

pub header_words-text : (i o a : ℕ) → i + a ≤ 1048576 → o ≤ 100000000 → AreText (header_words i o a)
header_words-text i o a few few_outputs =
    text-append (decimal (i + a)) _ (text-decimal (i + a) (omega arith)) (lit≤ tt, text-append (decimal i) _ (text-decimal i (omega arith)) (lit≤ tt, text-append (decimal 0) _ (text-decimal 0 (lit≤ tt)) (lit≤ tt, text-append (decimal o) _ (text-decimal o (omega arith)) (lit≤ tt, text-decimal a (omega arith)))))

-- the first line as it is written
pub header_text-line : (word : List ℕ) (i o a : ℕ) → header_text word i o a ≡ (word ++ header_words i o a) ++ 10 ∷ []
header_text-line word i o a =
    let with_zero : List ℕ → List ℕ = λ z. word ++ (decimal (i + a) ++ (32 ∷ (decimal i ++ (32 ∷ (z ++ (32 ∷ (decimal o ++ (32 ∷ (decimal a ++ 10 ∷ []))))))))) in
    let zero_text : decimal 0 ≡ 48 ∷ [] = decimal_digit 0 (lit< tt) in
    let regrouped : with_zero (decimal 0) ≡ (word ++ header_words i o a) ++ 10 ∷ [] = simp append_assoc in
    ap with_zero (sym zero_text) ∙ regrouped
