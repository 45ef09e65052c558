-- Names between the marks of a line.
use Rattle.std.proofs.Common.{◌≡◌, ℕ, suc, Bool, true, false, cond, eqb, List, [], ◌∷◌, ◌++◌, length, map, Option, Some, None, refl, ap, ◌∙◌, arith}
use Rattle.std.specs.Prelude.{not, ◌&&◌, nat_lt, nat_le, is_some, ◌==◌}
use Rattle.std.specs.List.{list_all, filter_map, flat_map, cons_option}
use Rattle.std.proofs.lemmas.Bool.{false≢true}
use Rattle.std.proofs.lemmas.Bool.Decides.{nat_tests}
use Rattle.std.proofs.lemmas.List.Concat.{flat_map-cons}
use Rattle.lnet_words.specs.Cutting.{is_byte, is_blank, parts, words_of, only_of}
use Rattle.lnet_bench.specs.Statements.{is_name_byte, is_name, named, name_of, are_names, names_in, operand_count}
use Rattle.lnet_benchwriter.specs.Texts.{separated}
use Rattle.lnet_benchtext.proofs.Cutting.{both_true, true_both, not_true, all-append, all_weaker, has_none, IsWord, words_alone, words_before, words_some, comma_parts}

-- a byte of a line: from 32 to 126, and no `#`
abbrev pub is_line_byte : ℕ → Bool
is_line_byte b = nat_le 32 b && nat_le b 126 && not (b == 35)

no_blank : (b : ℕ) → is_name_byte b ≡ true → not (is_blank b) ≡ true
no_blank b e = grind (arith, nat_tests)

no_open : (b : ℕ) → is_name_byte b ≡ true → not (is_byte 40 b) ≡ true
no_open b e = grind (arith, nat_tests)

no_close : (b : ℕ) → is_name_byte b ≡ true → not (is_byte 41 b) ≡ true
no_close b e = grind (arith, nat_tests)

no_comma : (b : ℕ) → is_name_byte b ≡ true → not (is_byte 44 b) ≡ true
no_comma b e = grind (arith, nat_tests)

no_equals : (b : ℕ) → is_name_byte b ≡ true → not (is_byte 61 b) ≡ true
no_equals b e = grind (arith, nat_tests)

line_byte : (b : ℕ) → is_name_byte b ≡ true → is_line_byte b ≡ true
line_byte b e = grind (arith, nat_tests)

bytes_of : (name : List ℕ) → is_name name ≡ true → list_all is_name_byte name ≡ true
bytes_of name is = (both_true (nat_lt 0 (length name)) (list_all is_name_byte name) is).1

pub opens_none : (name : List ℕ) → is_name name ≡ true → has_none (is_byte 40) name ≡ true
opens_none name is = all_weaker is_name_byte (λ b. not (is_byte 40 b)) name no_open (bytes_of name is)

pub closes_none : (name : List ℕ) → is_name name ≡ true → has_none (is_byte 41) name ≡ true
closes_none name is = all_weaker is_name_byte (λ b. not (is_byte 41 b)) name no_close (bytes_of name is)

pub commas_none : (name : List ℕ) → is_name name ≡ true → has_none (is_byte 44) name ≡ true
commas_none name is = all_weaker is_name_byte (λ b. not (is_byte 44 b)) name no_comma (bytes_of name is)

pub equals_none : (name : List ℕ) → is_name name ≡ true → has_none (is_byte 61) name ≡ true
equals_none name is = all_weaker is_name_byte (λ b. not (is_byte 61 b)) name no_equals (bytes_of name is)

pub name_line : (name : List ℕ) → is_name name ≡ true → list_all is_line_byte name ≡ true
name_line name is = all_weaker is_name_byte is_line_byte name line_byte (bytes_of name is)

pub name_word : (name : List ℕ) → is_name name ≡ true → IsWord name
name_word name is = record {
  some = (both_true (nat_lt 0 (length name)) (list_all is_name_byte name) is).0;
  whole = all_weaker is_name_byte (λ b. not (is_blank b)) name no_blank (bytes_of name is);
}

-- a line that begins with a name isn't blank
pub name_begins : (name rest : List ℕ) → is_name name ≡ true → eqb (length (words_of (name ++ rest))) 0 ≡ false
name_begins [] rest is = absurd (false≢true is)
name_begins (b ∷ bs) rest is = words_some b (bs ++ rest) (not_true (is_blank b) (no_blank b (both_true (is_name_byte b) (list_all is_name_byte bs) (bytes_of (b ∷ bs) is)).0))

-- ---- a name with spaces around it

pub name_alone : (name : List ℕ) → is_name name ≡ true → name_of name ≡ Some name
name_alone name is = ap (λ (ws : List (List ℕ)). named (only_of ws)) (words_alone name (name_word name is)) ∙ rw is refl

pub name_behind : (name : List ℕ) → is_name name ≡ true → name_of (32 ∷ name) ≡ Some name
name_behind name is = name_alone name is

pub name_before : (name : List ℕ) → is_name name ≡ true → name_of (name ++ 32 ∷ []) ≡ Some name
name_before name is = ap (λ (ws : List (List ℕ)). named (only_of ws)) (words_before name [] (name_word name is)) ∙ rw is refl

-- ---- operands

each_named : (names : List (List ℕ)) → list_all is_name names ≡ true → list_all (λ part. is_some (name_of part)) (map (λ y. 32 ∷ y) names) ≡ true
each_named [] all = refl
each_named (x ∷ xs) all =
    let t = both_true (is_name x) (list_all is_name xs) all in
    true_both (is_some (name_of (32 ∷ x))) (list_all (λ part. is_some (name_of part)) (map (λ y. 32 ∷ y) xs)) (ap is_some (name_behind x t.0)) (each_named xs t.1)

each_name : (names : List (List ℕ)) → list_all is_name names ≡ true → filter_map name_of (map (λ y. 32 ∷ y) names) ≡ names
each_name [] all = refl
each_name (x ∷ xs) all =
    let t = both_true (is_name x) (list_all is_name xs) all in
    ap (λ (o : Option (List ℕ)). cons_option o (filter_map name_of (map (λ y. 32 ∷ y) xs))) (name_behind x t.0) ∙ ap (λ (ys : List (List ℕ)). x ∷ ys) (each_name xs t.1)

count-spaced : (names : List (List ℕ)) → length (map (λ (y : List ℕ). 32 ∷ y) names) ≡ length names
count-spaced [] = refl
count-spaced (x ∷ xs) = ap suc (count-spaced xs)

each_without : (names : List (List ℕ)) → list_all is_name names ≡ true → list_all (has_none (is_byte 44)) names ≡ true
each_without names all = all_weaker is_name (has_none (is_byte 44)) names commas_none all

parts_of : (x : List ℕ) (xs : List (List ℕ)) → is_name x ≡ true → list_all is_name xs ≡ true → parts (is_byte 44) (separated (x ∷ xs)) ≡ x ∷ map (λ y. 32 ∷ y) xs
parts_of x xs one all = comma_parts x xs (commas_none x one) (each_without xs all)

pub names_of : (x : List ℕ) (xs : List (List ℕ)) → is_name x ≡ true → list_all is_name xs ≡ true → names_in (separated (x ∷ xs)) ≡ x ∷ xs
names_of x xs one all = ap (filter_map name_of) (parts_of x xs one all) ∙ ap (λ (o : Option (List ℕ)). cons_option o (filter_map name_of (map (λ y. 32 ∷ y) xs))) (name_alone x one) ∙ ap (λ (ys : List (List ℕ)). x ∷ ys) (each_name xs all)

pub count_of : (x : List ℕ) (xs : List (List ℕ)) → is_name x ≡ true → list_all is_name xs ≡ true → operand_count (separated (x ∷ xs)) ≡ Some (suc (length xs))
count_of x xs one all =
    let all_named : are_names (separated (x ∷ xs)) ≡ true =
    ap (list_all (λ part. is_some (name_of part))) (parts_of x xs one all) ∙ true_both (is_some (name_of x)) (list_all (λ part. is_some (name_of part)) (map (λ y. 32 ∷ y) xs)) (ap is_some (name_alone x one)) (each_named xs all) in
    let count : length (parts (is_byte 44) (separated (x ∷ xs))) ≡ suc (length xs) = ap length (parts_of x xs one all) ∙ ap suc (count-spaced xs) in
    ap (λ (b : Bool). cond b (Some (length (parts (is_byte 44) (separated (x ∷ xs))))) None) all_named ∙ ap (λ (n : ℕ). Some n) count

-- a test of each byte of names and what is between them
pub separated-all : (p : ℕ → Bool) (x : List ℕ) (xs : List (List ℕ)) → p 44 ≡ true → p 32 ≡ true → list_all p x ≡ true → list_all (list_all p) xs ≡ true → list_all p (separated (x ∷ xs)) ≡ true
separated-all p x xs comma space one all = all-append p x (flat_map (λ y. 44 ∷ 32 ∷ y) xs) one (behind xs all) where
  behind : (ys : List (List ℕ)) → list_all (list_all p) ys ≡ true → list_all p (flat_map (λ y. 44 ∷ 32 ∷ y) ys) ≡ true
  behind [] t = refl
  behind (y ∷ ys) t =
      let both = both_true (list_all p y) (list_all (list_all p) ys) t in
      ap (list_all p) (flat_map-cons (λ (z : List ℕ). 44 ∷ 32 ∷ z) y ys) ∙ true_both (p 44) (p 32 && list_all p (y ++ flat_map (λ z. 44 ∷ 32 ∷ z) ys)) comma (true_both (p 32) (list_all p (y ++ flat_map (λ z. 44 ∷ 32 ∷ z) ys)) space (all-append p y (flat_map (λ z. 44 ∷ 32 ∷ z) ys) both.0 (behind ys both.1)))
