-- Where bytes that are put together are cut again.
use Rattle.std.proofs.Common.{◌≡◌, ℕ, suc, ◌+◌, ◌<◌, Bool, true, false, cond, eqb, ltb, List, [], ◌∷◌, ◌++◌, length, map, take, drop, Some, None, refl, sym, ap, ◌∙◌, append_assoc, arith, length-append}
use Rattle.std.specs.Prelude.{not, ◌&&◌, nat_lt, filter, position}
use Rattle.std.specs.List.{list_all, onto_first, position_or_len, flat_map}
use Rattle.std.proofs.lemmas.Bool.{false≢true}
use Rattle.std.proofs.lemmas.Bool.Decides.{nat_tests}
use Rattle.std.proofs.lemmas.List.{append-nil, take_at, drop_at, take_all}
use Rattle.std.proofs.lemmas.List.Concat.{flat_map-cons}
use Rattle.std.proofs.lemmas.List.Folds.{list_all-append}
use Rattle.lnet_words.specs.Cutting.{is_byte, is_blank, parts, cut_of, words_of}
use Rattle.lnet_bench.specs.Texts.{uncommented}

-- ---- tests

pub both_true : (a b : Bool) → (a && b) ≡ true → (a ≡ true) × (b ≡ true)
both_true true b e = (refl, e)
both_true false b e = absurd (false≢true e)

pub true_both : (a b : Bool) → a ≡ true → b ≡ true → (a && b) ≡ true
true_both a b s t = rw s t

pub all-append : {X : Type 0} (p : X → Bool) (xs ys : List X) → list_all p xs ≡ true → list_all p ys ≡ true → list_all p (xs ++ ys) ≡ true
all-append p xs ys s t = list_all-append p xs ys ∙ true_both (list_all p xs) (list_all p ys) s t

pub all_weaker : {X : Type 0} (p q : X → Bool) (xs : List X) → ((x : X) → p x ≡ true → q x ≡ true) → list_all p xs ≡ true → list_all q xs ≡ true
all_weaker p q [] weaker e = refl
all_weaker p q (x ∷ xs) weaker e = let t = both_true (p x) (list_all p xs) e in true_both (q x) (list_all q xs) (weaker x t.0) (all_weaker p q xs weaker t.1)

-- no byte separates
abbrev pub has_none : (ℕ → Bool) → List ℕ → Bool
has_none separates bytes = list_all (λ b. not (separates b)) bytes

pub not_true : (b : Bool) → not b ≡ true → b ≡ false
not_true true e = absurd (false≢true e)
not_true false e = refl

-- ---- the first byte that separates

place_at : (p : ℕ → Bool) (xs : List ℕ) (y : ℕ) (ys : List ℕ) → has_none p xs ≡ true → p y ≡ true → position_or_len p (xs ++ y ∷ ys) ≡ length xs
place_at p [] y ys none found = rw found refl
place_at p (x ∷ xs) y ys none found =
    let t = both_true (not (p x)) (has_none p xs) none in
    rw t.0 (omega (arith, place_at p xs y ys t.1 found))

no_place : (p : ℕ → Bool) (xs : List ℕ) → has_none p xs ≡ true → position_or_len p xs ≡ length xs
no_place p [] none = refl
no_place p (x ∷ xs) none =
    let t = both_true (not (p x)) (has_none p xs) none in
    rw t.0 (omega (arith, no_place p xs t.1))

less : {m n : ℕ} → m < n → ltb m n ≡ true
less h = grind (arith, nat_tests)

not_less : (n : ℕ) → ltb n n ≡ false
not_less n = grind (arith, nat_tests)

pub cut_at : (p : ℕ → Bool) (xs : List ℕ) (y : ℕ) (ys : List ℕ) → has_none p xs ≡ true → p y ≡ true → cut_of p (xs ++ y ∷ ys) ≡ (xs, Some ys)
cut_at p xs y ys none found =
    let longer : length xs < length (xs ++ y ∷ ys) = omega (arith, length-append xs (y ∷ ys)) in
    let count : length (xs ++ y ∷ []) ≡ length xs + 1 = length-append xs (y ∷ []) in
    let kept : take (length xs) (xs ++ y ∷ ys) ≡ xs = take_at xs (y ∷ ys) (length xs) refl in
    let rest : drop (length xs + 1) (xs ++ y ∷ ys) ≡ ys = ap (λ (zs : List ℕ). drop (length xs + 1) zs) (sym (append_assoc xs (y ∷ []) ys)) ∙ drop_at (xs ++ y ∷ []) ys (length xs + 1) count in
    let place : position p (xs ++ y ∷ ys) ≡ Some (length xs) =
    ap (λ (n : ℕ). cond (ltb n (length (xs ++ y ∷ ys))) (Some n) None) (place_at p xs y ys none found) ∙ ap (λ (b : Bool). cond b (Some (length xs)) None) (less longer) in
    let cut : cut_of p (xs ++ y ∷ ys) ≡ (take (length xs) (xs ++ y ∷ ys), Some (drop (length xs + 1) (xs ++ y ∷ ys))) = rw place refl in
    cut
    ∙ ap (λ (zs : List ℕ). (zs, Some (drop (length xs + 1) (xs ++ y ∷ ys)))) kept
    ∙ ap (λ (zs : List ℕ). (xs, Some zs)) rest

pub cut_none : (p : ℕ → Bool) (xs : List ℕ) → has_none p xs ≡ true → cut_of p xs ≡ (xs, None)
cut_none p xs none =
    let place : position p xs ≡ None =
    ap (λ (n : ℕ). cond (ltb n (length xs)) (Some n) None) (no_place p xs none) ∙ ap (λ (b : Bool). cond b (Some (length xs)) None) (not_less (length xs)) in
    rw place refl

-- a line without a `#`
pub uncommented-none : (line : List ℕ) → has_none (is_byte 35) line ≡ true → uncommented line ≡ line
uncommented-none line none = ap (λ (n : ℕ). take n line) (no_place (is_byte 35) line none) ∙ take_all (length line) line (omega arith)

-- ---- parts

pub parts_at : (p : ℕ → Bool) (xs : List ℕ) (y : ℕ) (ys : List ℕ) → has_none p xs ≡ true → p y ≡ true → parts p (xs ++ y ∷ ys) ≡ xs ∷ parts p ys
parts_at p [] y ys none found = rw found refl
parts_at p (x ∷ xs) y ys none found =
    let t = both_true (not (p x)) (has_none p xs) none in
    rw (not_true (p x) t.0, parts_at p xs y ys t.1 found) refl

pub parts_none : (p : ℕ → Bool) (xs : List ℕ) → has_none p xs ≡ true → parts p xs ≡ xs ∷ []
parts_none p [] none = refl
parts_none p (x ∷ xs) none =
    let t = both_true (not (p x)) (has_none p xs) none in
    rw (not_true (p x) t.0, parts_none p xs t.1) refl

-- ---- words

-- a word has a byte or more, and no blanks
pub record IsWord (word : List ℕ) : Type 0 where
  pub some : nat_lt 0 (length word) ≡ true
  pub whole : has_none is_blank word ≡ true

pub words_alone : (word : List ℕ) → IsWord word → words_of word ≡ word ∷ []
words_alone word is = ap (filter (λ w. nat_lt 0 (length w))) (parts_none is_blank word is.whole) ∙ rw is.some refl

pub words_before : (word text : List ℕ) → IsWord word → words_of (word ++ 32 ∷ text) ≡ word ∷ words_of text
words_before word text is = ap (filter (λ w. nat_lt 0 (length w))) (parts_at is_blank word 32 text is.whole refl) ∙ rw is.some refl

pub some_bytes : (b : ℕ) (bs : List ℕ) → nat_lt 0 (length (b ∷ bs)) ≡ true
some_bytes b bs = grind (arith, nat_tests)

pub not_none : (n : ℕ) → eqb (suc n) 0 ≡ false
not_none n = grind (arith, nat_tests)

-- a text that begins with no blank has words
pub words_some : (b : ℕ) (bs : List ℕ) → is_blank b ≡ false → eqb (length (words_of (b ∷ bs))) 0 ≡ false
words_some b bs full = rw full (begun (parts is_blank bs)) where
  begun : (ps : List (List ℕ)) → eqb (length (filter (λ w. nat_lt 0 (length w)) (onto_first b ps))) 0 ≡ false
  begun [] = refl
  begun (p ∷ ps) = ap (λ (t : Bool). eqb (length (cond t ((b ∷ p) ∷ filter (λ w. nat_lt 0 (length w)) ps) (filter (λ w. nat_lt 0 (length w)) ps))) 0) (some_bytes b p) ∙ not_none (length (filter (λ w. nat_lt 0 (length w)) ps))

-- ---- parts between commas

-- each behind a comma and a space
pub comma_parts : (first : List ℕ) (others : List (List ℕ)) → has_none (is_byte 44) first ≡ true → list_all (has_none (is_byte 44)) others ≡ true → parts (is_byte 44) (first ++ flat_map (λ y. 44 ∷ 32 ∷ y) others) ≡ first ∷ map (λ y. 32 ∷ y) others
comma_parts first [] one all = ap (parts (is_byte 44)) (append-nil first) ∙ parts_none (is_byte 44) first one
comma_parts first (y ∷ ys) one all =
    let t = both_true (has_none (is_byte 44) y) (list_all (has_none (is_byte 44)) ys) all in
    ap (λ (zs : List ℕ). parts (is_byte 44) (first ++ zs)) (flat_map-cons (λ (z : List ℕ). 44 ∷ 32 ∷ z) y ys)
    ∙ parts_at (is_byte 44) first 44 (32 ∷ (y ++ flat_map (λ z. 44 ∷ 32 ∷ z) ys)) one refl
    ∙ ap (λ (zs : List (List ℕ)). first ∷ zs) (comma_parts (32 ∷ y) ys t.0 t.1)
