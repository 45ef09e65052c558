-- Lines of commands with names, and what they say.
use Rattle.std.proofs.Common.{◌≡◌, ℕ, suc, ◌-◌, Bool, true, cond, eqb, List, [], ◌∷◌, ◌++◌, length, take, get_or, Result, Ok, Err, codes, refl, ap, ◌∙◌, arith, length-append}
use Rattle.std.specs.List.{list_all, flat_map}
use Rattle.std.proofs.lemmas.List.{append-nil, take_at, get_or_at}
use Rattle.std.proofs.lemmas.List.Concat.{flat_map-cons}
use Rattle.lnet_edge.specs.declared.fault.Fault.{Fault}
use Rattle.lnet_edge.specs.declared.fault.Fault.TheVariants as faults
use Rattle.lnet_words.specs.Cutting.{words_of}
use Rattle.lnet_blif.specs.Listing.{Standing, AtFirst, AtOutside, AtInside, AtBehind, position_of}
use Rattle.lnet_blif.specs.Statements.{StatementValue, Inputs, Outputs, Names, cover_by, statement_at}
use Rattle.lnet_blifwriter.specs.Texts.{spaced}
use Rattle.lnet_benchtext.proofs.Cutting.{not_none, both_true, all-append, IsWord, words_alone, words_before}
use Rattle.lnet_bliftext.proofs.WrittenNames.{is_kept_byte, is_written, name_word, spaced_kept}
use Rattle.lnet_bliftext.proofs.Lines.{HasWords}

-- behind the first line, and not behind the end
abbrev pub IsOpen : Standing → Type 0
IsOpen AtFirst = ⊥
IsOpen AtOutside = Unit {0}
IsOpen (AtInside t) = Unit {0}
IsOpen AtBehind = ⊥

-- ---- the words of a line

spaced_words : (word : List ℕ) (names : List (List ℕ)) → IsWord word → list_all is_written names ≡ true → words_of (word ++ flat_map spaced names) ≡ word ∷ names
spaced_words word [] is all = ap words_of (append-nil word) ∙ words_alone word is
spaced_words word (x ∷ xs) is all =
    let t = both_true (is_written x) (list_all is_written xs) all in
    ap (λ (rest : List ℕ). words_of (word ++ rest)) (flat_map-cons spaced x xs)
    ∙ words_before word (x ++ flat_map spaced xs) is
    ∙ ap (λ (ws : List (List ℕ)). word ∷ ws) (spaced_words x xs (name_word x t.0) t.1)

pub has_words : (word : List ℕ) (names : List (List ℕ)) → IsWord word → list_all is_kept_byte word ≡ true → list_all is_written names ≡ true → HasWords (word ++ flat_map spaced names) (word ∷ names)
has_words word names is kept all = record {
  bytes = all-append is_kept_byte word (flat_map spaced names) kept (spaced_kept names all);
  cut = spaced_words word names is all;
}

-- ---- ports

pub inputs_say : (names : List (List ℕ)) (p : Standing) → IsOpen p → statement_at (position_of p) (codes ".inputs" ∷ names) ≡ Ok (Inputs names)
unfolding statement_at
inputs_say names AtFirst at = absurd at
inputs_say names AtOutside at = refl
inputs_say names (AtInside t) at = refl
inputs_say names AtBehind at = absurd at

pub outputs_say : (names : List (List ℕ)) (p : Standing) → IsOpen p → statement_at (position_of p) (codes ".outputs" ∷ names) ≡ Ok (Outputs names)
unfolding statement_at
outputs_say names AtFirst at = absurd at
outputs_say names AtOutside at = refl
outputs_say names (AtInside t) at = refl
outputs_say names AtBehind at = absurd at

-- ---- covers

abbrev covered : List (List ℕ) → List ℕ → Result StatementValue Fault
covered operands target = Ok (Names operands target)

abbrev cover_in : List (List ℕ) → ℕ → Result StatementValue Fault
cover_in names n = cond (eqb n 0) (Err faults.Syntax) (covered (take (n - 1) names) (get_or names (n - 1) []))

last_place : (n : ℕ) → suc n - 1 ≡ n
last_place n = omega arith

cover_by-names : (operands : List (List ℕ)) (target : List ℕ) → cover_by (operands ++ target ∷ []) ≡ Ok (Names operands target)
cover_by-names operands target =
    let count : length (operands ++ target ∷ []) ≡ suc (length operands) = length-append operands (target ∷ []) ∙ omega arith in
    ap (cover_in (operands ++ target ∷ [])) count
    ∙ ap (λ (b : Bool). cond b (Err faults.Syntax) (covered (take (suc (length operands) - 1) (operands ++ target ∷ [])) (get_or (operands ++ target ∷ []) (suc (length operands) - 1) []))) (not_none (length operands))
    ∙ ap (λ (k : ℕ). covered (take k (operands ++ target ∷ [])) (get_or (operands ++ target ∷ []) k [])) (last_place (length operands))
    ∙ ap (λ (xs : List (List ℕ)). covered xs (get_or (operands ++ target ∷ []) (length operands) [])) (take_at operands (target ∷ []) (length operands) refl)
    ∙ ap (covered operands) (get_or_at operands target [] [] (length operands) refl)

pub names_say : (operands : List (List ℕ)) (target : List ℕ) (p : Standing) → IsOpen p → statement_at (position_of p) (codes ".names" ∷ (operands ++ target ∷ [])) ≡ Ok (Names operands target)
unfolding statement_at
names_say operands target AtFirst at = absurd at
names_say operands target AtOutside at = cover_by-names operands target
names_say operands target (AtInside t) at = cover_by-names operands target
names_say operands target AtBehind at = absurd at
