-- Line by line through a text.
use Rattle.std.proofs.Common.{◌≡◌, ℕ, ◌+◌, ◌<◌, true, false, cond, eqb, ltb, List, [], ◌∷◌, length, refl, sym, ap, ◌∙◌, arith}
use Rattle.std.specs.Prelude.{not}
use Rattle.std.specs.List.{slice_split, onto_first, before_first, position_or_len}
use Rattle.std.proofs.lemmas.List.{drop_all}
use Rattle.std.proofs.lemmas.List.Splits.{slice_split_first, length-slice_split}
use Rattle.std.proofs.lemmas.List.Sums.{prefix_len-le-length}
use Rattle.std.proofs.lemmas.Bool.Decides.{nat_tests}
use Rattle.lnet_lines.specs.Lines.{is_newline, lines_of, lines_of_pieces, without_return, first_line, after_line}

behind : (piece : List ℕ) (pieces : List (List ℕ)) → 0 < length pieces → lines_of_pieces (piece ∷ pieces) ≡ without_return piece ∷ lines_of_pieces pieces
behind piece [] some = absurd (omega arith)
behind piece (next ∷ pieces) some = refl

one_piece : (bytes : List ℕ) → position_or_len is_newline bytes ≡ length bytes → slice_split is_newline bytes ≡ bytes ∷ []
one_piece [] e = refl
one_piece (b ∷ bs) e =
    elim (is_newline b) as (λ t. is_newline b ≡ t → slice_split is_newline (b ∷ bs) ≡ (b ∷ bs) ∷ []) [
      | true ↦ λ t. absurd (found t)
      | false ↦ λ t. rw t (ap (onto_first b) (one_piece bs (fewer t)))
    ] refl
  where
    found : is_newline b ≡ true → ⊥
    found t = grind (arith, nat_tests)

    fewer : is_newline b ≡ false → position_or_len is_newline bs ≡ length bs
    fewer t = grind (arith, nat_tests)

last_is : (bytes : List ℕ) → 0 < length bytes → lines_of_pieces (bytes ∷ []) ≡ bytes ∷ []
last_is [] some = absurd (omega arith)
last_is (b ∷ bs) some = refl

-- the first line, and the lines behind it
pub lines_of-step : (bytes : List ℕ) → 0 < length bytes → lines_of bytes ≡ first_line bytes ∷ lines_of (after_line bytes)
lines_of-step bytes some =
    elim (ltb (position_or_len is_newline bytes) (length bytes)) as (λ t. ltb (position_or_len is_newline bytes) (length bytes) ≡ t → lines_of bytes ≡ cond t (without_return (before_first is_newline bytes)) bytes ∷ lines_of (after_line bytes)) [
      | true ↦ λ t. cut t
      | false ↦ λ t. whole t
    ] refl
  where
    cut : ltb (position_or_len is_newline bytes) (length bytes) ≡ true → lines_of bytes ≡ without_return (before_first is_newline bytes) ∷ lines_of (after_line bytes)
    cut t =
        let lt : position_or_len is_newline bytes < length bytes = grind (arith, nat_tests) in
        ap lines_of_pieces (slice_split_first is_newline bytes 0 lt) ∙ behind (before_first is_newline bytes) (slice_split is_newline (after_line bytes)) (omega (arith, length-slice_split is_newline (after_line bytes)))

    whole : ltb (position_or_len is_newline bytes) (length bytes) ≡ false → lines_of bytes ≡ bytes ∷ lines_of (after_line bytes)
    whole t =
        let le = prefix_len-le-length (λ b. not (is_newline b)) bytes in
        let len : position_or_len is_newline bytes ≡ length bytes = grind (arith, nat_tests) in
        let none : after_line bytes ≡ [] = drop_all (position_or_len is_newline bytes + 1) bytes (omega arith) in
        ap lines_of_pieces (one_piece bytes len) ∙ last_is bytes some ∙ ap (λ (r : List ℕ). bytes ∷ lines_of r) (sym none)

-- the same of a line and a rest that are these
pub lines_of-cut : (bytes line rest : List ℕ) → eqb (length bytes) 0 ≡ false → line ≡ first_line bytes → rest ≡ after_line bytes → lines_of bytes ≡ line ∷ lines_of rest
lines_of-cut bytes line rest some l r =
    let more : 0 < length bytes = grind (arith, nat_tests) in
    rw (l, r) (lines_of-step bytes more)
