-- The lines of outputs, one after the other.
use Rattle.std.proofs.Common.{◌≡◌, ℕ, zero, suc, ◌+◌, ◌-◌, ◌<◌, ◌≤◌, ◌/◌, ◌%◌, ◌^◌, false, List, [], ◌∷◌, ◌++◌, length, drop, slice_get, Some, sym, ap, ◌∙◌, arith, append_assoc}
use Rattle.std.proofs.Math.Seq.{drop-nil}
use Rattle.std.proofs.lemmas.List.{append-nil}
use Rattle.lnet_gates.specs.declared.signal.Signal.{Signal}
use Rattle.lnet_print.specs.Printed.{output_line, output_lines}

-- the lines of the outputs from place k on
abbrev pub lines_after : ℕ → List Signal → List ℕ
lines_after k ss = output_lines k (drop k ss)

drop-at : (ss : List Signal) (k : ℕ) (s : Signal) → slice_get ss k ≡ Some s → drop k ss ≡ s ∷ drop (suc k) ss
drop-at [] k s e = cc
drop-at (r ∷ rs) zero s e = let z : s ≡ r = cc in ap (λ x. x ∷ rs) (sym z)
drop-at (r ∷ rs) (suc k) s e = drop-at rs k s e

drop-past : (ss : List Signal) (k : ℕ) → length ss ≤ k → drop k ss ≡ []
drop-past [] k e = drop-nil k
drop-past (r ∷ rs) zero e = absurd (omega arith)
drop-past (r ∷ rs) (suc k) e = drop-past rs k (omega arith)

pub lines-one : (ss : List Signal) (k : ℕ) (s : Signal) → slice_get ss k ≡ Some s → lines_after k ss ≡ output_line k s ++ lines_after (k + 1) ss
lines-one ss k s e = let next : suc k ≡ k + 1 = omega arith in ap (output_lines k) (drop-at ss k s e) ∙ ap (λ j. output_line k s ++ lines_after j ss) next

-- a text and what comes after it, a piece further
pub onward : (before after piece rest now total : List ℕ) → after ≡ before ++ piece → now ≡ piece ++ rest → before ++ now ≡ total → after ++ rest ≡ total
onward before after piece rest now total grown is so_far = ap (λ t. t ++ rest) grown ∙ append_assoc before piece rest ∙ ap (λ t. before ++ t) (sym is) ∙ so_far

-- nothing comes after it
pub complete : (text now total : List ℕ) → now ≡ [] → text ++ now ≡ total → text ≡ total
complete text now total is so_far = sym (append-nil text) ∙ ap (λ t. text ++ t) (sym is) ∙ so_far
