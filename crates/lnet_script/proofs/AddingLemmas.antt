-- Commands added one after the other are those of all the pieces.
use Rattle.std.proofs.Common.{◌≡◌, ℕ, ◌+◌, List, [], ◌∷◌, ◌++◌, Option, Some, None, Result, Ok, Err, refl, sym, ap, ◌∙◌, append_assoc}
use Rattle.std.proofs.lemmas.List.{append-nil}
use Rattle.lnet_script.specs.declared.command.Command.{Command}
use Rattle.lnet_script.specs.declared.script.ScriptError.{ScriptError}
use Rattle.lnet_script.specs.declared.script.ScriptError.TheVariants as errors
use Rattle.lnet_script.specs.Pieces.{Piece, line_pieces, pieces_from}
use Rattle.lnet_script.specs.Reading.{command_of}
use Rattle.lnet_script.specs.Scripts.{with_first, commands_in, FailsScript}
use Rattle.lnet_script.specs.Adding.{onward, commands_after, GivesLine}

abbrev pub then_pieces : Result (List Command) ℕ → List Piece → Result (List Command) ℕ
then_pieces (Ok cs) ps = commands_after cs ps
then_pieces (Err line) ps = Err line

onward_then : (o : Option Command) (line : ℕ) (cs : List Command) (ps qs : List Piece) → ((c : Command) → commands_after (cs ++ c ∷ []) (ps ++ qs) ≡ then_pieces (commands_after (cs ++ c ∷ []) ps) qs)
    → onward o line (λ c. commands_after (cs ++ c ∷ []) (ps ++ qs)) ≡ then_pieces (onward o line (λ c. commands_after (cs ++ c ∷ []) ps)) qs
onward_then None line cs ps qs h = refl
onward_then (Some c) line cs ps qs h = h c

after-append : (cs : List Command) (ps qs : List Piece) → commands_after cs (ps ++ qs) ≡ then_pieces (commands_after cs ps) qs
after-append cs [] qs = refl
after-append cs (p ∷ ps) qs = onward_then (command_of p.words) p.line cs ps qs (λ c. after-append (cs ++ c ∷ []) ps qs)

-- the pieces of lines that begin with this one
split_lines : (n : ℕ) (content : List ℕ) (lines : List (List ℕ)) (all : List (List ℕ)) → all ≡ content ∷ lines → (cs : List Command) → commands_after cs (pieces_from n all) ≡ then_pieces (commands_after cs (line_pieces n content)) (pieces_from (n + 1) lines)
split_lines n content lines all e cs = ap (λ (ls : List (List ℕ)). commands_after cs (pieces_from n ls)) e ∙ after-append cs (line_pieces n content) (pieces_from (n + 1) lines)

pub goes_on : (n : ℕ) (content : List ℕ) (lines all : List (List ℕ)) → all ≡ content ∷ lines → (old new : List Command) → commands_after old (line_pieces n content) ≡ Ok new → (total : Result (List Command) ℕ) → commands_after old (pieces_from n all) ≡ total
    → commands_after new (pieces_from (n + 1) lines) ≡ total
goes_on n content lines all e old new h total so_far = sym (ap (λ (r : Result (List Command) ℕ). then_pieces r (pieces_from (n + 1) lines)) h) ∙ sym (split_lines n content lines all e old) ∙ so_far

pub stops : (n : ℕ) (content : List ℕ) (lines all : List (List ℕ)) → all ≡ content ∷ lines → (old : List Command) (line : ℕ) → commands_after old (line_pieces n content) ≡ Err line → (total : Result (List Command) ℕ) → commands_after old (pieces_from n all) ≡ total
    → total ≡ Err line
stops n content lines all e old line h total so_far = sym so_far ∙ split_lines n content lines all e old ∙ ap (λ (r : Result (List Command) ℕ). then_pieces r (pieces_from (n + 1) lines)) h

-- ---- all at once

abbrev pub onto : List Command → Result (List Command) ℕ → Result (List Command) ℕ
onto cs (Ok ds) = Ok (cs ++ ds)
onto cs (Err line) = Err line

onto_first : (o : Option Command) (line : ℕ) (cs : List Command) (ps : List Piece) → ((c : Command) → commands_after (cs ++ c ∷ []) ps ≡ onto (cs ++ c ∷ []) (commands_in ps)) → onward o line (λ c. commands_after (cs ++ c ∷ []) ps) ≡ onto cs (with_first o line (commands_in ps))
onto_first None line cs ps h = refl
onto_first (Some c) line cs ps h = h c ∙ regroup (commands_in ps) where
  regroup : (r : Result (List Command) ℕ) → onto (cs ++ c ∷ []) r ≡ onto cs (with_first (Some c) line r)
  regroup (Ok ds) = ap Ok (append_assoc cs (c ∷ []) ds)
  regroup (Err e) = refl

after_is : (cs : List Command) (ps : List Piece) → commands_after cs ps ≡ onto cs (commands_in ps)
after_is cs [] = ap Ok (sym (append-nil cs))
after_is cs (p ∷ ps) = onto_first (command_of p.words) p.line cs ps (λ c. after_is (cs ++ c ∷ []) ps)

pub from_none : (ps : List Piece) → commands_after [] ps ≡ commands_in ps
from_none ps = after_is [] ps ∙ same (commands_in ps) where
  same : (r : Result (List Command) ℕ) → onto [] r ≡ r
  same (Ok ds) = refl
  same (Err e) = refl

-- what an error of a line says of the script
pub fails : (n : ℕ) (content : List ℕ) (lines all : List (List ℕ)) → all ≡ content ∷ lines → (old new : List Command) (e : ScriptError) → GivesLine {X = Unit {0}} (Err e) new (commands_after old (line_pieces n content)) → (ps : List Piece) → commands_after old (pieces_from n all) ≡ commands_after [] ps
    → FailsScript e (commands_in ps)
fails n content lines all e old new errors.NoMemory h ps so_far = tt
fails n content lines all e old new (errors.BadLine line) h ps so_far = sym (from_none ps) ∙ stops n content lines all e old line h (commands_after [] ps) so_far
