-- Reading a content line by line, and what functions return.
use Rattle.std.specs.Prelude.{◌≡◌, ℕ, ◌==◌, List, [], ◌∷◌, length, Result, Ok, Err, if◌then◌else◌}
use Rattle.lnet_edge.specs.declared.fault.Fault.{Fault}
use Rattle.lnet_edge.specs.declared.fault.Malformed.{Malformed}
use Rattle.lnet_edge.specs.declared.fault.ReadError.{ReadError}
use Rattle.lnet_edge.specs.declared.fault.ReadError.TheVariants as errors
use Rattle.lnet_bliflines.specs.Words.{fault_on, LineWords}
use Rattle.lnet_blif.specs.Statements.{StatementValue, statement_at}
use Rattle.lnet_blif.specs.Listing.{Listed, State, AtFirst, nothing, closed, position_of, at, add}

-- what a function returned, seen by view, is what reading gives
abbrev pub Reads : {X Y : Type 0} → (X → Y) → Result X Fault → Result Y Fault → Type 0
Reads view (Ok x) read = read ≡ Ok (view x)
Reads view (Err f) read = read ≡ Err f

-- the lists and the place with what a line says, unless it is refused
abbrev pub added : ℕ → State → Result StatementValue Fault → Result State Malformed
added n s (Ok t) = Ok (add s t)
added n s (Err kind) = Err (fault_on n kind)

abbrev pub line_after : State → LineWords → Result State Malformed
line_after s line = if length line.words == 0 then Ok s else added line.number s (statement_at (position_of s.place) line.words)

abbrev pub words_after : State → Result LineWords Malformed → Result State Malformed
words_after s (Ok line) = line_after s line
words_after s (Err fault) = Err fault

abbrev pub onward : Result State Malformed → (State → Result State Malformed) → Result State Malformed
onward (Ok s) go = go s
onward (Err fault) go = Err fault

-- the same of lines one after the other
abbrev pub lines_after : State → List (Result LineWords Malformed) → Result State Malformed
lines_after s [] = Ok s
lines_after s (line ∷ lines) = onward (words_after s line) (λ t. lines_after t lines)

-- before the first line
abbrev pub start : State
start = at nothing AtFirst

-- the lists at the end, where the last cover ends too
abbrev pub finished : Result State Malformed → Result Listed Malformed
finished (Ok s) = Ok (closed s.lists s.place)
finished (Err fault) = Err fault

-- an error is what reading gives, unless memory ran out
abbrev pub Fails : {Y : Type 0} → ReadError → Result Y Malformed → Type 0
Fails errors.NoMemory read = Unit {0}
Fails (errors.Malformed f) read = read ≡ Err f

-- what a function returned, seen by view, is what reading gives, unless memory ran out
abbrev pub Gives : {X Y : Type 0} → (X → Y) → Result X ReadError → Result Y Malformed → Type 0
Gives view (Ok x) read = read ≡ Ok (view x)
Gives view (Err e) read = Fails e read
