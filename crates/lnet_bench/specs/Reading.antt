-- Reading a text line by line, and what functions return.
use Rattle.std.specs.Prelude.{◌≡◌, ℕ, ◌+◌, List, [], ◌∷◌, Result, Ok, Err, if◌then◌else◌}
use Rattle.lnet_edge.specs.declared.fault.Fault.{Fault}
use Rattle.lnet_edge.specs.declared.fault.Malformed.{Malformed}
use Rattle.lnet_edge.specs.declared.fault.ReadError.{ReadError}
use Rattle.lnet_edge.specs.declared.fault.ReadError.TheVariants as errors
use Rattle.lnet_bench.specs.declared.wiring.Driven.{Driven}
use Rattle.lnet_bench.specs.Statements.{StatementValue, statement_of}
use Rattle.lnet_bench.specs.Listing.{Listed, add}
use Rattle.lnet_bench.specs.Texts.{fault_on, is_blank_line, uncommented}

-- the lists with what a line says, unless it is refused
abbrev pub added : Driven → ℕ → Listed → Result StatementValue Fault → Result Listed Malformed
added driven n l (Ok s) = Ok (add driven l s)
added driven n l (Err kind) = Err (fault_on n kind)

abbrev pub line_after : Driven → ℕ → Listed → List ℕ → Result Listed Malformed
line_after driven n l line = if is_blank_line line then Ok l else added driven n l (statement_of (uncommented line))

abbrev pub onward : Result Listed Malformed → (Listed → Result Listed Malformed) → Result Listed Malformed
onward (Ok l) go = go l
onward (Err f) go = Err f

-- the same of lines one after the other, the first of which has this number
abbrev pub lines_after : Driven → ℕ → Listed → List (List ℕ) → Result Listed Malformed
lines_after driven n l [] = Ok l
lines_after driven n l (line ∷ lines) = onward (line_after driven n l line) (λ m. lines_after driven (n + 1) m lines)

-- an error is what reading gives, unless memory ran out
abbrev pub Fails : ReadError → Result Listed Malformed → Type 0
Fails errors.NoMemory read = Unit {0}
Fails (errors.Malformed f) read = read ≡ Err f

-- what a function that adds to lists returned, and the lists then, are what reading gives, unless memory ran out
abbrev pub Adds : {X : Type 0} → Result X ReadError → Listed → Result Listed Malformed → Type 0
Adds (Ok x) l read = read ≡ Ok l
Adds (Err e) l read = Fails e read

-- the same of a function that returns lists, seen by view
abbrev pub Gives : {X : Type 0} → (X → Listed) → Result X ReadError → Result Listed Malformed → Type 0
Gives view (Ok x) read = read ≡ Ok (view x)
Gives view (Err e) read = Fails e read
