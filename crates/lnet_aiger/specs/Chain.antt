-- Steps of which each may fail.
use Rattle.std.specs.Prelude.{◌≡◌, ℕ, Result, Ok, Err}
use Rattle.lnet_edge.specs.declared.fault.Fault.{Fault}
use Rattle.lnet_edge.specs.declared.fault.Malformed.{Malformed}
use Rattle.lnet_lines.specs.Lines.{Place}
use Rattle.lnet_edge.specs.declared.fault.ReadError.{ReadError}
use Rattle.lnet_edge.specs.declared.fault.ReadError.TheVariants as errors

-- go on with what was read, unless it was refused
infixl 10 ◌>>=◌
abbrev pub ◌>>=◌ : {A B E : Type 0} → Result A E → (A → Result B E) → Result B E
(Ok x) >>= f = f x
(Err e) >>= f = Err e

-- the fault stands on this line
abbrev pub at_line : {A : Type 0} → ℕ → Result A Fault → Result A Malformed
at_line number (Ok x) = Ok x
at_line number (Err f) = Err (record { line = number; kind = f })

-- an error is what reading gives, unless memory ran out
abbrev pub Fails : {Y : Type 0} → ReadError → Result Y Malformed → Type 0
Fails errors.NoMemory read = Unit {0}
Fails (errors.Malformed f) read = read ≡ Err f

-- what a function returned, seen by view, is what reading gives, unless memory ran out
abbrev pub Gives : {X Y : Type 0} → (X → Y) → Result X ReadError → Result Y Malformed → Type 0
Gives view (Ok x) read = read ≡ Ok (view x)
Gives view (Err e) read = Fails e read

-- the same, with the place that it left
abbrev pub GivesAt : {X Y : Type 0} → (X → Y) → Result X ReadError → Place → Result (Y × Place) Malformed → Type 0
GivesAt view (Ok x) left read = read ≡ Ok (view x, left)
GivesAt view (Err e) left read = Fails e read

-- what reading gives is what a function left where it returned Ok, unless memory ran out
abbrev pub GivesLeft : {X Y : Type 0} → Result X ReadError → Y → Result Y Malformed → Type 0
GivesLeft (Ok x) left read = read ≡ Ok left
GivesLeft (Err e) left read = Fails e read
