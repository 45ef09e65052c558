-- Adding the commands of pieces one after the other.
use Rattle.std.specs.Prelude.{◌≡◌, ℕ, List, [], ◌∷◌, ◌++◌, Option, Some, None, Result, Ok, Err}
use Rattle.lnet_script.specs.declared.command.Command.{Command}
use Rattle.lnet_script.specs.declared.script.ScriptError.{ScriptError}
use Rattle.lnet_script.specs.declared.script.ScriptError.TheVariants as errors
use Rattle.lnet_script.specs.Pieces.{Piece}
use Rattle.lnet_script.specs.Reading.{command_of}

-- go on with a command, or refuse the line
abbrev pub onward : Option Command → ℕ → (Command → Result (List Command) ℕ) → Result (List Command) ℕ
onward None line go = Err line
onward (Some c) line go = go c

-- the commands so far, and those of the pieces that come, or the line of the first piece that is none
abbrev pub commands_after : List Command → List Piece → Result (List Command) ℕ
commands_after cs [] = Ok cs
commands_after cs (p ∷ ps) = onward (command_of p.words) p.line (λ c. commands_after (cs ++ c ∷ []) ps)

-- what a function that adds commands returned, and the commands then, are what reading gives, unless memory ran out
abbrev pub GivesLine : {X : Type 0} → Result X ScriptError → List Command → Result (List Command) ℕ → Type 0
GivesLine (Ok x) cs read = read ≡ Ok cs
GivesLine (Err errors.NoMemory) cs read = Unit {0}
GivesLine (Err (errors.BadLine line)) cs read = read ≡ Err line
