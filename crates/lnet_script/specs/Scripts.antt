-- What a script is: its pieces, each the words of a command.
use Rattle.std.specs.Prelude.{◌≡◌, ◌⊎◌, ℕ, ◌<◌, ◌≤◌, nat_le, List, [], ◌∷◌, ◌++◌, length, Option, Some, None, Result, Ok, Err, if◌then◌else◌}
use Rattle.lnet_script.specs.declared.command.Command.{Command}
use Rattle.lnet_script.specs.declared.script.ScriptError.{ScriptError}
use Rattle.lnet_script.specs.declared.script.ScriptError.TheVariants as errors
use Rattle.lnet_script.specs.Pieces.{Piece, pieces_of}
use Rattle.lnet_script.specs.Spelling.{Spells}
use Rattle.lnet_script.specs.Reading.{command_of}

-- a script has at most so many bytes
abbrev pub script_limit : ℕ
script_limit = 1048576

-- the pieces spell the commands, one for one
abbrev pub AreSpelled : List Piece → List Command → Type 0
AreSpelled [] [] = Unit {0}
AreSpelled [] (c ∷ cs) = ⊥
AreSpelled (p ∷ ps) [] = ⊥
AreSpelled (p ∷ ps) (c ∷ cs) = Spells p.words c × AreSpelled ps cs

-- the bytes are a script of these commands
abbrev pub IsScript : List ℕ → List Command → Type 0
IsScript bytes cs = AreSpelled (pieces_of bytes) cs

-- the first piece that spells no command, after pieces that spell some, stands on this line
pub record IsBadAt (pieces : List Piece) (line : ℕ) : Type 0 where
  pub front : List Piece
  pub commands : List Command
  pub piece : Piece
  pub back : List Piece
  pub is : pieces ≡ front ++ piece ∷ back
  pub before : AreSpelled front commands
  pub no_command : (c : Command) → Spells piece.words c → ⊥
  pub on : piece.line ≡ line

abbrev pub IsBadLine : List ℕ → ℕ → Type 0
IsBadLine bytes line = IsBadAt (pieces_of bytes) line

-- why a script is refused: it is too long, or a piece is no command
abbrev pub Refuses : List ℕ → ScriptError → Type 0
Refuses bytes errors.NoMemory = Unit {0}
Refuses bytes (errors.BadLine line) = ((script_limit < length bytes) × (line ≡ 0)) ⊎ ((length bytes ≤ script_limit) × IsBadLine bytes line)

-- ---- as a function

abbrev pub with_first : Option Command → ℕ → Result (List Command) ℕ → Result (List Command) ℕ
with_first None line others = Err line
with_first (Some c) line (Ok cs) = Ok (c ∷ cs)
with_first (Some c) line (Err later) = Err later

-- the commands of pieces, or the line of the first that is none
abbrev pub commands_in : List Piece → Result (List Command) ℕ
commands_in [] = Ok []
commands_in (p ∷ ps) = with_first (command_of p.words) p.line (commands_in ps)

-- the commands of a script, or its bad line
abbrev pub commands_of : List ℕ → Result (List Command) ℕ
commands_of bytes = if nat_le (length bytes) script_limit then commands_in (pieces_of bytes) else Err 0

-- an error is what the function gives, unless memory ran out
abbrev pub FailsScript : ScriptError → Result (List Command) ℕ → Type 0
FailsScript errors.NoMemory read = Unit {0}
FailsScript (errors.BadLine line) read = read ≡ Err line

-- what a function returned, seen by view, is what the function gives, unless memory ran out
abbrev pub GivesScript : {X : Type 0} → (X → List Command) → Result X ScriptError → Result (List Command) ℕ → Type 0
GivesScript view (Ok x) read = read ≡ Ok (view x)
GivesScript view (Err e) read = FailsScript e read
