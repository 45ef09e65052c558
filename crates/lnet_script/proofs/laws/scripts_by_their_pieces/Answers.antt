use Rattle.std.proofs.Common.{sym, ◌∙◌}
use Rattle.lnet_script.specs.Pieces.{pieces_of}
use Rattle.lnet_script.proofs.ScriptLaws.{within, read_spelled, spelled_read, read_bad, bad_read}
use Rattle.lnet_script.proofs.laws.scripts_by_their_pieces.Goals as goal

pub returns-clause-read : goal.returns-clause-read
returns-clause-read c = λ bytes cs short. (λ e. read_spelled (pieces_of bytes) cs (sym (within bytes short) ∙ e), λ is. within bytes short ∙ spelled_read (pieces_of bytes) cs is)

pub returns-clause-refused : goal.returns-clause-refused
returns-clause-refused c = λ bytes line short. (λ e. read_bad (pieces_of bytes) line (sym (within bytes short) ∙ e), λ is. within bytes short ∙ bad_read (pieces_of bytes) line is)
