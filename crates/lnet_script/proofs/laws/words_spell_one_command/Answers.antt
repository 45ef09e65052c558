use Rattle.lnet_script.proofs.CommandLaws.{command_is, command_again}
use Rattle.lnet_script.proofs.laws.words_spell_one_command.Goals as goal

pub returns : goal.returns
returns c = λ words d. (command_is words d, command_again words d)
