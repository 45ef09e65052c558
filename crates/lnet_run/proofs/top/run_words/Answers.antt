use Rattle.std.proofs.Common.{All, None, sym, subst}
use Rattle.lnet_script.specs.Pieces.{pieces_of}
use Rattle.lnet_session.specs.Steps.{IsCommand}
use Rattle.lnet_run.proofs.Accepted.{commands-are, ran_script}
use Rattle.lnet_run.proofs.top.run_words.Goals as goal

pub run_commands-requires-clause-commands : goal.run_commands-requires-clause-commands
run_commands-requires-clause-commands g c =
    subst (All IsCommand) (sym c.deref.ensures.value)
    (commands-are (pieces_of c.as_bytes.result.now) c.in-Ok.commands.items c.in-Ok.ensures.spelled.1)

pub returns-in-Ok-clause-ends : goal.returns-in-Ok-clause-ends
returns-in-Ok-clause-ends g c = ran_script _ c.in-Some.script.now c.as_bytes.result.now c.in-Ok.commands.items c.deref.result.now c.run_commands.result _ _ c.in-Some.ensures c.as_bytes.ensures.value c.in-Ok.ensures.spelled c.deref.ensures.value (c.run_commands.ensures.runs None)
