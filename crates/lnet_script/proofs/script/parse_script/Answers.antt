use Rattle.lnet_script.proofs.ScriptLaws.{is_spelled, is_refused}
use Rattle.lnet_script.proofs.script.parse_script.Goals as goal

pub returns-clause-spelled : goal.returns-clause-spelled
returns-clause-spelled c = is_spelled c.args.bytes.now c.read_lines.result c.if-bytes-gt-SCRIPT_LIMIT.false c.read_lines.ensures.read

pub returns-clause-refused : goal.returns-clause-refused
returns-clause-refused c = is_refused c.args.bytes.now c.read_lines.result c.if-bytes-gt-SCRIPT_LIMIT.false c.read_lines.ensures.read
