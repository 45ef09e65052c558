use Rattle.std.proofs.Common.{sym, ◌∙◌, [], arith}
use Rattle.std.specs.Option.{option_copied}
use Rattle.std.proofs.lemmas.Result.{err_from_is_err_and}
use Rattle.lnet_words.specs.Cutting.{is_byte, parts, parts_behind}
use Rattle.lnet_script.specs.Pieces.{pieces_of}
use Rattle.lnet_script.specs.Adding.{commands_after}
use Rattle.lnet_script.proofs.AddingLemmas.{goes_on, fails, from_none}
use Rattle.lnet_script.proofs.script.read_lines.Goals as goal

pub returns-in_err-add_line-clause-read : goal.returns-in_err-add_line-clause-read
returns-in_err-add_line-clause-read c =
    let p = err_from_is_err_and c.from_residual.result c.from_residual.ensures.1 in
    let so_far = rw c.in-Some.is at c.loop-rest.invariant.read in
    rw (p.1, p.2) (fails c.loop-rest.line c.cut.result.0.now (parts_behind (is_byte 10) (option_copied c.cut.result.1)) (parts (is_byte 10) c.in-Some.lines.now) c.cut.ensures.parts c.loop-rest.commands.items c.add_line.new.commands.items c.in_err-add_line.field-0.0 c.in_err-add_line.ensures.added (pieces_of c.args.bytes.now) so_far)

pub loop-rest-preserved : goal.loop-rest-preserved
loop-rest-preserved c =
    let so_far = rw c.in-Some.is at c.loop-rest.invariant.read in
    let few = rw c.in-Some.is at c.loop-rest.invariant.few in
    let lines = rw c.in-Some.is at c.loop-rest.invariant.lines in
    record {
      read = goes_on c.loop-rest.line c.cut.result.0.now (parts_behind (is_byte 10) (option_copied c.cut.result.1)) (parts (is_byte 10) c.in-Some.lines.now) c.cut.ensures.parts c.loop-rest.commands.items c.add_line.new.commands.items c.in_ok-add_line.ensures.added (commands_after [] (pieces_of c.args.bytes.now)) so_far;
      few = omega (arith, few, c.in_ok-add_line.ensures.few, c.cut.ensures.within);
      lines = omega (arith, lines, c.cut.ensures.shorter);
    }

pub returns-clause-read : goal.returns-clause-read
returns-clause-read c =
    let so_far = rw c.in_default.is at c.loop-rest.invariant.read in
    sym (from_none (pieces_of c.args.bytes.now)) ∙ sym so_far
