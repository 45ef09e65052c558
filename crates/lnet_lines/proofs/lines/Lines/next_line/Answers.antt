use Rattle.std.proofs.Common.{sym, ap, ◌∙◌}
use Rattle.lnet_lines.proofs.Steps.{lines_of-cut}
use Rattle.lnet_lines.specs.Lines.{lines_of, Place}
use Rattle.lnet_lines.proofs.lines.Lines.next_line.Goals as goal

pub returns-clause-line : goal.returns-clause-line
returns-clause-line c =
    let e = lines_of-cut c.self.inside.rest.now c.cut.result.0.now c.cut.result.1.now (sym c.is_empty.ensures ∙ c.if-is_empty.false) c.cut.ensures.line c.cut.ensures.rest in
    ap (λ (p : Place). lines_of p.rest) (sym c.self.view_is) ∙ e
