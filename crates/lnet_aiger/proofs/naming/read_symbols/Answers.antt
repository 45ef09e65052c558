use Rattle.std.proofs.Common.{sym, ◌∙◌, ap}
use Rattle.std.proofs.lemmas.Result.{err_from_is_err_and}
use Rattle.lnet_lines.specs.Lines.{Place}
use Rattle.lnet_aiger.specs.Views.{ports_view}
use Rattle.lnet_aiger.proofs.SymbolLemmas.{symbols_at-end, symbols_at-comment, symbols_at-step, symbols_at-fails}
use Rattle.lnet_aiger.proofs.naming.read_symbols.Goals as goal

pub returns-in_default : goal.returns-in_default
returns-in_default c = symbols_at-end c.loop-line.lines.number c.loop-line.lines.rest (ports_view c.loop-line.ports) _ c.in_default.ensures.line c.loop-line.invariant

pub returns-then-begins_comment : goal.returns-then-begins_comment
returns-then-begins_comment c = symbols_at-comment c.loop-line.lines.number c.loop-line.lines.rest c.in-Some.line.now c.next_line.new.self.rest (ports_view c.loop-line.ports) _ c.in-Some.ensures.line (sym c.begins_comment.ensures ∙ c.if-begins_comment.true) c.loop-line.invariant

pub loop-line-preserved : goal.loop-line-preserved
loop-line-preserved c =
    let n = ap (λ (p : Place). p.number) c.in-Some.ensures.after in
    rw n (symbols_at-step c.loop-line.lines.number c.loop-line.lines.rest c.in-Some.line.now c.next_line.new.self.rest (ports_view c.loop-line.ports) (ports_view c.read_symbol.new.ports) _ c.in-Some.ensures.line (sym c.begins_comment.ensures ∙ c.if-begins_comment.false) (rw (← c.number-number.ensures) c.in_ok-read_symbol.ensures) c.loop-line.invariant)

pub returns-in_err-read_symbol : goal.returns-in_err-read_symbol
returns-in_err-read_symbol c =
    let p = err_from_is_err_and c.from_residual.result c.from_residual.ensures.1 in
    rw (p.1, p.2) (symbols_at-fails c.loop-line.lines.number c.loop-line.lines.rest c.in-Some.line.now c.next_line.new.self.rest (ports_view c.loop-line.ports) c.in_err-read_symbol.field-0.0 _ c.in-Some.ensures.line (sym c.begins_comment.ensures ∙ c.if-begins_comment.false) (rw (← c.number-number.ensures) c.in_err-read_symbol.ensures) c.loop-line.invariant)
