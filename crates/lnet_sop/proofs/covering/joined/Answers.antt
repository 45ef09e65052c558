use Rattle.std.proofs.Common.{◌≡◌, ◌+◌, ◌-◌, ap, ◌∙◌, arith, ℕ}
use Rattle.lnet_tables.specs.Bits.{Rows, and_rows, not_rows, expand_rows, variable_rows}
use Rattle.lnet_sop.specs.Isop.{or_rows}
use Rattle.lnet_sop.proofs.TableRows.{joined_is}
use Rattle.lnet_sop.proofs.covering.joined.Goals as goal

pub returns : goal.returns
returns c =
    let n : ℕ = c.vars-vars.result + 1 in
    let low : Rows = c.args.low in
    let high : Rows = c.args.high in
    let last : c.variable-last.result ≡ variable_rows n (n - 1) = c.variable-last.ensures in
    let first : c.and.result ≡ and_rows (expand_rows low n) (not_rows (variable_rows n (n - 1))) =
    c.and.ensures ∙ ap (λ (x : Rows). and_rows x c.not.result) c.expand.ensures
    ∙ ap (λ (x : Rows). and_rows (expand_rows low n) x) (c.not.ensures ∙ ap not_rows last) in
    let second : c.and-2.result ≡ and_rows (expand_rows high n) (variable_rows n (n - 1)) =
    c.and-2.ensures ∙ ap (λ (x : Rows). and_rows x c.variable-last.result) c.expand-2.ensures
    ∙ ap (λ (x : Rows). and_rows (expand_rows high n) x) last in
    c.or.ensures.rows ∙ ap (λ (x : Rows). or_rows x c.and-2.result) first ∙ ap (λ (x : Rows). or_rows (and_rows (expand_rows low n) (not_rows (variable_rows n (n - 1)))) x) second
    ∙ joined_is low high n (n - 1) c.requires.vars (omega arith) (omega arith)
