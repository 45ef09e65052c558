use Rattle.std.proofs.Common.{◌≡◌, ◌-◌, ap, ◌∙◌, arith, ℕ}
use Rattle.lnet_tables.specs.Bits.{Rows, row}
use Rattle.lnet_tables.specs.Words.{word_bit}
use Rattle.lnet_sop.specs.Isop.{half}
use Rattle.lnet_sop.proofs.TableRows.{half_is}
use Rattle.lnet_sop.proofs.covering.half.Goals as goal

pub returns-clause-rows : goal.returns-clause-rows
returns-clause-rows c =
    let last : c.vars-last.result - 1 ≡ c.args.table.vars - 1 = ap (λ (k : ℕ). k - 1) c.vars-last.ensures.value in
    c.from_words.ensures
    ∙ half_is c.args.table (c.vars-last.result - 1) c.args.value (word_bit c.words.result) (omega arith)
    (λ r. c.words.ensures.rows r ∙ ap (λ (t : Rows). row t r) c.cofactor.ensures)
    ∙ ap (λ (k : ℕ). half c.args.table k c.args.value) last
