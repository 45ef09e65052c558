use Rattle.std.proofs.Common.{◌≡◌, ◌/◌, ◌%◌, arith, ap, sym, ◌∙◌, get_or}
use Rattle.lnet_tables.specs.Bits.{Rows}
use Rattle.lnet_tables.specs.Words.{word_bit}
use Rattle.lnet_tables.specs.Inverse.{any_row}
use Rattle.lnet_tables.proofs.Constants.{few_rows, test_bit}
use Rattle.lnet_tables.proofs.table.Table.get.Goals as goal

pub bounds-self-inside-row : goal.bounds-self-inside-row
bounds-self-inside-row c =
    let e : c.self.inside.vars ≡ c.args.self.now.vars = ap (λ (x : Rows). x.vars) c.self.view_is in
    omega (arith, few_rows c.self.inside.vars c.self.invariant.few, rw (← e) at c.requires)

pub returns : goal.returns
unfolding word_bit
returns c =
    rw (← c.self.view_is) (test_bit (get_or c.self.inside.words (c.args.row / 64) 0) (c.args.row % 64) ∙ sym (any_row c.self.inside.vars c.self.inside.words c.self.invariant c.args.row))
