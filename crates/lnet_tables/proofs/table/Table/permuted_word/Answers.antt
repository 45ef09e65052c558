use Rattle.std.proofs.Common.{◌≡◌, ℕ, ◌<◌, ◌^◌, ap}
use Rattle.lnet_tables.specs.Bits.{Rows, is_set, moved, row}
use Rattle.lnet_tables.proofs.Exchange.{permuted_rows, some_more}
use Rattle.lnet_tables.proofs.table.Table.permuted_word.Goals as goal

pub returns-then-self-le6-clause-rows : goal.returns-then-self-le6-clause-rows
returns-then-self-le6-clause-rows c =
    let v : c.self.inside.vars ≡ c.args.self.now.vars = ap (λ (t : Rows). t.vars) c.self.view_is in
    some_more c.permute_word.result
    (λ out. (r : ℕ) → r < 2 ^ c.self.inside.vars → is_set out r ≡ is_set c.word.result (moved r c.args.order c.self.inside.vars))
    (λ out. (r : ℕ) → r < 2 ^ c.args.self.now.vars → is_set out r ≡ row c.args.self.now (moved r c.args.order c.args.self.now.vars))
    (λ out h. permuted_rows c.args.self.now c.word.result out c.self.inside.vars c.args.order v c.if-self-le6.true c.word.ensures h)
    c.permute_word.ensures
