use Rattle.std.proofs.Common.{rules, ap, sym, ◌∙◌, ℕ, ◌^◌, ◌≡◌, arith}
use Rattle.lnet_tables.specs.Bits.{Rows, by_rows, is_set, row}
use Rattle.lnet_tables.specs.Kept.{rank, spread}
use Rattle.lnet_tables.proofs.Constants.{pow_within}
use Rattle.lnet_tables.proofs.Ops.{same_rows}
use Rattle.lnet_tables.proofs.Places.{spread_below}
use Rattle.lnet_tables.proofs.Rowwise.{told_by_rows}
use Rattle.lnet_tables.proofs.table.Table.kept_table.Goals as goal

pub returns-then-self-le6 : goal.returns-then-self-le6
returns-then-self-le6 c =
    let m : ℕ = c.args.support in
    let v : c.self.inside.vars ≡ c.args.self.vars = ap (λ (t : Rows). t.vars) c.self.view_is in
    let n : c.count_places-kept.result ≡ rank m c.args.self.vars = c.count_places-kept.ensures.value ∙ ap (rank m) v in
    let back : rank m c.args.self.vars ≡ rank m c.self.inside.vars = sym (ap (rank m) v) in
    c.from_word.ensures ∙ ap (λ k. by_rows k (is_set c.shrink_word.result)) n ∙ same_rows (rank m c.args.self.vars) (is_set c.shrink_word.result) _ (λ r lt.
    c.shrink_word.ensures r (rw back at lt)
    ∙ c.word.ensures (spread r m c.self.inside.vars) (omega (arith, spread_below r m c.self.inside.vars, pow_within c.self.inside.vars 6 (omega arith)))
    ∙ ap (λ k. row c.args.self (spread r m k)) v)

pub returns-else-self-le6 : goal.returns-else-self-le6
returns-else-self-le6 c =
    let m : ℕ = c.args.support in
    let v : c.self.inside.vars ≡ c.args.self.vars = ap (λ (t : Rows). t.vars) c.self.view_is in
    let n : c.count_places-kept.result ≡ rank m c.args.self.vars = c.count_places-kept.ensures.value ∙ ap (rank m) v in
    told_by_rows c.by_test.result (rank m c.args.self.vars) _ (c.by_test.ensures.vars ∙ n) (c.by_test.ensures.long ∙ ap (λ (k : ℕ). 2 ^ k) n)
    (λ r lt.
    let h = c.by_test.ensures.rows r (rw n lt) in
    let e : row c.by_test.result r ≡ row c.args.self (spread r m c.self.inside.vars) = search rules in
    e ∙ ap (λ k. row c.args.self (spread r m k)) v)
