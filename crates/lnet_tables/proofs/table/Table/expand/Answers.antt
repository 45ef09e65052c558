use Rattle.std.proofs.Common.{◌≡◌, ◌^◌, ◌%◌, ap, sym, ◌∙◌, arith}
use Rattle.std.proofs.lemmas.Nat.{mod_below, pow_pos}
use Rattle.lnet_tables.specs.Bits.{Rows, row}
use Rattle.lnet_tables.specs.Inverse.{any_row}
use Rattle.lnet_tables.proofs.Constants.{pow_within}
use Rattle.lnet_tables.proofs.Ops.{same_rows}
use Rattle.lnet_tables.proofs.table.Table.expand.Goals as goal

pub returns-then-vars-le6 : goal.returns-then-vars-le6
returns-then-vars-le6 c =
    let v : c.self.inside.vars ≡ c.args.self.vars = ap (λ (t : Rows). t.vars) c.self.view_is in
    c.from_word.ensures ∙ same_rows c.args.vars _ _ (λ r lt.
    c.repeat_word.ensures r lt
    ∙ c.word.ensures (r % 2 ^ c.self.inside.vars) (omega (arith, mod_below r (2 ^ c.self.inside.vars) (pow_pos c.self.inside.vars), pow_within c.self.inside.vars 6 (omega arith)))
    ∙ ap (λ k. row c.args.self (r % 2 ^ k)) v)

pub returns-else-vars-le6 : goal.returns-else-vars-le6
returns-else-vars-le6 c =
    rw (← c.self.view_is) (c.from_words.ensures ∙ same_rows c.args.vars _ _ (λ r lt.
    c.repeat_words.ensures r lt ∙ sym (any_row c.self.inside.vars c.self.inside.words c.self.invariant (r % 2 ^ c.self.inside.vars))))
