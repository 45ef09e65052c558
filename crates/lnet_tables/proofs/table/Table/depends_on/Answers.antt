use Rattle.std.proofs.Common.{ap, ◌≡◌, ◌^◌, length, arith, rules}
use Rattle.lnet_tables.specs.Bits.{Rows}
use Rattle.lnet_tables.specs.Words.{word_bit}
use Rattle.lnet_tables.proofs.Rowwise.{rows_long}
use Rattle.lnet_tables.proofs.WordDepends.{halves_tell, Halves}
use Rattle.lnet_tables.proofs.table.Table.depends_on.Goals as goal

pub cofactor_word-requires : goal.cofactor_word-requires
cofactor_word-requires c =
    let v : c.self.inside.vars ≡ c.args.self.now.vars = ap (λ (t : Rows). t.vars) c.self.view_is in
    omega arith

pub returns-then-self-le6 : goal.returns-then-self-le6
returns-then-self-le6 c =
    let v : c.self.inside.vars ≡ c.args.self.now.vars = ap (λ (t : Rows). t.vars) c.self.view_is in
    let long : length c.args.self.now.bits ≡ 2 ^ c.args.self.now.vars = rw (← c.self.view_is) (rows_long c.self.inside.vars (word_bit c.self.inside.words)) in
    let h : Halves c.args.self.now c.args.index c.word-word.result c.cofactor_word.result c.cofactor_word-then-self-le6.result = record {
      long = long;
      few = omega arith;
      inside = c.requires;
      word = c.word-word.ensures;
      low = c.cofactor_word.ensures;
      high = c.cofactor_word-then-self-le6.ensures;
      low_fits = search rules;
      high_fits = search rules;
    } in
    halves_tell c.args.self.now c.args.index _ _ _ h
