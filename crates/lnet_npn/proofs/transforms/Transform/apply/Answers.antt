use Rattle.std.proofs.Common.{arith, ◌≡◌, ◌∙◌, ap, ℕ, ◌<◌}
use Rattle.lnet_tables.specs.Bits.{Rows, not_rows, permute_rows, is_set}
use Rattle.lnet_npn.specs.Transforms.{turned}
use Rattle.lnet_npn.proofs.Orders.{Below4, order_below}
use Rattle.lnet_npn.proofs.Applied.{ordered_rows, plain_is, complement_is, padded_same}
use Rattle.lnet_npn.proofs.transforms.Transform.apply.Goals as goal

pub permute-ordered-requires : goal.permute-ordered-requires
permute-ordered-requires c =
    let b : Below4 c.args.self.now.order = order_below _ c.requires.lawful.order in
    let four : c.table_of-flipped.result.vars ≡ 4 = ap (λ (t : Rows). t.vars) c.table_of-flipped.ensures in
    record {
      inside = λ i lt.
          let l : i < 4 = omega arith in
          rw (four, padded_same _ _ b.long c.padded.ensures i l) (b.at i l);
    }

pub returns-then-self : goal.returns-then-self
returns-then-self c =
    let b : Below4 c.args.self.now.order = order_below _ c.requires.lawful.order in
    c.not.ensures
    ∙ ap not_rows
    (c.permute-ordered.ensures ∙ ap (λ (t : Rows). permute_rows t c.padded.result) c.table_of-flipped.ensures
    ∙ ordered_rows c.args.self.now c.args.table c.flip_all.result c.padded.result c.requires.lawful
    (λ x lt. c.flip_all.ensures x lt ∙ ap (λ (n : ℕ). is_set n (turned c.args.self.now.flips x)) c.word_of.ensures.value)
    (padded_same _ _ b.long c.padded.ensures))
    ∙ complement_is c.args.self.now c.args.table c.if-self.true

pub returns-else-self : goal.returns-else-self
returns-else-self c =
    let b : Below4 c.args.self.now.order = order_below _ c.requires.lawful.order in
    c.permute-ordered.ensures ∙ ap (λ (t : Rows). permute_rows t c.padded.result) c.table_of-flipped.ensures
    ∙ ordered_rows c.args.self.now c.args.table c.flip_all.result c.padded.result c.requires.lawful
    (λ x lt. c.flip_all.ensures x lt ∙ ap (λ (n : ℕ). is_set n (turned c.args.self.now.flips x)) c.word_of.ensures.value)
    (padded_same _ _ b.long c.padded.ensures)
    ∙ plain_is c.args.self.now c.args.table c.if-self.false
