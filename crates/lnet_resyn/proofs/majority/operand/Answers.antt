use Rattle.std.proofs.Common.{ap, ◌∙◌, sym, slice_index_or}
use Rattle.lnet_tables.specs.Bits.{row, bit_xor2}
use Rattle.lnet_resyn.specs.Majority.{word_rows}
use Rattle.lnet_resyn.proofs.Words.{operand-plain, operand-other}
use Rattle.lnet_resyn.proofs.majority.operand.Goals as goal

pub returns-then-complement : goal.returns-then-complement
returns-then-complement c = λ n r few h.
    operand-other n (slice_index_or c.args.pool.now c.args.place 0) r few ((c.type_inv.pool c.args.place).fits) h
    ∙ ap (λ b. bit_xor2 b (row (word_rows n (slice_index_or c.args.pool.now c.args.place 0)) r)) (sym c.if-complement.true)

pub returns-else-complement : goal.returns-else-complement
returns-else-complement c = λ n r few h.
    operand-plain n (slice_index_or c.args.pool.now c.args.place 0) r few h
    ∙ ap (λ b. bit_xor2 b (row (word_rows n (slice_index_or c.args.pool.now c.args.place 0)) r)) (sym c.if-complement.false)
