use Rattle.std.proofs.Common.{◌≡◌, ℕ, ◌<◌, Bool, sym, ◌∙◌, slice_index_or, List, length}
use Rattle.lnet_tables.specs.Bits.{row, is_set, bit_xor2}
use Rattle.lnet_tables.specs.Recipes.{apply}
use Rattle.lnet_tables.specs.declared.step.StepOp.TheVariants.{Maj}
use Rattle.lnet_tables.proofs.Ops.{same_rows}
use Rattle.lnet_resyn.specs.Majority.{word_rows, words_rows, operand, candidate_rows}
use Rattle.lnet_resyn.proofs.Words.{column-word}
use Rattle.lnet_resyn.proofs.majority.candidate_word.Goals as goal

-- an operand's bit is that of its column
bit_of_operand : (n : ℕ) (ws : List ℕ) (i word r : ℕ) (f g : Bool) → i < length ws → g ≡ f → is_set word r ≡ bit_xor2 g (row (word_rows n (slice_index_or ws i 0)) r) → is_set word r ≡ operand n (words_rows n ws) i f r
bit_of_operand n ws i word r f g h e is = is ∙ (λ k. bit_xor2 (e k) (row (sym (column-word n ws i h) k) r))

pub returns : goal.returns
unfolding candidate_rows
returns c = λ n few. same_rows n _ _ (λ r h.
    c.majority.ensures r
    ∙ (λ k. apply Maj
    (bit_of_operand n c.args.pool.now c.args.x.first c.operand-a.result r _ _ c.requires.first c.has_bit.ensures (c.operand-a.ensures n r few h) k)
    (bit_of_operand n c.args.pool.now c.args.x.second c.operand-b.result r _ _ c.requires.second c.has_bit-2.ensures (c.operand-b.ensures n r few h) k)
    (bit_of_operand n c.args.pool.now c.args.x.third c.operand-c.result r _ _ c.requires.third c.has_bit-3.ensures (c.operand-c.ensures n r few h) k)))
