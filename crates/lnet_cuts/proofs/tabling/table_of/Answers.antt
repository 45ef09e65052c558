use Rattle.std.proofs.Common.{◌∙◌, sym, arith, ℕ, Bool, refl}
use Rattle.lnet_tables.specs.Words.{word_bit}
use Rattle.lnet_gates.specs.Gates.{apply}
use Rattle.lnet_model.specs.Cuts.{values_of}
use Rattle.lnet_cuts.proofs.TableRows.{bit_zeros, rows-made}
use Rattle.lnet_cuts.proofs.tabling.table_of.Goals as goal
use Rattle.lnet_cuts.proofs.tabling.table_of.Goals.{then-gate_bit, else-gate_bit}

pub loop-row-init : goal.loop-row-init
loop-row-init c = record { made = λ r h. absurd (omega arith); clear = λ r h. bit_zeros r }

pub loop-row-preserved : goal.loop-row-preserved
loop-row-preserved c =
    let f : ℕ → Bool = λ r. apply c.args.gate.now.op c.args.gate.now.phase (values_of c.args.all.now r c.args.gate.now.fanins c.args.cuts.now) in
    let n = c.loop-row.row in
    elim c.if-gate_bit.branch [
      | then-gate_bit w ↦ rw w.words-is record {
        made = rows-made (word_bit w.set_row.new.words) (word_bit c.loop-row.words) f n c.loop-row.invariant.made (w.set_row.ensures.here ∙ sym w.if-gate_bit.true
            ∙ c.gate_bit.ensures) w.set_row.ensures.others;
        clear = λ r h. w.set_row.ensures.others r (λ e. omega arith) ∙ c.loop-row.invariant.clear r (omega arith);
      }
      | else-gate_bit w ↦ rw w.words-is record {
        made = rows-made (word_bit c.loop-row.words) (word_bit c.loop-row.words) f n c.loop-row.invariant.made (c.loop-row.invariant.clear n (omega arith) ∙ sym w.if-gate_bit.false
            ∙ c.gate_bit.ensures) (λ r ne. refl);
        clear = λ r h. c.loop-row.invariant.clear r (omega arith);
      }
    ]
