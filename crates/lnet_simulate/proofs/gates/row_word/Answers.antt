use Rattle.std.proofs.Common.{◌≡◌, ◌<◌, ◌^◌, ◌+◌, ◌-◌, ◌/◌, ◌%◌, ℕ, Bool, true, false, length, map, drop, eqb, bit_and, ap, subst, ◌∙◌, arith}
use mathlib.Core.Bool.{◌&&◌}
use Rattle.std.proofs.lemmas.Bool.{eq-eqb, ne_eqb}
use Rattle.lnet_tables.specs.Bits.{is_set}
use Rattle.lnet_gates.specs.declared.signal.Signal.{Signal}
use Rattle.lnet_gates.specs.Gates.{row_of}
use Rattle.lnet_simulate.specs.Lanes.{lane_of}
use Rattle.lnet_simulate.proofs.LaneLemmas.{each-lane, row-step, half-low, row-end}
use Rattle.lnet_simulate.proofs.gates.row_word.Goals as goal
use Rattle.lnet_simulate.proofs.gates.row_word.Goals.{then-rest-eq1, else-rest-eq1}

abbrev none : Signal
none = record { node = record { 0 = 0 }; complement = false }

pub loop-fanin-init : goal.loop-fanin-init
loop-fanin-init c = record {
  lanes = λ j lt. ap (λ (b : Bool). b && eqb c.args.row (row_of (map (lane_of c.args.words.now j) c.args.fanins.now))) (each-lane j lt);
  low =
      let e : length c.args.fanins.now ≡ length c.args.fanins.now - 0 = omega arith in
      subst (λ (k : ℕ). c.args.row < 2 ^ k) e c.requires.row;
}

pub loop-fanin-preserved : goal.loop-fanin-preserved
loop-fanin-preserved c =
    let fits : c.signal_word-value.result < 2 ^ 64 = omega arith in
    record {
      lanes = λ j lt. elim c.if-rest-eq1.branch [
        | then-rest-eq1 w ↦
            ap (λ (v : ℕ). is_set (bit_and c.loop-fanin.word v) j && eqb (c.loop-fanin.rest / 2) (row_of (map (lane_of c.args.words.now j) (drop (c.loop-fanin.fanin-index + 1) c.args.fanins.now)))) w.word-is
            ∙ row-step (lane_of c.args.words.now j) c.args.fanins.now c.loop-fanin.fanin-index none c.loop-fanin.word c.signal_word-value.result c.loop-fanin.rest c.args.row j true
            c.loop-fanin-test.true lt fits (eq-eqb (c.loop-fanin.rest % 2) 1 w.if-rest-eq1.true) (c.signal_word-value.ensures j lt) (c.loop-fanin.invariant.lanes j lt)
        | else-rest-eq1 w ↦
            ap (λ (v : ℕ). is_set (bit_and c.loop-fanin.word v) j && eqb (c.loop-fanin.rest / 2) (row_of (map (lane_of c.args.words.now j) (drop (c.loop-fanin.fanin-index + 1) c.args.fanins.now)))) w.word-is
            ∙ row-step (lane_of c.args.words.now j) c.args.fanins.now c.loop-fanin.fanin-index none c.loop-fanin.word c.signal_word-value.result c.loop-fanin.rest c.args.row j false
            c.loop-fanin-test.true lt fits (ne_eqb (c.loop-fanin.rest % 2) 1 w.if-rest-eq1.false) (c.signal_word-value.ensures j lt) (c.loop-fanin.invariant.lanes j lt)
      ];
      low = half-low c.loop-fanin.rest (length c.args.fanins.now) c.loop-fanin.fanin-index c.loop-fanin-test.true c.loop-fanin.invariant.low;
    }

pub returns : goal.returns
returns c = λ j lt. row-end (lane_of c.args.words.now j) c.args.fanins.now c.loop-fanin.fanin-index c.loop-fanin.word c.loop-fanin.rest c.args.row j c.loop-fanin-test.false c.loop-fanin.invariant.low (c.loop-fanin.invariant.lanes j lt)
