use Rattle.std.proofs.Common.{◌≤◌, ◌^◌, ◌/◌, ℕ, length, map, bit_and, sym, ap, ◌∙◌, arith, pow_mono}
use Rattle.std.proofs.lemmas.Bool.{eq-eqb, ne_eqb}
use Rattle.std.proofs.lemmas.Nat.{one_shl}
use Rattle.lnet_tables.specs.Bits.{is_set}
use Rattle.lnet_tables.proofs.Constants.{test_bit}
use Rattle.lnet_gates.specs.Gates.{row_of}
use Rattle.lnet_simulate.specs.Lanes.{lane_of}
use Rattle.lnet_simulate.proofs.LaneLemmas.{no-row, true-row, false-row, all-rows, row-below}
use Rattle.lnet_simulate.proofs.gates.table_word.Goals as goal
use Rattle.lnet_simulate.proofs.gates.table_word.Goals.{then-table-row-eq1, else-table-row-eq1}

pub loop-row-init : goal.loop-row-init
loop-row-init c = λ j lt. no-row j (row_of (map (lane_of c.args.words.now j) c.args.fanins.now)) c.args.table

pub overflow_shr-table : goal.overflow_shr-table
overflow_shr-table c =
    let few : length c.args.fanins.now ≤ 6 = c.requires.few in
    let one = one_shl (length c.args.fanins.now) 64 (omega arith) in
    let most : 2 ^ length c.args.fanins.now ≤ 2 ^ 6 = pow_mono {i = length c.args.fanins.now} {j = 6} few in
    omega arith

pub loop-row-preserved : goal.loop-row-preserved
loop-row-preserved c = λ j lt.
    let x : ℕ = row_of (map (lane_of c.args.words.now j) c.args.fanins.now) in
    elim c.if-table-row-eq1.branch [
      | then-table-row-eq1 w ↦
          ap (λ (v : ℕ). is_set v j) w.word-is
          ∙ true-row c.loop-row.word w.row_word-word.result c.loop-row.row j x c.args.table
          (sym (test_bit c.args.table c.loop-row.row) ∙ eq-eqb (bit_and (c.args.table / 2 ^ c.loop-row.row) 1) 1 w.if-table-row-eq1.true)
          (w.row_word-word.ensures j lt) (c.loop-row.invariant j lt)
      | else-table-row-eq1 w ↦
          ap (λ (v : ℕ). is_set v j) w.word-is
          ∙ false-row c.loop-row.word c.loop-row.row j x c.args.table
          (sym (test_bit c.args.table c.loop-row.row) ∙ ne_eqb (bit_and (c.args.table / 2 ^ c.loop-row.row) 1) 1 w.if-table-row-eq1.false)
          (c.loop-row.invariant j lt)
    ]

pub returns : goal.returns
returns c = λ j lt.
    let below = row-below (lane_of c.args.words.now j) c.args.fanins.now in
    let few : length c.args.fanins.now ≤ 6 = c.requires.few in
    let one = one_shl (length c.args.fanins.now) 64 (omega arith) in
    all-rows c.loop-row.word j c.loop-row.row (row_of (map (lane_of c.args.words.now j) c.args.fanins.now)) c.args.table (let done = c.loop-row-test.false in omega arith) (c.loop-row.invariant j lt)
