use Rattle.std.proofs.Common.{ℕ, List, ◌^◌, ◌≤◌, ◌≡◌, length, refl, ap, ◌∙◌, arith}
use Rattle.lnet_edge.specs.CircuitLists.{equation_view}
use Rattle.lnet_tables.specs.Bits.{bit_of}
use Rattle.lnet_nodes.specs.Rows.{variables, gate_value}
use Rattle.lnet_benchwriter.proofs.RowTables.{table-step, table-none, byte-bit, few_rows}
use Rattle.lnet_nodes.proofs.GatesAt.{few_variables}
use Rattle.lnet_edge.specs.declared.circuit.WireRef.{WireRef}
use Rattle.lnet_benchwriter.proofs.rows.gate_table.Goals as goal

few : (rs : List WireRef) (n : ℕ) → length rs ≤ 6 → n ≡ length (variables rs) → n ≤ 6
few rs n most is = let h = few_variables rs in omega arith

pub overflow_cast-operands : goal.overflow_cast-operands
overflow_cast-operands c = let h = few c.args.equation.now.operands.items c.args.operands c.requires.few c.requires.variables in omega arith

pub pow-row-requires : goal.pow-row-requires
pow-row-requires c = let r = few_rows c.args.operands (few c.args.equation.now.operands.items c.args.operands c.requires.few c.requires.variables) in omega arith

pub loop-row-init : goal.loop-row-init
loop-row-init c = table-none _ (2 ^ c.args.operands) c.pow-row.result c.pow-row.ensures

pub overflow_mul-table : goal.overflow_mul-table
overflow_mul-table c =
    let low : c.loop-row.row ≤ 2 ^ c.args.operands = (let a = c.loop-row.auto.row in let b = c.pow-row.ensures in omega arith) in
    let most = few_rows c.args.operands (few c.args.equation.now.operands.items c.args.operands c.requires.few c.requires.variables) in
    let h = (table-step (gate_value (equation_view c.args.equation.now)) (2 ^ c.args.operands) c.loop-row.row c.loop-row.table _ c.loop-row-test.true low most c.loop-row.invariant refl).1 in
    omega arith

pub overflow_add-table : goal.overflow_add-table
overflow_add-table c =
    let low : c.loop-row.row ≤ 2 ^ c.args.operands = (let a = c.loop-row.auto.row in let b = c.pow-row.ensures in omega arith) in
    let most = few_rows c.args.operands (few c.args.equation.now.operands.items c.args.operands c.requires.few c.requires.variables) in
    let h = (table-step (gate_value (equation_view c.args.equation.now)) (2 ^ c.args.operands) c.loop-row.row c.loop-row.table c.from.result c.loop-row-test.true low most c.loop-row.invariant (c.from.ensures ∙ byte-bit c.gate_value.result ∙ ap bit_of c.gate_value.ensures)).1 in
    omega arith

pub loop-row-preserved : goal.loop-row-preserved
loop-row-preserved c =
    let low : c.loop-row.row ≤ 2 ^ c.args.operands = (let a = c.loop-row.auto.row in let b = c.pow-row.ensures in omega arith) in
    let most = few_rows c.args.operands (few c.args.equation.now.operands.items c.args.operands c.requires.few c.requires.variables) in
    (table-step (gate_value (equation_view c.args.equation.now)) (2 ^ c.args.operands) c.loop-row.row c.loop-row.table c.from.result c.loop-row-test.true low most c.loop-row.invariant (c.from.ensures ∙ byte-bit c.gate_value.result ∙ ap bit_of c.gate_value.ensures)).0
