-- Gates as look-up tables over their operands other than constants. Source: look-up tables in BENCH
-- as in ABC; the first operand is the least significant bit of a row.
use Rattle.std.specs.Prelude.{ℕ, ◌^◌, length}
use Rattle.lnet_tables.specs.Bits.{number_by}
use Rattle.lnet_edge.specs.Circuits.{EquationValue}
use Rattle.lnet_nodes.specs.Rows.{variables, gate_value}

-- the table of a gate: bit r is its value at row r
abbrev pub gate_table : EquationValue → ℕ
gate_table e = number_by (gate_value e) (2 ^ length (variables e.operands))
