-- How the rule of an equation is built over the signals of its operands. Source: the meaning of rules as in circuits; the order
-- of building is this project's own.
use Rattle.std.specs.Prelude.{ℕ, zero, suc, ◌/◌, ◌%◌, ◌^◌, ◌<◌, ◌==◌, Bool, true, false, not, ◌&&◌, nat_le, List, [], ◌∷◌, ◌++◌, length, Result, Ok, Err, if◌then◌else◌}
use Rattle.lnet_tables.specs.Bits.{number_by}
use Rattle.lnet_gates.specs.declared.signal.Signal.{Signal}
use Rattle.lnet_gates.specs.declared.gate.Kind.{Kind}
use Rattle.lnet_gates.specs.declared.gate.Kind.TheVariants.{Aig, Xag, Mig, Klut}
use Rattle.lnet_gates.specs.declared.gate.Op.TheVariants as op
use Rattle.lnet_gates.specs.Operands.{complemented, constant, flipped}
use Rattle.lnet_model.specs.Networks.{NetworkValue}
use Rattle.lnet_hashed.specs.Strashed.{Placed}
use Rattle.lnet_hashed.specs.Laid.{made}
use Rattle.lnet_edge.specs.declared.circuit.Rule.{Rule}
use Rattle.lnet_edge.specs.declared.circuit.Rule.TheVariants as rule
use Rattle.lnet_edge.specs.Covers.{CoverValue}
use Rattle.lnet_edge.specs.Values.{cover_value}
use Rattle.lnet_rules.specs.declared.joining.Join.TheVariants.{And, Or, Xor}
use Rattle.lnet_rules.specs.Joins.{turned, by_join, folded}

-- ---- covers

-- what a cell names of its operand: the complement at `0`, the operand at `1`, and nothing at `-`
abbrev pub literal_of : ℕ → Signal → List Signal
literal_of cell s = if cell == 48 then complemented s ∷ [] else if cell == 49 then s ∷ [] else []

-- what a row names of the operands
abbrev pub literals : List ℕ → List Signal → List Signal
literals (cell ∷ row) (s ∷ ss) = literal_of cell s ++ literals row ss
literals _ _ = []

-- the signals of a row joined by and: none gives true
abbrev pub row_built : Kind → NetworkValue → List ℕ → List Signal → Placed
row_built kind N row ss = folded kind And true N (literals row ss)

-- a row built, and joined by or with what the rows before it gave
abbrev pub with_row : Kind → Placed → List ℕ → List Signal → Placed
with_row kind p row ss = let q : Placed = row_built kind p.network row ss in by_join kind Or q.network p.signal q.signal

unfoldable pub rows_from : Kind → Placed → List (List ℕ) → List Signal → Placed
rows_from kind p [] ss = p
rows_from kind p (row ∷ rows) ss = rows_from kind (with_row kind p row ss) rows ss

-- the rows one after another, each built after the `or` of those before it; no row gives false
abbrev pub rows_built : Kind → NetworkValue → List (List ℕ) → List Signal → Placed
rows_built kind N [] ss = record { network = N; signal = constant false }
rows_built kind N (row ∷ rows) ss = rows_from kind (row_built kind N row ss) rows ss

-- a cover without rows is false, and rows of value 0 say where it is false
abbrev pub by_rows : Kind → NetworkValue → Bool → List (List ℕ) → List Signal → Placed
by_rows kind N value [] ss = record { network = N; signal = constant false }
by_rows kind N value (row ∷ rows) ss = turned (not value) (rows_built kind N (row ∷ rows) ss)

-- the n lowest bits of a row's number, the lowest first
abbrev pub bits_of : ℕ → ℕ → List Bool
bits_of zero r = []
bits_of (suc n) r = (r % 2 == 1) ∷ bits_of n (r / 2)

-- the table of a cover over n operands, at most six, as a word: row r has the cover's value at the n lowest bits of r
abbrev pub cover_table : CoverValue → ℕ → ℕ
cover_table cover n = number_by (λ r. cover_value cover (bits_of n r)) 64

abbrev pub has_tables : Kind → Bool
has_tables Klut = true
has_tables Aig = false
has_tables Xag = false
has_tables Mig = false

-- a cover: one look-up table where gates are tables and there are at most six operands, and else row by row
abbrev pub cover_built : Kind → NetworkValue → CoverValue → List Signal → Placed
cover_built kind N cover ss =
    if has_tables kind && nat_le (length ss) 6 then made kind N (op.Lut (cover_table cover (length ss))) ss else by_rows kind N cover.value cover.rows ss

-- ---- rules

-- the rule over the signals of the operands; its complement comes last
abbrev pub rule_built : Kind → NetworkValue → Rule → List Signal → Placed
rule_built kind N (rule.And c) ss = turned c (folded kind And true N ss)
rule_built kind N (rule.Or c) ss = turned c (folded kind Or false N ss)
rule_built kind N (rule.Xor c) ss = turned c (folded kind Xor false N ss)
rule_built kind N (rule.Maj c) ss = turned c (made kind N op.Maj ss)
rule_built kind N (rule.Lut table) ss = made kind N (op.Lut table) ss
rule_built kind N (rule.Cover cover) ss = cover_built kind N cover ss

-- an answer, its signal as it is or complemented
abbrev pub turned_answer : {E : Type 0} → Bool → Result Signal E → Result Signal E
turned_answer c (Ok s) = Ok (flipped c s)
turned_answer c (Err e) = Err e

-- a look-up table's table is a word of 64 bits
abbrev pub FitsTable : Rule → Type 0
FitsTable (rule.And c) = Unit {0}
FitsTable (rule.Or c) = Unit {0}
FitsTable (rule.Xor c) = Unit {0}
FitsTable (rule.Maj c) = Unit {0}
FitsTable (rule.Lut table) = table < 2 ^ 64
FitsTable (rule.Cover cover) = Unit {0}
