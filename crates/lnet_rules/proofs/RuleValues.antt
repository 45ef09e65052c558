-- The values of rules that are built.
use Rattle.std.proofs.Common.{◌≡◌, ℕ, zero, suc, ◌+◌, ◌*◌, ◌/◌, ◌%◌, ◌^◌, ◌<◌, ◌≤◌, ◌==◌, Bool, true, false, not, cond, ◌&&◌, ◌||◌, List, [], ◌∷◌, ◌++◌, map, length, refl, sym, ap, ◌∙◌, inl, inr, arith, nat_le, leb-true}
use Rattle.std.specs.Prelude.{if◌then◌else◌}
use Rattle.std.specs.List.{list_any}
use Rattle.std.proofs.lemmas.List.{map-append, length-map}
use Rattle.std.proofs.lemmas.Bool.Decides.{eqb_tells}
use lib.Pow.{pow_pos}
use Rattle.std.proofs.Math.Nat.{pow-suc}
use Rattle.lnet_tables.specs.Bits.{is_set}
use Rattle.lnet_tables.proofs.RowNumbers.{number_below}
use Rattle.lnet_tables.proofs.Depends.{number_bit}
use Rattle.lnet_gates.specs.declared.signal.Signal.{Signal}
use Rattle.lnet_gates.specs.declared.gate.Kind.{Kind}
use Rattle.lnet_gates.specs.declared.gate.Op.TheVariants as op
use Rattle.lnet_gates.specs.Gates.{flip, row_of, maj_of, operate}
use Rattle.lnet_gates.specs.Operands.{complemented}
use Rattle.lnet_gates.specs.Lawful.OperandLemmas.{read-flipped}
use Rattle.lnet_model.specs.Networks.{NetworkValue, live_count}
use Rattle.lnet_model.specs.Along.{nodes_read}
use Rattle.lnet_model.specs.Values.{node_value, signal_value}
use Rattle.lnet_model.specs.Changes.{AreLive}
use Rattle.lnet_model.specs.Dags.{IsStored, NUMBERS}
use Rattle.lnet_hashed.specs.Strashed.{Placed}
use Rattle.lnet_hashed.specs.Laid.{made}
use Rattle.lnet_hashed.proofs.Extensions.{extends-all_live, extends-live, extends-signal, extends-signals}
use Rattle.lnet_hashed.proofs.PlacedValues.{Stands, stands-as}
use Rattle.lnet_hashed.proofs.LaidValues.{made-stands}
use Rattle.lnet_edge.specs.declared.circuit.Rule.{Rule}
use Rattle.lnet_edge.specs.declared.circuit.Rule.TheVariants as rule
use Rattle.lnet_edge.specs.Covers.{CoverValue}
use Rattle.lnet_edge.specs.Wires.{HasArity}
use Rattle.lnet_edge.specs.Values.{all_bits, any_bit, parity, majority, row_number, table_bit, cell_holds, row_holds, cover_value, under_rule}
use Rattle.lnet_edge.specs.Values.{complemented as turned_bit}
use Rattle.lnet_rules.specs.declared.joining.Join.TheVariants.{And, Or, Xor}
use Rattle.lnet_rules.specs.Joins.{turned, folded}
use Rattle.lnet_rules.specs.Rules.{literal_of, literals, row_built, with_row, rows_from, by_rows, bits_of, cover_table, has_tables, cover_built, rule_built, FitsTable}
use Rattle.lnet_rules.proofs.RowLemmas.{literals-live, row-within, rows_from-grows}
use Rattle.lnet_rules.proofs.JoinValues.{stands-turned, stands-after, stands-constant, join-stands, folded-stands, folded-all, folded-any, folded-odd}

-- ---- bits

pub flip-is : (c b : Bool) → flip c b ≡ turned_bit c b
flip-is true b = refl
flip-is false b = refl

number-is : (bs : List Bool) → row_number bs ≡ row_of bs
number-is [] = refl
number-is (b ∷ bs) = ap (λ n. cond b 1 0 + 2 * n) (number-is bs)

majority-is : (a b c : Bool) → maj_of (a ∷ b ∷ c ∷ []) ≡ majority (a ∷ b ∷ c ∷ [])
majority-is true true c = refl
majority-is true false true = refl
majority-is true false false = refl
majority-is false true true = refl
majority-is false true false = refl
majority-is false false true = refl
majority-is false false false = refl

-- ---- the table of a cover

row-bit : (b : Bool) (n : ℕ) → ((cond b 1 0 + 2 * n) % 2 == 1) ≡ b
row-bit true n = elim (eqb_tells ((1 + 2 * n) % 2) 1) as (λ _. ((1 + 2 * n) % 2 == 1) ≡ true) [ inl p ↦ p.0 | inr p ↦ absurd (p.1 (omega arith)) ]
row-bit false n = elim (eqb_tells ((0 + 2 * n) % 2) 1) as (λ _. ((0 + 2 * n) % 2 == 1) ≡ false) [ inl p ↦ absurd (let e = p.1 in omega arith) | inr p ↦ p.0 ]

row-rest : (b : Bool) (n : ℕ) → (cond b 1 0 + 2 * n) / 2 ≡ n
row-rest true n = omega arith
row-rest false n = omega arith

-- the bits of a row's number are those of the row
pub bits-back : (bs : List Bool) → bits_of (length bs) (row_of bs) ≡ bs
bits-back [] = refl
bits-back (b ∷ bs) = (λ i. row-bit b (row_of bs) i ∷ bits_of (length bs) (row-rest b (row_of bs) i)) ∙ ap (λ r. b ∷ r) (bits-back bs)

row-low : (bs : List Bool) (n : ℕ) → length bs ≤ n → row_of bs < 2 ^ n
row-low [] n h = let p = pow_pos n in omega arith
row-low (b ∷ bs) zero h = absurd (omega arith)
row-low (b ∷ bs) (suc n) h =
    let r = row-low bs n (omega arith) in
    let p : 2 ^ suc n ≡ 2 ^ n * 2 = pow-suc 2 n in
    by_bit b r p
  where
    by_bit : (b : Bool) → row_of bs < 2 ^ n → 2 ^ suc n ≡ 2 ^ n * 2 → cond b 1 0 + 2 * row_of bs < 2 ^ suc n
    by_bit true r p = omega arith
    by_bit false r p = omega arith

pub table-value : (cover : CoverValue) (bs : List Bool) → length bs ≤ 6 → operate (op.Lut (cover_table cover (length bs))) bs ≡ cover_value cover bs
unfolding is_set
table-value cover bs few =
    let low : row_of bs < 64 = row-low bs 6 few in
    number_bit (λ r. cover_value cover (bits_of (length bs) r)) 64 (row_of bs) low ∙ ap (cover_value cover) (bits-back bs)

-- ---- rows

all-append : (xs ys : List Bool) → all_bits (xs ++ ys) ≡ (all_bits xs && all_bits ys)
all-append [] ys = refl
all-append (x ∷ xs) ys = ap (λ b. x && b) (all-append xs ys) ∙ go x
  where
    go : (x : Bool) → (x && (all_bits xs && all_bits ys)) ≡ ((x && all_bits xs) && all_bits ys)
    go true = refl
    go false = refl

literal-value : (N : NetworkValue) (a : ℕ → Bool) (cell : ℕ) (s : Signal) → all_bits (map (signal_value N a) (literal_of cell s)) ≡ cell_holds cell (signal_value N a s)
literal-value N a cell s = by_tests (cell == 48) (cell == 49)
  where
    and-true : (b : Bool) → (b && true) ≡ b
    and-true true = refl
    and-true false = refl

    by_tests : (x y : Bool) → all_bits (map (signal_value N a) (if x then complemented s ∷ [] else if y then s ∷ [] else [])) ≡ (if x then not (signal_value N a s) else if y then signal_value N a s else true)
    by_tests true y = and-true (signal_value N a (complemented s)) ∙ read-flipped (node_value N a) true s
    by_tests false true = and-true (signal_value N a s)
    by_tests false false = refl

pub literals-value : (N : NetworkValue) (a : ℕ → Bool) (row : List ℕ) (ss : List Signal) → all_bits (map (signal_value N a) (literals row ss)) ≡ row_holds row (map (signal_value N a) ss)
literals-value N a [] ss = refl
literals-value N a (cell ∷ row) [] = refl
literals-value N a (cell ∷ row) (s ∷ ss) =
    ap all_bits (map-append (signal_value N a) (literal_of cell s) (literals row ss))
    ∙ all-append (map (signal_value N a) (literal_of cell s)) (map (signal_value N a) (literals row ss))
    ∙ (λ i. literal-value N a cell s i && literals-value N a row ss i)

-- rows joined by or with what came before
abbrev rows_bits : Bool → List (List ℕ) → List Bool → Bool
rows_bits b rows bits = b || list_any (λ (row : List ℕ). row_holds row bits) rows

rows-more : (b x r : Bool) → ((b || x) || r) ≡ (b || (x || r))
rows-more true x r = refl
rows-more false x r = refl

rows-none : (b : Bool) → b ≡ (b || false)
rows-none true = refl
rows-none false = refl

-- the value of a cover with rows
cover-some : (value : Bool) (row : List ℕ) (rows : List (List ℕ)) (bits : List Bool) → turned_bit (not value) (rows_bits (row_holds row bits) rows bits) ≡ cover_value (record { value = value; rows = row ∷ rows }) bits
cover-some value row rows bits = elim (eqb_tells (length (row ∷ rows)) 0) as (λ _. turned_bit (not value) (rows_bits (row_holds row bits) rows bits) ≡ cover_value (record { value = value; rows = row ∷ rows }) bits) [
  | inl p ↦ absurd (let e = p.1 in omega arith)
  | inr p ↦ sym (ap (λ b. if b then false else turned_bit (not value) (list_any (λ (r : List ℕ). row_holds r bits) (row ∷ rows))) p.0)
]

module _ (kind : Kind) where
  row-stands : (N : NetworkValue) (row : List ℕ) (ss : List Signal) → IsStored N → AreLive N (nodes_read ss) → live_count (row_built kind N row ss).network ≤ NUMBERS → Stands N (λ a. row_holds row (map (signal_value N a) ss)) (row_built kind N row ss)
  row-stands N row ss stored live few =
      stands-as N _ (λ a. row_holds row (map (signal_value N a) ss)) (row_built kind N row ss) (λ a. folded-all (map (signal_value N a) (literals row ss)) ∙ literals-value N a row ss)
      (folded-stands kind And true N (literals row ss) stored (literals-live N row ss live) few)

  with_row-stands : (N : NetworkValue) (v : (ℕ → Bool) → Bool) (p : Placed) (row : List ℕ) (ss : List Signal) → Stands N v p → AreLive N (nodes_read ss) → live_count (with_row kind p row ss).network ≤ NUMBERS → Stands N (λ a. v a || row_holds row (map (signal_value N a) ss)) (with_row kind p row ss)
  with_row-stands N v p row ss h live few =
      let q : Placed = row_built kind p.network row ss in
      let more = row-within kind p row ss in
      let built = row-stands p.network row ss h.stored (extends-all_live N p.network h.extends (nodes_read ss) live) (omega arith) in
      let both = join-stands kind Or q.network p.signal q.signal built.stored (extends-live p.network q.network built.extends p.signal.node.0 h.live) built.live few in
      stands-as N _ (λ a. v a || row_holds row (map (signal_value N a) ss)) (with_row kind p row ss)
      (λ a i. (extends-signal p.network q.network built.extends a p.signal h.live ∙ h.valued a) i || (built.valued a ∙ ap (row_holds row) (extends-signals N p.network h.extends a ss live)) i)
      (stands-after N v _ p (with_row kind p row ss) h (stands-after p.network _ _ q (with_row kind p row ss) built both))

  rows_from-stands : (N : NetworkValue) (v : (ℕ → Bool) → Bool) (p : Placed) (rows : List (List ℕ)) (ss : List Signal) → Stands N v p → AreLive N (nodes_read ss) → live_count (rows_from kind p rows ss).network ≤ NUMBERS → Stands N (λ a. rows_bits (v a) rows (map (signal_value N a) ss)) (rows_from kind p rows ss)
  unfolding rows_from
  rows_from-stands N v p [] ss h live few = stands-as N v (λ a. v a || false) p (λ a. rows-none (v a)) h
  rows_from-stands N v p (row ∷ rows) ss h live few =
      let q : Placed = with_row kind p row ss in
      let more = rows_from-grows kind q rows ss in
      let once = with_row-stands N v p row ss h live (omega arith) in
      stands-as N _ (λ a. rows_bits (v a) (row ∷ rows) (map (signal_value N a) ss)) (rows_from kind q rows ss)
      (λ a. rows-more (v a) (row_holds row (map (signal_value N a) ss)) (list_any (λ (r : List ℕ). row_holds r (map (signal_value N a) ss)) rows))
      (rows_from-stands N (λ a. v a || row_holds row (map (signal_value N a) ss)) q rows ss once live few)

  by_rows-stands : (N : NetworkValue) (cover : CoverValue) (ss : List Signal) → IsStored N → AreLive N (nodes_read ss) → live_count (by_rows kind N cover.value cover.rows ss).network ≤ NUMBERS → Stands N (λ a. cover_value cover (map (signal_value N a) ss)) (by_rows kind N cover.value cover.rows ss)
  by_rows-stands N cover ss stored live few = go cover.value cover.rows few
    where
      go : (value : Bool) (rows : List (List ℕ)) → live_count (by_rows kind N value rows ss).network ≤ NUMBERS → Stands N (λ a. cover_value (record { value = value; rows = rows }) (map (signal_value N a) ss)) (by_rows kind N value rows ss)
      go value [] few = stands-constant N false stored
      go value (row ∷ rows) few =
          let first = row_built kind N row ss in
          let more = rows_from-grows kind first rows ss in
          stands-as N _ (λ a. cover_value (record { value = value; rows = row ∷ rows }) (map (signal_value N a) ss)) (by_rows kind N value (row ∷ rows) ss)
          (λ a. flip-is (not value) (rows_bits (row_holds row (map (signal_value N a) ss)) rows (map (signal_value N a) ss)) ∙ cover-some value row rows (map (signal_value N a) ss))
          (stands-turned N _ (not value) (rows_from kind first rows ss) (rows_from-stands N _ first rows ss (row-stands N row ss stored live (omega arith)) live few))

  cover-stands : (N : NetworkValue) (cover : CoverValue) (ss : List Signal) → IsStored N → AreLive N (nodes_read ss) → live_count (cover_built kind N cover ss).network ≤ NUMBERS → Stands N (λ a. cover_value cover (map (signal_value N a) ss)) (cover_built kind N cover ss)
  cover-stands N cover ss stored live few = by_kind (has_tables kind) (nat_le (length ss) 6) refl few
    where
      by_kind : (t l : Bool) → nat_le (length ss) 6 ≡ l → live_count (if t && l then made kind N (op.Lut (cover_table cover (length ss))) ss else by_rows kind N cover.value cover.rows ss).network ≤ NUMBERS → Stands N (λ a. cover_value cover (map (signal_value N a) ss)) (if t && l then made kind N (op.Lut (cover_table cover (length ss))) ss else by_rows kind N cover.value cover.rows ss)
      by_kind true true is few =
          let six : length ss ≤ 6 = leb-true (length ss) 6 is in
          stands-as N _ (λ a. cover_value cover (map (signal_value N a) ss)) (made kind N (op.Lut (cover_table cover (length ss))) ss)
          (λ a.
          let long : length (map (signal_value N a) ss) ≡ length ss = length-map ss (signal_value N a) in
          ap (λ n. operate (op.Lut (cover_table cover n)) (map (signal_value N a) ss)) (sym long) ∙ table-value cover (map (signal_value N a) ss) (omega arith))
          (made-stands kind N (op.Lut (cover_table cover (length ss))) ss six (number_below (λ r. cover_value cover (bits_of (length ss) r)) 64) stored live few)
      by_kind true false is few = by_rows-stands N cover ss stored live few
      by_kind false l is few = by_rows-stands N cover ss stored live few

  majority-of : (bs : List Bool) → length bs ≡ 3 → maj_of bs ≡ majority bs
  majority-of (a ∷ b ∷ c ∷ []) e = majority-is a b c
  majority-of [] e = absurd (omega arith)
  majority-of (a ∷ []) e = absurd (omega arith)
  majority-of (a ∷ b ∷ []) e = absurd (omega arith)
  majority-of (a ∷ b ∷ c ∷ d ∷ bs) e = absurd (omega arith)

  turned-stands : (N : NetworkValue) (v w : (ℕ → Bool) → Bool) (c : Bool) (p : Placed) → ((a : ℕ → Bool) → v a ≡ w a) → Stands N v p → Stands N (λ a. turned_bit c (w a)) (turned c p)
  turned-stands N v w c p same h = stands-as N _ (λ a. turned_bit c (w a)) (turned c p) (λ a. flip-is c (v a) ∙ ap (turned_bit c) (same a)) (stands-turned N v c p h)

  -- a rule that is built has the rule's value on the values of its operands, and the rest keeps its values
  pub rule-stands : (N : NetworkValue) (r : Rule) (ss : List Signal) → HasArity r (length ss) → FitsTable r → IsStored N → AreLive N (nodes_read ss) → live_count (rule_built kind N r ss).network ≤ NUMBERS → Stands N (λ a. under_rule r (map (signal_value N a) ss)) (rule_built kind N r ss)
  rule-stands N (rule.And c) ss arity fits stored live few =
      turned-stands N _ (λ a. all_bits (map (signal_value N a) ss)) c (folded kind And true N ss) (λ a. folded-all (map (signal_value N a) ss)) (folded-stands kind And true N ss stored live few)
  rule-stands N (rule.Or c) ss arity fits stored live few =
      turned-stands N _ (λ a. any_bit (map (signal_value N a) ss)) c (folded kind Or false N ss) (λ a. folded-any (map (signal_value N a) ss)) (folded-stands kind Or false N ss stored live few)
  rule-stands N (rule.Xor c) ss arity fits stored live few =
      turned-stands N _ (λ a. parity (map (signal_value N a) ss)) c (folded kind Xor false N ss) (λ a. folded-odd (map (signal_value N a) ss)) (folded-stands kind Xor false N ss stored live few)
  rule-stands N (rule.Maj c) ss arity fits stored live few =
      turned-stands N _ (λ a. majority (map (signal_value N a) ss)) c (made kind N op.Maj ss) (λ a. majority-of (map (signal_value N a) ss) (length-map ss (signal_value N a) ∙ arity)) (made-stands kind N op.Maj ss arity tt stored live few)
  rule-stands N (rule.Lut table) ss arity fits stored live few =
      stands-as N _ (λ a. table_bit table (row_number (map (signal_value N a) ss))) (made kind N (op.Lut table) ss)
      (λ a. ap (table_bit table) (sym (number-is (map (signal_value N a) ss))))
      (made-stands kind N (op.Lut table) ss arity fits stored live few)
  rule-stands N (rule.Cover cover) ss arity fits stored live few = cover-stands N cover ss stored live few
