-- A cover row by row: no node goes, and the operands that a row names are live.
use Rattle.std.proofs.Common.{◌≡◌, ℕ, suc, ◌+◌, ◌<◌, ◌≤◌, ◌==◌, Bool, true, false, ◌&&◌, nat_le, List, [], ◌∷◌, ◌++◌, length, drop, slice_get, Some, refl, sym, ap, subst, ◌∙◌, inl, inr, arith}
use Rattle.std.specs.Prelude.{if◌then◌else◌}
use Rattle.std.proofs.Math.Seq.{drop-cons}
use Rattle.std.proofs.lemmas.List.{drop_all}
use Rattle.std.proofs.lemmas.Option.{slice_get_within, get_or_from_slice_get}
use Rattle.lnet_gates.specs.declared.signal.Signal.{Signal}
use Rattle.lnet_gates.specs.declared.gate.Kind.{Kind}
use Rattle.lnet_gates.specs.declared.gate.Op.TheVariants as op
use Rattle.lnet_gates.specs.Operands.{complemented}
use Rattle.lnet_model.specs.Networks.{NetworkValue, IsLive, live_count}
use Rattle.lnet_model.specs.Along.{nodes_read}
use Rattle.lnet_model.specs.Changes.{AreLive}
use Rattle.lnet_model.specs.Dags.{NUMBERS}
use Rattle.lnet_hashed.specs.Strashed.{Placed}
use Rattle.lnet_hashed.specs.Laid.{made}
use Rattle.lnet_hashed.proofs.LaidValues.{made-grows}
use Rattle.lnet_edge.specs.declared.circuit.Rule.{Rule}
use Rattle.lnet_edge.specs.declared.circuit.Rule.TheVariants as rule
use Rattle.lnet_edge.specs.Covers.{CoverValue}
use Rattle.lnet_rules.specs.declared.joining.Join.{Join}
use Rattle.lnet_rules.specs.declared.joining.Join.TheVariants.{And, Or, Xor}
use Rattle.lnet_rules.specs.Joins.{folded}
use Rattle.lnet_rules.specs.Rules.{literal_of, literals, row_built, with_row, rows_from, rows_built, by_rows, cover_table, has_tables, cover_built, rule_built}
use Rattle.lnet_rules.proofs.JoinLemmas.{by_join-grows, joined_from-grows}

-- ---- what a row names

pub live-append : (N : NetworkValue) (xs ys : List Signal) → AreLive N (nodes_read xs) → AreLive N (nodes_read ys) → AreLive N (nodes_read (xs ++ ys))
live-append N [] ys h k m i = k m i
live-append N (x ∷ xs) ys h k m (inl e) = h m (inl e)
live-append N (x ∷ xs) ys h k m (inr i) = live-append N xs ys (λ j t. h j (inr t)) k m i

literal-live : (N : NetworkValue) (cell : ℕ) (s : Signal) → IsLive N s.node.0 → AreLive N (nodes_read (literal_of cell s))
literal-live N cell s live = by_tests (cell == 48) (cell == 49)
  where
    by_tests : (a b : Bool) → AreLive N (nodes_read (if a then complemented s ∷ [] else if b then s ∷ [] else []))
    by_tests true b m (inl e) = subst (IsLive N) (sym e) live
    by_tests true b m (inr i) = absurd i
    by_tests false true m (inl e) = subst (IsLive N) (sym e) live
    by_tests false true m (inr i) = absurd i
    by_tests false false m i = absurd i

pub literals-live : (N : NetworkValue) (row : List ℕ) (ss : List Signal) → AreLive N (nodes_read ss) → AreLive N (nodes_read (literals row ss))
literals-live N [] ss live m i = absurd i
literals-live N (cell ∷ row) [] live m i = absurd i
literals-live N (cell ∷ row) (s ∷ ss) live m i =
    live-append N (literal_of cell s) (literals row ss) (literal-live N cell s (live s.node.0 (inl refl))) (literals-live N row ss (λ n j. live n (inr j))) m i

-- ---- no node goes

module _ (kind : Kind) where
  pub folded-grows : (how : Join) (none : Bool) (N : NetworkValue) (ss : List Signal) → live_count N ≤ live_count (folded kind how none N ss).network
  folded-grows how none N [] = omega arith
  folded-grows how none N (s ∷ ss) = joined_from-grows kind how (record { network = N; signal = s }) ss

  pub row-within : (p : Placed) (row : List ℕ) (ss : List Signal) → live_count (row_built kind p.network row ss).network ≤ live_count (with_row kind p row ss).network
  row-within p row ss = let q : Placed = row_built kind p.network row ss in by_join-grows kind Or q.network p.signal q.signal

  pub with_row-grows : (p : Placed) (row : List ℕ) (ss : List Signal) → live_count p.network ≤ live_count (with_row kind p row ss).network
  with_row-grows p row ss =
      let a = folded-grows And true p.network (literals row ss) in
      let b = row-within p row ss in
      omega arith

  pub rows_from-grows : (p : Placed) (rows : List (List ℕ)) (ss : List Signal) → live_count p.network ≤ live_count (rows_from kind p rows ss).network
  unfolding rows_from
  rows_from-grows p [] ss = let n = live_count p.network in omega arith
  rows_from-grows p (row ∷ rows) ss =
      let a = with_row-grows p row ss in
      let b = rows_from-grows (with_row kind p row ss) rows ss in
      omega arith

  -- ---- row by row

  module _ (N : NetworkValue) (rows : List (List ℕ)) (ss : List Signal) (row : List ℕ) where
    pub rows-first : slice_get rows 0 ≡ Some row → rows_built kind N rows ss ≡ rows_from kind (row_built kind N row ss) (drop 1 rows) ss
    rows-first = go rows
      where
        go : (rs : List (List ℕ)) → slice_get rs 0 ≡ Some row → rows_built kind N rs ss ≡ rows_from kind (row_built kind N row ss) (drop 1 rs) ss
        go [] e = absurd cc
        go (r ∷ rs) e = let same : r ≡ row = cc in ap (λ x. rows_from kind (row_built kind N x ss) rs ss) same

    -- the first row is within all
    pub first-within : slice_get rows 0 ≡ Some row → live_count (row_built kind N row ss).network ≤ live_count (rows_built kind N rows ss).network
    first-within e =
        let same = ap (λ (p : Placed). live_count p.network) (rows-first e) in
        let more = rows_from-grows (row_built kind N row ss) (drop 1 rows) ss in
        omega arith

    module _ (k : ℕ) (stands : slice_get rows k ≡ Some row) (all p : Placed) (so_far : rows_from kind p (drop k rows) ss ≡ all) where
      next-row : rows_from kind (with_row kind p row ss) (drop (k + 1) rows) ss ≡ all
      unfolding rows_from
      next-row =
          let more : suc k ≡ k + 1 = omega arith in
          let first : drop k rows ≡ row ∷ drop (k + 1) rows = drop-cons rows k row (slice_get_within rows k row stands) ∙ ap (λ r. r ∷ drop (suc k) rows) (get_or_from_slice_get rows k row row stands) ∙ ap (λ j. row ∷ drop j rows) more in
          sym (ap (λ rs. rows_from kind p rs ss) first) ∙ so_far

      pub rows-step : (q : Placed) → with_row kind p row ss ≡ q → rows_from kind q (drop (k + 1) rows) ss ≡ all
      rows-step q built = sym (ap (λ (x : Placed). rows_from kind x (drop (k + 1) rows) ss) built) ∙ next-row

      pub rows-full : NUMBERS < live_count (with_row kind p row ss).network → NUMBERS < live_count all.network
      rows-full past =
          let more = rows_from-grows (with_row kind p row ss) (drop (k + 1) rows) ss in
          let same = ap (λ (x : Placed). live_count x.network) next-row in
          omega arith

  pub rows-end : (p all : Placed) (rows : List (List ℕ)) (ss : List Signal) (k : ℕ) → length rows ≤ k → rows_from kind p (drop k rows) ss ≡ all → all ≡ p
  unfolding rows_from
  rows-end p all rows ss k past so_far = sym so_far ∙ ap (λ rs. rows_from kind p rs ss) (drop_all k rows past)

  -- ---- rules

  by_rows-grows : (N : NetworkValue) (value : Bool) (rows : List (List ℕ)) (ss : List Signal) → live_count N ≤ live_count (by_rows kind N value rows ss).network
  by_rows-grows N value [] ss = omega arith
  by_rows-grows N value (row ∷ rows) ss =
      let a = folded-grows And true N (literals row ss) in
      let b = rows_from-grows (row_built kind N row ss) rows ss in
      omega arith

  cover-grows : (N : NetworkValue) (cover : CoverValue) (ss : List Signal) → live_count N ≤ live_count (cover_built kind N cover ss).network
  cover-grows N cover ss = by_test (has_tables kind && nat_le (length ss) 6)
    where
      by_test : (b : Bool) → live_count N ≤ live_count (if b then made kind N (op.Lut (cover_table cover (length ss))) ss else by_rows kind N cover.value cover.rows ss).network
      by_test true = made-grows kind N (op.Lut (cover_table cover (length ss))) ss
      by_test false = by_rows-grows N cover.value cover.rows ss

  -- no node goes as a rule is built
  pub rule-grows : (N : NetworkValue) (r : Rule) (ss : List Signal) → live_count N ≤ live_count (rule_built kind N r ss).network
  rule-grows N (rule.And c) ss = folded-grows And true N ss
  rule-grows N (rule.Or c) ss = folded-grows Or false N ss
  rule-grows N (rule.Xor c) ss = folded-grows Xor false N ss
  rule-grows N (rule.Maj c) ss = made-grows kind N op.Maj ss
  rule-grows N (rule.Lut table) ss = made-grows kind N (op.Lut table) ss
  rule-grows N (rule.Cover cover) ss = cover-grows N cover ss
