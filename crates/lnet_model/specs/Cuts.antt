-- The cut lists of a network: unions of one cut per fanin, the best first.
-- Source: cut enumeration after Cong and Ding, "FlowMap", and the cuts of the mockturtle documentation; the order and the
-- limit of the lists are this project's own.
use Rattle.std.specs.Prelude.{ℕ, ◌/◌, ◌^◌, Bool, true, false, cond, not, ◌&&◌, ◌||◌, List, [], ◌∷◌, ◌++◌, map, length, eqb, ltb, leb, take}
use Rattle.std.specs.List.{filter, list_any, list_all, flat_map}
use Rattle.lnet_tables.specs.Bits.{Rows, row, by_rows, is_set, constant_rows, variable_rows, number_by}
use Rattle.lnet_gates.specs.declared.signal.Signal.{Signal}
use Rattle.lnet_gates.specs.Gates.{GateValue, flip, row_of, apply}
use Rattle.lnet_model.specs.Networks.{Entry, Constant, Input, IsGate, NetworkValue}
use Rattle.lnet_model.specs.Along.{over}

-- leaves, ascending, and a table whose variable i is leaf i
pub record CutValue : Type 0 where
  pub leaves : List ℕ
  pub table : Rows

-- the cut of a node that is the node itself
abbrev pub trivial_cut : ℕ → CutValue
trivial_cut n = record { leaves = n ∷ []; table = variable_rows 1 0 }

-- the one cut of the constant
abbrev pub constant_cut : CutValue
constant_cut = record { leaves = []; table = constant_rows 0 false }

-- the cut that a fanin gives to a gate of more than three fanins
abbrev pub own_cut : ℕ → CutValue
own_cut n = cond (eqb n 0) constant_cut (trivial_cut n)

-- ---- ascending lists of numbers as sets

abbrev pub is_in : ℕ → List ℕ → Bool
is_in x ys = list_any (eqb x) ys

abbrev pub is_subset : List ℕ → List ℕ → Bool
is_subset xs ys = list_all (λ x. is_in x ys) xs

-- x at its place, once
abbrev pub put_in : ℕ → List ℕ → List ℕ
put_in x [] = x ∷ []
put_in x (y ∷ ys) = elim (ltb x y) [ true ↦ x ∷ y ∷ ys | false ↦ cond (eqb x y) (y ∷ ys) (y ∷ put_in x ys) ]

abbrev pub union : List ℕ → List ℕ → List ℕ
union [] ys = ys
union (x ∷ xs) ys = put_in x (union xs ys)

abbrev pub union_of : List CutValue → List ℕ
union_of [] = []
union_of (c ∷ cs) = union c.leaves (union_of cs)

-- ---- tables

-- what row r of a table over `all` has at the leaf x
abbrev pub bit_of_leaf : ℕ → List ℕ → ℕ → Bool
bit_of_leaf r [] x = false
bit_of_leaf r (y ∷ ys) x = elim (eqb x y) [ true ↦ is_set r 0 | false ↦ bit_of_leaf (r / 2) ys x ]

-- the value of a cut where its leaves have the values V
abbrev pub cut_meaning : (ℕ → Bool) → CutValue → Bool
cut_meaning V c = row c.table (row_of (map V c.leaves))

-- the fanins' values at row r of a table over `all`, each by its cut
abbrev pub values_of : List ℕ → ℕ → List Signal → List CutValue → List Bool
values_of all r [] cs = []
values_of all r (s ∷ ss) [] = []
values_of all r (s ∷ ss) (c ∷ cs) = flip s.complement (cut_meaning (bit_of_leaf r all) c) ∷ values_of all r ss cs

-- the union of one cut per fanin, with the gate's function of its leaves
abbrev pub merged : GateValue → List CutValue → CutValue
merged g cs = let all = union_of cs in record { leaves = all; table = by_rows (length all) (λ r. apply g.op g.phase (values_of all r g.fanins cs)) }

-- ---- candidates, and which of them stay

-- one of each list, in all ways
abbrev pub choices : {A : Type 0} → List (List A) → List (List A)
choices [] = [] ∷ []
choices (xs ∷ xss) = let rest = choices xss in flat_map (λ x. map (λ ys. x ∷ ys) rest) xs

-- the cuts that the fanins give: up to three fanins all of theirs, and more fanins their own alone
abbrev pub fanin_cuts : List (Signal × List CutValue) → List (List CutValue)
fanin_cuts rs = elim (leb (length rs) 3) [ true ↦ map (λ r. r.1) rs | false ↦ map (λ r. own_cut r.0.node.0 ∷ []) rs ]

-- all unions of one cut per fanin with at most `size` leaves
abbrev pub candidates : ℕ → GateValue → List (Signal × List CutValue) → List CutValue
candidates size g rs = map (merged g) (filter (λ cs. leb (length (union_of cs)) size) (choices (fanin_cuts rs)))

-- a table as a number: bit r is the value of row r
abbrev pub table_number : Rows → ℕ
table_number t = number_by (row t) (2 ^ t.vars)

-- d puts c out: fewer leaves, all of them of c, or the same leaves and a lower table
abbrev pub beats : CutValue → CutValue → Bool
beats c d = is_subset d.leaves c.leaves && (not (is_subset c.leaves d.leaves) || ltb (table_number d.table) (table_number c.table))

-- the order of lists
abbrev pub leaves_below : List ℕ → List ℕ → Bool
leaves_below [] [] = false
leaves_below [] (y ∷ ys) = true
leaves_below (x ∷ xs) [] = false
leaves_below (x ∷ xs) (y ∷ ys) = ltb x y || (eqb x y && leaves_below xs ys)

abbrev pub same_leaves : List ℕ → List ℕ → Bool
same_leaves xs ys = is_subset xs ys && is_subset ys xs

-- c before d: fewer leaves, or as many and lower ones
abbrev pub before : CutValue → CutValue → Bool
before c d = ltb (length c.leaves) (length d.leaves) || (eqb (length c.leaves) (length d.leaves) && leaves_below c.leaves d.leaves)

-- c at its place, once
abbrev pub place : CutValue → List CutValue → List CutValue
place c [] = c ∷ []
place c (d ∷ ds) = elim (same_leaves c.leaves d.leaves) [ true ↦ d ∷ ds | false ↦ cond (before c d) (c ∷ d ∷ ds) (d ∷ place c ds) ]

abbrev pub sorted : List CutValue → List CutValue
sorted [] = []
sorted (c ∷ cs) = place c (sorted cs)

-- the first `limit` of those that no other puts out
abbrev pub best : ℕ → List CutValue → List CutValue
best limit cs = take limit (sorted (filter (λ c. not (list_any (beats c) cs)) cs))

abbrev pub cut_step : ℕ → ℕ → ℕ → Entry → List (Signal × List CutValue) → List CutValue
cut_step size limit n Constant rs = constant_cut ∷ []
cut_step size limit n (Input k) rs = trivial_cut n ∷ []
cut_step size limit n (IsGate g) rs = best limit (candidates size g rs) ++ (trivial_cut n ∷ [])

-- the cut list of node n, of cuts with at most `size` leaves, `limit` of them at most beside the trivial one
abbrev pub cuts : NetworkValue → ℕ → ℕ → ℕ → List CutValue
cuts N size limit n = over N (cut_step size limit) [] n
