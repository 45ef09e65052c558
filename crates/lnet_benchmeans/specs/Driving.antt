-- The names that statements drive and use, and the numbers of wires.
use Rattle.std.specs.Prelude.{◌≡◌, ◌⊎◌, ℕ, ◌<◌, ◌^◌, Bool, false, List, [], ◌∷◌, IsTrue, codes}
use Rattle.std.specs.List.{filter_map, AllByRecursion, IsDistinct}
use Rattle.std.specs.Str.{bytes_eq}
use Rattle.lnet_edge.specs.Circuits.{CircuitValue}
use Rattle.lnet_edge.specs.Wires.{driven_wires}
use Rattle.lnet_wires.specs.Naming.{is_seen}
use Rattle.lnet_bench.specs.Statements.{StatementValue, Input, Output, Gate, Constant}
use Rattle.lnet_bench.specs.Texts.{target_of, drives}
use Rattle.lnet_benchwriter.specs.Nodes.{constant_name}

-- each wire that the circuit drives has a number of 32 bits, as each `Wire` has
abbrev pub HasWires : CircuitValue → Type 0
HasWires c = AllByRecursion (λ (w : ℕ). w < 2 ^ 32) (driven_wires c)

-- the names that statements drive, in their order
abbrev pub driven_names : List StatementValue → List (List ℕ)
driven_names ss = filter_map target_of ss

-- ---- order

-- the name is that of a constant, or one of these
abbrev pub IsUsable : List (List ℕ) → List ℕ → Type 0
IsUsable known x = ((value : Bool) × (x ≡ constant_name value)) ⊎ IsTrue (is_seen known x)

-- behind statements that drive these names, each gate uses names that are driven before it
abbrev pub IsOrderedBehind : List (List ℕ) → List StatementValue → Type 0
IsOrderedBehind known [] = Unit {0}
IsOrderedBehind known (Input name ∷ ss) = IsOrderedBehind (name ∷ known) ss
IsOrderedBehind known (Output name ∷ ss) = IsOrderedBehind known ss
IsOrderedBehind known (Gate target rule operands ∷ ss) = AllByRecursion (IsUsable known) operands × IsOrderedBehind (target ∷ known) ss
IsOrderedBehind known (Constant target value ∷ ss) = IsOrderedBehind (target ∷ known) ss

-- the names that outputs show
abbrev pub shown_names : List StatementValue → List (List ℕ)
shown_names [] = []
shown_names (Output name ∷ ss) = name ∷ shown_names ss
shown_names (_ ∷ ss) = shown_names ss

-- no two statements drive one name nor a constant's, each gate uses names that are driven before it, and outputs show such names
pub record IsOrdered (ss : List StatementValue) : Type 0 where
  pub once : IsDistinct bytes_eq (driven_names ss)
  pub gnd : drives ss (codes "gnd") ≡ false
  pub vdd : drives ss (codes "vdd") ≡ false
  pub gates : IsOrderedBehind [] ss
  pub outputs : AllByRecursion (IsUsable (driven_names ss)) (shown_names ss)
