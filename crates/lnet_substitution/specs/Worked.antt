-- The worked network once node 5 has taken the place of gate 6: gates 7 and 8 are then of one structure with gates 9 and 10, and
-- one with them.
use Rattle.std.specs.Prelude.{ℕ, false, true, cond, eqb, List, [], ◌∷◌}
use Rattle.std.specs.Ordering.{nat_cmp}
use Rattle.std.specs.FinMap.{from_sorted}
use Rattle.lnet_gates.specs.declared.signal.Signal.{Signal}
use Rattle.lnet_gates.specs.declared.gate.Kind.TheVariants.{Aig}
use Rattle.lnet_model.specs.Networks.{Entry, Constant, Input, NetworkValue}
use Rattle.lnet_model.specs.Worked.{signal, and_of_nodes}
use Rattle.lnet_substitution.specs.Replaced.{signal_of}

abbrev pub left_entries : List (ℕ × Entry)
left_entries = (0, Constant) ∷ (1, Input 0) ∷ (2, Input 1) ∷ (3, Input 2) ∷ (4, Input 3) ∷ (5, and_of_nodes 1 2) ∷ (9, and_of_nodes 3 5) ∷ (10, and_of_nodes 4 9) ∷ []

unfoldable pub left_network : NetworkValue
left_network = record { kind = Aig; nodes = from_sorted {R = nat_cmp} left_entries; inputs = 1 ∷ 2 ∷ 3 ∷ 4 ∷ []; outputs = signal 10 false ∷ signal 10 true ∷ [] }

-- which signal then stands for each node: 9 for gate 7, 10 for gate 8, and each other node for itself
abbrev pub stands_now : ℕ → Signal
stands_now n = signal_of (cond (eqb n 7) 9 (cond (eqb n 8) 10 n))
