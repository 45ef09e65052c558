-- A worked network: in the ASCII form of AIGER its header is `aag 10 4 0 2 6`, its inputs are 2, 4, 6 and 8, its outputs are
-- 18 and 21, and its gates are `10 2 4`, `12 2 10`, `14 6 12`, `16 8 14`, `18 6 10` and `20 8 18`, with the first output
-- at node 8.
use Rattle.std.specs.Prelude.{ℕ, Bool, true, false, List, [], ◌∷◌, length}
use Rattle.std.specs.Ordering.{nat_cmp}
use Rattle.std.specs.FinMap.{from_sorted}
use Rattle.lnet_tables.specs.Bits.{by_rows, is_set}
use Rattle.lnet_gates.specs.declared.signal.Signal.{Signal}
use Rattle.lnet_gates.specs.declared.gate.Op.TheVariants.{And}
use Rattle.lnet_gates.specs.declared.gate.Kind.TheVariants.{Aig}
use Rattle.lnet_model.specs.Networks.{Entry, Constant, Input, IsGate, NetworkValue}
use Rattle.lnet_model.specs.Cuts.{CutValue}
use Rattle.lnet_model.specs.declared.event.Event.{Event}
use Rattle.lnet_model.specs.declared.event.Event.TheVariants.{Modified}

abbrev pub signal : ℕ → Bool → Signal
signal n c = record { node = record { 0 = n }; complement = c }

abbrev pub and_of_nodes : ℕ → ℕ → Entry
and_of_nodes a b = IsGate (record { op = And; phase = false; fanins = signal a false ∷ signal b false ∷ [] })

abbrev pub worked_entries : List (ℕ × Entry)
worked_entries =
    (0, Constant) ∷ (1, Input 0) ∷ (2, Input 1) ∷ (3, Input 2) ∷ (4, Input 3)
    ∷ (5, and_of_nodes 1 2) ∷ (6, and_of_nodes 1 5) ∷ (7, and_of_nodes 3 6) ∷ (8, and_of_nodes 4 7) ∷ (9, and_of_nodes 3 5) ∷ (10, and_of_nodes 4 9) ∷ []

unfoldable pub worked_network : NetworkValue
worked_network = record { kind = Aig; nodes = from_sorted {R = nat_cmp} worked_entries; inputs = 1 ∷ 2 ∷ 3 ∷ 4 ∷ []; outputs = signal 8 false ∷ signal 10 true ∷ [] }

-- the gate at 9 was the And of nodes 3 and 6, and so a level higher
abbrev pub worked_event : Event
worked_event = Modified (record { 0 = 9 }) (record { op = And; phase = false; fanins = signal 3 false ∷ signal 6 false ∷ [] })

-- a cut by the number of its table
abbrev pub cut : List ℕ → ℕ → CutValue
cut leaves t = record { leaves = leaves; table = by_rows (length leaves) (is_set t) }
