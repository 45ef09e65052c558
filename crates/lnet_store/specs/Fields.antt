-- What a store's fields hold: its network, the references, and memory for each number.
use Rattle.std.specs.Prelude.{◌≡◌, ℕ, ◌≤◌, Bool, false, List, map, length, slice_index, slice_index_or, count_by, eqb}
use Rattle.std.specs.Ordering.{nat_cmp}
use Rattle.std.specs.FinMap.{FinMap}
use Rattle.lnet_gates.specs.declared.gate.Kind.TheVariants.{Klut}
use Rattle.lnet_gates.specs.declared.signal.Node.{Node}
use Rattle.lnet_gates.specs.declared.signal.Signal.{Signal}
use Rattle.lnet_model.specs.Networks.{NetworkValue, Entry}
use Rattle.lnet_model.specs.Dags.{NUMBERS}
use Rattle.lnet_model.specs.Fanouts.{references}
use Rattle.lnet_store.specs.Held.{Numbered, IsFitting}

-- the network of the nodes, the inputs and the outputs
unfoldable pub network_of : FinMap nat_cmp Entry → List Node → List Signal → NetworkValue
network_of nodes inputs outputs = record { kind = Klut; nodes = nodes; inputs = map (λ (n : Node). n.0) inputs; outputs = outputs }

-- how many of the signals name n
abbrev pub naming : ℕ → List Signal → ℕ
naming n ss = count_by (λ (s : Signal). eqb s.node.0 n) ss

-- the counts are the references
unfoldable pub AreReferences : List ℕ → NetworkValue → Type 0
AreReferences counts N = (n : ℕ) → slice_index counts n ≡ references N n

-- memory for each number that has a slot: a place for an input, a count, an unset mark and a place in a queue
pub record HasRoom (nodes : Numbered) (places : ℕ) (inputs : List Node) (counts : List ℕ) (marks : List Bool) (queue : ℕ) : Type 0 where
  pub fitting : IsFitting nodes
  pub inputs_fit : nodes.room ≤ places
  pub few_inputs : length inputs ≤ NUMBERS
  pub counts_fit : nodes.room ≤ length counts
  pub marks_fit : nodes.room ≤ length marks
  pub unmarked : (n : ℕ) → slice_index_or marks n false ≡ false
  pub queue_fits : nodes.room ≤ queue
