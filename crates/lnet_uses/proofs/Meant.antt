-- From what a writer's bytes show of a circuit to what they mean of the network that it came from.
use Rattle.std.proofs.Common.{◌≡◌, ℕ, Bool, List, Option, Result, Ok, Err, IfOk, ◌∙◌}
use Rattle.lnet_edge.specs.Circuits.{CircuitValue}
use Rattle.lnet_edge.specs.Values.{circuit_outputs}
use Rattle.lnet_edge.specs.Shown.{Shows}
use Rattle.lnet_model.specs.Networks.{NetworkValue}
use Rattle.lnet_model.specs.Values.{network_outputs}
use Rattle.lnet_uses.specs.Files.{MeansNetwork}

pub shown-means :
    {Means : CircuitValue → Type 0} {inputs outputs : List (Option (List ℕ))} (c : CircuitValue) (N : NetworkValue) → ((a : ℕ → Bool) → circuit_outputs c a ≡ network_outputs N a) →
    Shows Means inputs outputs (circuit_outputs c) → MeansNetwork Means N
shown-means c N same shows = record { circuit = shows.circuit; means = shows.means; outputs = λ a. shows.shown a ∙ same a }

pub if-ok : {A E : Type 0} {P Q : A → Type 0} (r : Result A E) → ((a : A) → P a → Q a) → IfOk r P → IfOk r Q
if-ok (Ok a) f h = f a h
if-ok (Err e) f h = tt
