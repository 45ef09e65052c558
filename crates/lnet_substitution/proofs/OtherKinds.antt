-- A substitution doesn't depend on the kind that is written beside the nodes.
use Rattle.std.proofs.Common.{ℕ, refl}
use Rattle.lnet_gates.specs.declared.signal.Signal.{Signal}
use Rattle.lnet_gates.specs.declared.gate.Kind.{Kind}
use Rattle.lnet_model.specs.Networks.{NetworkValue, entry_at}
use Rattle.lnet_hashed.specs.Strashed.{of_kind}
use Rattle.lnet_substitution.specs.Replaced.{replaced}
use Rattle.lnet_substitution.specs.Substitutions.{SameLeaves, IsMerged, DropsLost, Substitutes}

leaves-of_kind : (kind : Kind) (N P : NetworkValue) → SameLeaves N P → SameLeaves (of_kind kind N) (of_kind kind P)
unfolding entry_at
leaves-of_kind kind N P h = record { kind = refl; inputs = h.inputs; constant = h.constant; input = h.input }

merges-of_kind : (other kind : Kind) (N : NetworkValue) (o : ℕ) (s : Signal) (P : NetworkValue) (rep : ℕ → Signal) → IsMerged kind N o s P rep → IsMerged kind (of_kind other N) o s (of_kind other P) rep
unfolding entry_at replaced
merges-of_kind other kind N o s P rep h = record {
  leaves = leaves-of_kind other N P h.leaves;
  nodes = record { leaf = h.nodes.leaf; gate = h.nodes.gate };
  outputs = h.outputs;
  own = h.own;
  kept = h.kept;
  strashed = record { native = h.strashed.native; own_form = h.strashed.own_form; and_phase = h.strashed.and_phase; apart = h.strashed.apart };
  acyclic = h.acyclic;
  whole = record { first = h.whole.first; closed = h.whole.closed; outputs_live = h.whole.outputs_live };
}

drops-of_kind : (other : Kind) (N P Q : NetworkValue) → DropsLost N P Q → DropsLost (of_kind other N) (of_kind other P) (of_kind other Q)
unfolding entry_at
drops-of_kind other N P Q h = record { leaves = leaves-of_kind other P Q h.leaves; outputs = h.outputs; gates = h.gates; stay = h.stay }

-- what a substitution leaves, with another kind beside both networks
pub substitutes-of_kind : (other kind : Kind) (N : NetworkValue) (o : ℕ) (s : Signal) (Q : NetworkValue) → Substitutes kind N o s Q → Substitutes kind (of_kind other N) o s (of_kind other Q)
substitutes-of_kind other kind N o s Q h = record {
  merged = of_kind other h.merged;
  rep = h.rep;
  merges = merges-of_kind other kind N o s h.merged h.rep h.merges;
  drops = drops-of_kind other N h.merged Q h.drops;
}
