-- What is read of a network seen as one of a kind is what is read of it.
use Rattle.std.proofs.Common.{◌≡◌, ℕ, refl}
use Rattle.lnet_gates.specs.declared.gate.Kind.{Kind}
use Rattle.lnet_model.specs.Networks.{NetworkValue, IsLive, entry_at, gate_at, live_count}
use Rattle.lnet_model.specs.Changes.{IsGateAt}
use Rattle.lnet_model.specs.Along.{Reaches, over}
use Rattle.lnet_model.specs.Dags.{AreBelow, IsStored, numbers_of}
use Rattle.lnet_model.specs.Fanouts.{fan, references}
use Rattle.lnet_model.specs.Levels.{depth}
use Rattle.lnet_hashed.specs.Strashed.{of_kind, IsStrashed}

pub gate-kind : (kind : Kind) (N : NetworkValue) (n : ℕ) → gate_at (of_kind kind N) n ≡ gate_at N n
unfolding entry_at
gate-kind kind N n = refl

pub references-kind : (kind : Kind) (N : NetworkValue) (n : ℕ) → references (of_kind kind N) n ≡ references N n
unfolding references fan
references-kind kind N n = refl

pub numbers-kind : (kind : Kind) (N : NetworkValue) → numbers_of (of_kind kind N) ≡ numbers_of N
unfolding numbers_of
numbers-kind kind N = refl

pub depth-kind : (kind : Kind) (N : NetworkValue) → depth (of_kind kind N) ≡ depth N
unfolding depth over entry_at live_count
depth-kind kind N = refl

pub below-kind : (kind : Kind) (N : NetworkValue) (r : ℕ) → AreBelow N r → AreBelow (of_kind kind N) r
unfolding entry_at
below-kind kind N r h = h

pub reaches-kind : (kind : Kind) (N : NetworkValue) (m n : ℕ) → Reaches N m n → Reaches (of_kind kind N) m n
unfolding entry_at
reaches-kind kind N m n h = h

pub kind-reaches : (kind : Kind) (N : NetworkValue) (m n : ℕ) → Reaches (of_kind kind N) m n → Reaches N m n
unfolding entry_at
kind-reaches kind N m n h = h

pub stored-kind : (kind : Kind) (N : NetworkValue) → IsStored N → IsStored (of_kind kind N)
unfolding entry_at
stored-kind kind N h = record {
  dag = record { acyclic = h.dag.acyclic; closed = h.dag.closed; arities = h.dag.arities };
  whole = record { first = h.whole.first; closed = h.whole.closed; outputs_live = h.whole.outputs_live };
  constants = h.constants;
  inputs = h.inputs;
  below = h.below;
  few_outputs = h.few_outputs;
}

pub strashed-kind : (kind : Kind) (N : NetworkValue) → IsStrashed kind N → IsStrashed kind (of_kind kind N)
unfolding entry_at
strashed-kind kind N h = record { native = h.native; own_form = h.own_form; and_phase = h.and_phase; apart = h.apart }

pub kind-gate : (kind : Kind) (N : NetworkValue) (n : ℕ) → IsGateAt (of_kind kind N) n → IsGateAt N n
unfolding entry_at
kind-gate kind N n h = h

pub kind-live : (kind : Kind) (N : NetworkValue) (n : ℕ) → IsLive (of_kind kind N) n → IsLive N n
unfolding entry_at
kind-live kind N n h = h
