use Rattle.std.proofs.Common.{ℕ}
use Rattle.lnet_gates.specs.declared.signal.Signal.{Signal}
use Rattle.lnet_gates.specs.declared.gate.Kind.{Kind}
use Rattle.lnet_model.specs.Networks.{NetworkValue, IsLive}
use Rattle.lnet_model.specs.Along.{Depends}
use Rattle.lnet_model.specs.Changes.{IsGateAt}
use Rattle.lnet_hashed.specs.Strashed.{IsStrashed}
use Rattle.std.specs.Prelude.{slice_set, false}
use Rattle.lnet_model.specs.Dags.{IsStored}
use Rattle.lnet_hashed.proofs.Indexing.{clear-set}
use Rattle.lnet_cascade.proofs.NoteSteps.{notes-begin}
use Rattle.lnet_cascade.proofs.Whole.{begins, begins-gates, substitutes}
use Rattle.lnet_substitution.specs.Substitutions.{CanSubstitute}
use Rattle.lnet_substitution.proofs.Substituted.{substituted-IsStrashed}
use Rattle.lnet_cascade.proofs.substituting.substitute.Goals as goal

can :
    (kind : Kind) (N : NetworkValue) (o : ℕ) (s : Signal) → IsStored N → IsStrashed kind N → IsGateAt N o → IsLive N s.node.0 → (Depends N s o → ⊥) →
    CanSubstitute kind N o s
can kind N o s stored strashed gate live free = record { acyclic = stored.dag.acyclic; whole = stored.whole; strashed = strashed; gate = gate; live = live; free = free }

pub cascade-requires-clause-begun : goal.cascade-requires-clause-begun
cascade-requires-clause-begun g c =
    let N = c.args.hashed.now.store.network in (
      N,
      c.args.gate.0,
      c.args.signal,
      (can g.G.Gates.KIND c.args.hashed.now.store.network c.args.gate.0 c.args.signal c.live_count-first.ensures.stored c.requires.strashed c.requires.gate c.requires.live c.requires.free),
      begins g.G.Gates.KIND N c.args.gate.0 c.args.signal
          (can g.G.Gates.KIND N c.args.gate.0 c.args.signal c.live_count-first.ensures.stored c.requires.strashed c.requires.gate c.requires.live c.requires.free)
          c.live_count-first.ensures.stored (slice_set c.args.hashed.now.keys.dirty c.args.gate.0 false) (clear-set c.args.hashed.now.keys.dirty c.args.gate.0 c.requires.room.clean)
          c.replace.new.hashed.store.network c.replace.ensures.network c.replace.new.hashed.keys.dirty c.replace.ensures.dirty,
    )

pub cascade-requires-clause-gates : goal.cascade-requires-clause-gates
cascade-requires-clause-gates g c =
    begins-gates g.G.Gates.KIND c.args.hashed.now.store.network c.args.gate.0 c.args.signal
    (can g.G.Gates.KIND c.args.hashed.now.store.network c.args.gate.0 c.args.signal c.live_count-first.ensures.stored c.requires.strashed c.requires.gate c.requires.live c.requires.free)
    c.live_count-first.ensures.stored (slice_set c.args.hashed.now.keys.dirty c.args.gate.0 false) (clear-set c.args.hashed.now.keys.dirty c.args.gate.0 c.requires.room.clean)
    c.replace.new.hashed.store.network c.replace.ensures.network c.replace.new.hashed.keys.dirty c.replace.ensures.dirty

pub returns-clause-substitutes : goal.returns-clause-substitutes
returns-clause-substitutes g c =
    let N = c.args.hashed.now.store.network in
    let noted = c.cascade.ensures.midway.noted.goes_on N (c.replace.ensures.midway.noted.goes_on N (notes-begin N c.args.hashed.now.notes c.requires.room.blank)) in
    substitutes g.G.Gates.KIND N c.args.gate.0 c.args.signal
    (can g.G.Gates.KIND N c.args.gate.0 c.args.signal c.live_count-first.ensures.stored c.requires.strashed c.requires.gate c.requires.live c.requires.free)
    c.live_count-first.ensures.stored (slice_set c.args.hashed.now.keys.dirty c.args.gate.0 false) (clear-set c.args.hashed.now.keys.dirty c.args.gate.0 c.requires.room.clean)
    c.replace.new.hashed.store.network c.replace.ensures.network c.replace.new.hashed.keys.dirty c.replace.ensures.dirty
    c.cascade.new.hashed.store.network c.cascade.new.hashed.keys.dirty c.cascade.ensures.goes_on c.cascade.ensures.clean c.cascade.new.hashed.notes noted
    c.sweep_lost.new.hashed.store.network c.sweep_lost.ensures.drops (c.sweep_lost.ensures.none N noted)

pub returns-clause-strashed : goal.returns-clause-strashed
returns-clause-strashed g c =
    substituted-IsStrashed g.G.Gates.KIND c.args.hashed.now.store.network c.args.gate.0 c.args.signal
    (can g.G.Gates.KIND c.args.hashed.now.store.network c.args.gate.0 c.args.signal c.live_count-first.ensures.stored c.requires.strashed c.requires.gate c.requires.live c.requires.free)
    c.sweep_lost.new.hashed.store.network (returns-clause-substitutes g c)
