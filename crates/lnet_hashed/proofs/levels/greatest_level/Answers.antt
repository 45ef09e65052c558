use Rattle.std.proofs.Common.{◌≡◌, suc, ◌+◌, ◌<◌, max, length, false, ap, sym, ◌∙◌, arith}
use Rattle.std.proofs.lemmas.Option.{slice_get-get_or}
use Rattle.lnet_gates.specs.declared.signal.Signal.{Signal}
use Rattle.lnet_model.specs.Levels.{level, depth as depth_of}
use Rattle.lnet_hashed.proofs.Greatest.{greatest_from, greatest-next}
use Rattle.lnet_hashed.proofs.levels.greatest_level.Goals as goal
use Rattle.lnet_hashed.proofs.levels.greatest_level.Goals.{in-Some, in_default}

pub loop-k-init : goal.loop-k-init
unfolding depth_of
loop-k-init c = omega arith

pub loop-k-preserved : goal.loop-k-preserved
loop-k-preserved c = elim c.match-output.branch [
  | in-Some w ↦
      let next : c.loop-k.k + 1 ≡ suc c.loop-k.k = omega arith in
      let is : c.match-output.greatest ≡ max (level c.args.store.now.network w.in-Some.signal.node.0) c.loop-k.greatest = omega arith in
      ap (λ d. greatest_from (level c.args.store.now.network) d (c.loop-k.k + 1) c.args.store.now.network.outputs) is
      ∙ ap (λ k. greatest_from (level c.args.store.now.network) (max (level c.args.store.now.network w.in-Some.signal.node.0) c.loop-k.greatest) k c.args.store.now.network.outputs) next
      ∙ sym (greatest-next (level c.args.store.now.network) c.loop-k.greatest c.loop-k.k c.args.store.now.network.outputs w.in-Some.signal (sym w.in-Some.ensures.value))
      ∙ c.loop-k.invariant
  | in_default w ↦
      let below : c.loop-k.k < length c.args.store.now.network.outputs = omega arith in
      let none : Signal = record { node = record { 0 = 0 }; complement = false } in
      absurd (w.in_default.not-Some _ (c.output.ensures.value ∙ slice_get-get_or c.args.store.now.network.outputs c.loop-k.k none below))
]
