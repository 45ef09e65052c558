use Rattle.std.proofs.Common.{◌∙◌, ℕ, List, All, ap, subst, sym, arith}
use Rattle.lnet_gates.specs.declared.signal.Node.{Node}
use Rattle.lnet_gates.specs.declared.signal.Signal.{Signal}
use Rattle.lnet_simulate.specs.Assignments.{assignment}
use Rattle.lnet_simulate.specs.Cones.{IsListed}
use Rattle.lnet_simulate.specs.Lanes.{lane}
use Rattle.lnet_simulate.proofs.OutputLemmas.{if-ok, outputs-below, outputs-listed, outputs-same}
use Rattle.lnet_simulate.proofs.simulating.simulate.Goals as goal

pub cone_of-requires : goal.cone_of-requires
cone_of-requires g c = outputs-below c.args.net.now.core.network c.deref.result.now c.live_count-live.ensures.stored (c.deref.ensures.value ∙ c.in_ok-roots.ensures)

pub simulate_lane-requires-clause-outputs : goal.simulate_lane-requires-clause-outputs
simulate_lane-requires-clause-outputs g c =
    let outs = c.args.net.now.core.network.outputs in
    let same = c.deref-2.ensures.value in
    subst (λ (o : List Node). All (λ (s : Signal). IsListed o s.node.0) outs) (sym same) (outputs-listed outs c.deref.result.now c.in_ok-cone.cone.items (c.deref.ensures.value ∙ c.in_ok-roots.ensures) c.in_ok-cone.ensures.roots)

pub returns : goal.returns
returns g c =
    let N = c.args.net.now.core.network in
    let same = c.deref-3.ensures.value in
    let sized = c.requires in
    record {
      outputs = if-ok c.simulate_lane.result _ _
          (λ values is. is ∙ outputs-same N (lane c.deref-3.result.now 0) (assignment c.args.bits.now) c.live_count-live.ensures.stored
          (λ k low. ap (λ (ws : List ℕ). lane ws 0 k) same ∙ c.in_ok-inputs.ensures.lanes k (omega arith)))
          c.simulate_lane.ensures;
    }
