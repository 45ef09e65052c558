use Rattle.std.proofs.Common.{◌<◌, length, ap, ◌∙◌, inl, inr, arith}
use Rattle.std.proofs.lemmas.Bool.Decides.{eqb_tells}
use Rattle.std.proofs.lemmas.List.{length-map}
use Rattle.lnet_gates.specs.Operands.{moved}
use Rattle.lnet_model.specs.Fanouts.{references}
use Rattle.lnet_substitution.specs.Replaced.{redirected, replaced}
use Rattle.lnet_substitution.specs.Substitutions.{CanSubstitute, IsNamed}
use Rattle.lnet_cascade.proofs.Named.{referenced-named, unreferenced-unnamed}
use Rattle.lnet_any.proofs.substituting.substitute.Goals as goal

pub returns-clause-outputs : goal.returns-clause-outputs
returns-clause-outputs g c =
    let N = c.args.net.now.core.network in
    let can : CanSubstitute g.G.Gates.KIND N c.args.gate.0 c.args.signal = record {
      acyclic = c.live_count-before.ensures.stored.dag.acyclic;
      whole = c.live_count-before.ensures.stored.whole;
      strashed = c.live_count-before.ensures.strashed;
      gate = c.requires.gate;
      live = c.requires.live;
      free = c.requires.free;
    } in
    λ equal a. c.substitutions_keep_outputs.ensures.equal g.G.Gates.KIND N c.args.gate.0 c.args.signal c.substitute.new.self.core.network can c.substitute.ensures.substitutes a (equal a)

pub returns-clause-tidy : goal.returns-clause-tidy
returns-clause-tidy g c =
    let N = c.args.net.now.core.network in
    let Q = c.substitute.new.self.core.network in
    let can : CanSubstitute g.G.Gates.KIND N c.args.gate.0 c.args.signal = record {
      acyclic = c.live_count-before.ensures.stored.dag.acyclic;
      whole = c.live_count-before.ensures.stored.whole;
      strashed = c.live_count-before.ensures.strashed;
      gate = c.requires.gate;
      live = c.requires.live;
      free = c.requires.free;
    } in
    λ tidy n is.
    let named : IsNamed Q n = c.substitutions_keep_the_shape.ensures.tidy g.G.Gates.KIND N c.args.gate.0 c.args.signal Q can c.substitute.ensures.substitutes (λ m at. referenced-named N m (tidy m at)) n is in
    elim (eqb_tells (references Q n) 0) as (λ _. 0 < references Q n) [
      | inl p ↦ absurd (unreferenced-unnamed Q n p.1 named)
      | inr p ↦ (let some = p.1 in omega arith)
    ]

pub returns-clause-outputs_count : goal.returns-clause-outputs_count
unfolding replaced
returns-clause-outputs_count g c =
    let s = c.substitute.ensures.substitutes in
    let N = c.args.net.now.core.network in
    ap length (s.drops.outputs ∙ s.merges.outputs) ∙ length-map _ (moved s.rep) ∙ length-map N.outputs (redirected c.args.gate.0 c.args.signal)
