use Rattle.std.proofs.Common.{◌∙◌, sym, ap, subst}
use Rattle.rand_core.specs.Steps.{stream_of, steps_u32}
use Rattle.rand_pcg.specs.Lcg.{Lcg}
use Rattle.rand_pcg.specs.Pcg.{pcg32}
use Rattle.lnet_edge.specs.Circuits.{CircuitValue}
use Rattle.lnet_edge.specs.Plain.{IsPlain}
use Rattle.lnet_generate.specs.Drawing.{drawn, words_from}
use Rattle.lnet_generate.proofs.Numbered.{drawn-plain}
use Rattle.lnet_generate.proofs.generating.generate.Goals as goal

pub returns-clause-drawn : goal.returns-clause-drawn
unfolding words_from
returns-clause-drawn c = c.in_ok-circuit.ensures ∙ ap (λ (rng : Lcg). drawn c.args.kind c.args.inputs c.args.gates c.args.outputs (stream_of (steps_u32 pcg32) rng)) c.new-rng.ensures

pub returns-clause-plain : goal.returns-clause-plain
returns-clause-plain c = subst (λ (d : CircuitValue). IsPlain d.equations) (sym c.in_ok-circuit.ensures) (drawn-plain c.args.kind c.args.inputs c.args.gates c.args.outputs (stream_of (steps_u32 pcg32) c.new-rng.result))
