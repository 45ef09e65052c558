use Rattle.std.proofs.Common.{◌<◌, length, All, sym, subst, ◌∙◌, arith, rules, refl}
use Rattle.lnet_build.proofs.RaiseLemmas.{first-stand, first-few, ports-past, within-views, raised-full, raised-few, words-are, outputs-few, unswept-is}
use Rattle.lnet_build.proofs.building.raise.Goals as goal

pub returns-then-ports-clause-full : goal.returns-then-ports-clause-full
returns-then-ports-clause-full g c e =
    ports-past g.G.Gates.KIND c.args.circuit.now c.equations-equations.result.now c.equations-equations.ensures.value c.inputs-ports.result.now c.inputs-ports.ensures _ refl (let h = c.if-ports.true in omega arith)

pub add_inputs-requires-clause-few : goal.add_inputs-requires-clause-few
add_inputs-requires-clause-few g c =
    let one = first-few g.G.Gates.KIND c.args.net.now.core.network c.requires.first in
    let h = c.if-ports.false in
    omega arith

pub build_equations-requires-clause-within : goal.build_equations-requires-clause-within
build_equations-requires-clause-within g c =
    subst (All (λ k. k < length c.equations-equations.result.now)) (sym c.deref.ensures.value)
    (within-views g.G.Gates.KIND c.args.circuit.now c.equations-equations.result.now c.equations-equations.ensures.value c.inputs-ports.result.now c.inputs-ports.ensures c.in-Ok.places.items c.in-Ok.ensures.order c.in-Ok.ensures.within)

pub returns-in_err-build_equations-clause-full : goal.returns-in_err-build_equations-clause-full
returns-in_err-build_equations-clause-full g c e =
    raised-full g.G.Gates.KIND c.args.circuit.now c.equations-equations.result.now c.equations-equations.ensures.value c.inputs-ports.result.now c.inputs-ports.ensures c.deref.result.now (c.deref.ensures.value ∙ c.in-Ok.ensures.order)
    c.args.net.now.core.network c.new-signals.result (first-stand g.G.Gates.KIND c.args.net.now.core.network c.new-signals.result c.requires.first c.new-signals.ensures.empty)
    c.add_inputs.new.net.core.network c.add_inputs.new.signals c.in_ok-add_inputs.ensures.built (c.build_equations.ensures.full (search rules))

pub add_outputs-requires-clause-few : goal.add_outputs-requires-clause-few
add_outputs-requires-clause-few g c =
    outputs-few g.G.Gates.KIND c.args.circuit.now c.equations-equations.result.now c.equations-equations.ensures.value c.inputs-ports.result.now c.inputs-ports.ensures c.deref.result.now (c.deref.ensures.value ∙ c.in-Ok.ensures.order)
    c.args.net.now.core.network c.new-signals.result (first-stand g.G.Gates.KIND c.args.net.now.core.network c.new-signals.result c.requires.first c.new-signals.ensures.empty)
    c.add_inputs.new.net.core.network c.add_inputs.new.signals c.in_ok-add_inputs.ensures.built
    c.build_equations.new.net.core.network c.build_equations.new.signals c.in_ok-build_equations.ensures.built
    c.equations-equations.ensures.circuit c.in_ok-build_equations.ensures.words c.live_count-raised.ensures.limit c.outputs-outputs.result.now c.outputs-outputs.ensures

pub returns-in-Ok-add_outputs-clause-network : goal.returns-in-Ok-add_outputs-clause-network
returns-in-Ok-add_outputs-clause-network g c =
    c.in-Ok-add_outputs.ensures.network
    ∙ unswept-is g.G.Gates.KIND c.args.circuit.now c.equations-equations.result.now c.equations-equations.ensures.value c.inputs-ports.result.now c.inputs-ports.ensures c.deref.result.now (c.deref.ensures.value ∙ c.in-Ok.ensures.order)
    c.args.net.now.core.network c.new-signals.result (first-stand g.G.Gates.KIND c.args.net.now.core.network c.new-signals.result c.requires.first c.new-signals.ensures.empty)
    c.add_inputs.new.net.core.network c.add_inputs.new.signals c.in_ok-add_inputs.ensures.built
    c.build_equations.new.net.core.network c.build_equations.new.signals c.in_ok-build_equations.ensures.built c.outputs-outputs.result.now c.outputs-outputs.ensures

pub returns-in-Ok-add_outputs-clause-words : goal.returns-in-Ok-add_outputs-clause-words
returns-in-Ok-add_outputs-clause-words g c =
    words-are g.G.Gates.KIND c.args.circuit.now c.equations-equations.result.now c.equations-equations.ensures.value c.inputs-ports.result.now c.inputs-ports.ensures c.deref.result.now (c.deref.ensures.value ∙ c.in-Ok.ensures.order)
    c.args.net.now.core.network c.new-signals.result (first-stand g.G.Gates.KIND c.args.net.now.core.network c.new-signals.result c.requires.first c.new-signals.ensures.empty)
    c.add_inputs.new.net.core.network c.add_inputs.new.signals c.in_ok-add_inputs.ensures.built
    c.build_equations.new.net.core.network c.build_equations.new.signals c.in_ok-build_equations.ensures.built c.in_ok-build_equations.ensures.words

pub returns-in-Ok-add_outputs-clause-fits : goal.returns-in-Ok-add_outputs-clause-fits
returns-in-Ok-add_outputs-clause-fits g c =
    raised-few g.G.Gates.KIND c.args.circuit.now c.equations-equations.result.now c.equations-equations.ensures.value c.inputs-ports.result.now c.inputs-ports.ensures c.deref.result.now (c.deref.ensures.value ∙ c.in-Ok.ensures.order)
    c.args.net.now.core.network c.new-signals.result (first-stand g.G.Gates.KIND c.args.net.now.core.network c.new-signals.result c.requires.first c.new-signals.ensures.empty)
    c.add_inputs.new.net.core.network c.add_inputs.new.signals c.in_ok-add_inputs.ensures.built
    c.build_equations.new.net.core.network c.build_equations.new.signals c.in_ok-build_equations.ensures.built c.live_count-raised.ensures.limit
