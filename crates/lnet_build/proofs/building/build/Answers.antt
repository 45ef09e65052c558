use Rattle.std.proofs.Common.{ℕ, List, length, ap, ◌∙◌}
use Rattle.lnet_gates.specs.declared.signal.Signal.{Signal}
use Rattle.lnet_model.specs.Networks.{NetworkValue}
use Rattle.lnet_model.specs.Values.{network_outputs}
use Rattle.lnet_hashed.proofs.SweptValues.{outputs-kept}
use Rattle.lnet_build.proofs.BuiltValues.{unswept-ports, unswept-values}
use Rattle.lnet_build.proofs.Tidy.{swept-tidy}
use Rattle.lnet_build.proofs.building.build.Goals as goal

pub returns-clause-outputs : goal.returns-clause-outputs
returns-clause-outputs g c a =
    outputs-kept c.raise.new.net.core.network c.sweep.new.self.core.network c.sweep.ensures.network.trimmed c.in_ok-raise.ensures.stored a
    ∙ ap (λ (N : NetworkValue). network_outputs N a) c.in_ok-raise.ensures.network
    ∙ unswept-values g.G.Gates.KIND c.args.circuit.now c.equations-circuit.ensures.circuit c.in_ok-raise.ensures.words c.in_ok-raise.ensures.fits a

pub returns-clause-inputs : goal.returns-clause-inputs
returns-clause-inputs g c =
    ap (λ (ns : List ℕ). length ns) c.sweep.ensures.network.trimmed.inputs
    ∙ ap (λ (N : NetworkValue). length N.inputs) c.in_ok-raise.ensures.network
    ∙ (unswept-ports g.G.Gates.KIND c.args.circuit.now c.equations-circuit.ensures.circuit c.in_ok-raise.ensures.words c.in_ok-raise.ensures.fits).0

pub returns-clause-outputs_count : goal.returns-clause-outputs_count
returns-clause-outputs_count g c =
    ap (λ (ss : List Signal). length ss) c.sweep.ensures.network.trimmed.outputs
    ∙ ap (λ (N : NetworkValue). length N.outputs) c.in_ok-raise.ensures.network
    ∙ (unswept-ports g.G.Gates.KIND c.args.circuit.now c.equations-circuit.ensures.circuit c.in_ok-raise.ensures.words c.in_ok-raise.ensures.fits).1

pub returns-clause-tidy : goal.returns-clause-tidy
returns-clause-tidy g c = swept-tidy c.raise.new.net.core.network c.sweep.new.self.core.network c.sweep.ensures.network
