use Rattle.lnet_uses.proofs.Meant.{shown-means, if-ok}
use Rattle.lnet_uses.proofs.writing.aiger_of.Goals as goal

pub returns : goal.returns
returns g c = record {
  means = if-ok c.write_binary.result (λ v shows. shown-means c.in_ok-circuit.circuit c.args.net.now.core.network c.in_ok-circuit.ensures.outputs shows) c.write_binary.ensures.means;
}
