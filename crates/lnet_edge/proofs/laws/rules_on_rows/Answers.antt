use Rattle.std.proofs.Common.{refl}
use Rattle.lnet_edge.proofs.laws.rules_on_rows.Goals as goal

pub returns : goal.returns
returns c = record {
  gates = (refl, refl, refl);
  table = (refl, refl);
  rows = λ b. (refl, refl);
  zeros = λ b. (refl, refl);
  none = λ value bits. refl;
}
