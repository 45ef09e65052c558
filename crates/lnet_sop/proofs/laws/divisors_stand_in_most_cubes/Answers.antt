use Rattle.lnet_sop.proofs.FormLaws.{most_common_most, most_common_first}
use Rattle.lnet_sop.proofs.laws.divisors_stand_in_most_cubes.Goals as goal

pub returns : goal.returns
returns c = record { most = most_common_most; first = most_common_first }
