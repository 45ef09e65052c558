use Rattle.lnet_sop.proofs.FormLaws.{no_cubes, one_cube}
use Rattle.lnet_sop.proofs.laws.plain_forms.Goals as goal

pub returns : goal.returns
returns c = record { none = no_cubes; one = one_cube }
