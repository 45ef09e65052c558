use Rattle.lnet_aiger.proofs.Refused.{is_only}
use Rattle.lnet_aiger.proofs.Content.{content_again}
use Rattle.lnet_aiger.proofs.laws.one_meaning.Goals as goal

pub returns : goal.returns
returns c = λ bytes x y means other. is_only bytes y x (content_again bytes y other.spelled) means
