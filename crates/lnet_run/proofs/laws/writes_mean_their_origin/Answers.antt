use Rattle.lnet_run.proofs.Origins.{writes_follow}
use Rattle.lnet_run.proofs.laws.writes_mean_their_origin.Goals as goal

pub returns : goal.returns
returns c = λ index commands old mid new text line unmet at format name contents none runs turn told. writes_follow index commands old mid new text line unmet at format name contents none runs turn told
