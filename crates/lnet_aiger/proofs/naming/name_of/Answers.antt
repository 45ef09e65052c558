use Rattle.lnet_aiger.proofs.SymbolLemmas.{IsName-by}
use Rattle.lnet_aiger.proofs.naming.name_of.Goals as goal

pub new-requires : goal.new-requires
new-requires c = rw c.in_ok-text.ensures.ok (IsName-by c.args.text.now c.requires)
