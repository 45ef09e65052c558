use Rattle.lnet_hashed.proofs.LaidValues.{strashed-made, made-stands}
use Rattle.lnet_hashed.proofs.made_operations.Goals as goal

pub returns-clause-value : goal.returns-clause-value
returns-clause-value c kind N op operands takes fits stored live few a = (made-stands kind N op operands takes fits stored live few).valued a

pub returns-clause-entries : goal.returns-clause-entries
returns-clause-entries c kind N op operands takes fits stored live few n here = (made-stands kind N op operands takes fits stored live few).extends.entries n here

pub returns-clause-values : goal.returns-clause-values
returns-clause-values c kind N op operands takes fits stored live few a n here = (made-stands kind N op operands takes fits stored live few).extends.values a n here

pub returns-clause-strashed : goal.returns-clause-strashed
returns-clause-strashed c kind N op operands takes fits strashed = strashed-made kind N op operands takes fits strashed
