use Rattle.lnet_blifmeans.proofs.Lengths.{file_room}
use Rattle.lnet_blifmeans.proofs.Means.{written_means}
use Rattle.lnet_blifmeans.proofs.laws.written_text_means.Goals as goal

pub returns-clause-in_file : goal.returns-clause-in_file
returns-clause-in_file c = λ circuit has wires is plain short. written_means circuit has wires is plain (file_room circuit short)

pub returns-clause-with_room : goal.returns-clause-with_room
returns-clause-with_room c = λ circuit has wires is plain room. written_means circuit has wires is plain room
