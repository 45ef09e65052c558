use Rattle.lnet_blifmeans.proofs.Written.{ok_means, ok_in_file}
use Rattle.lnet_blifmeans.proofs.writing.write.Goals as goal

pub returns-clause-means : goal.returns-clause-means
returns-clause-means c = ok_means c.args.circuit.now c.keep.ensures.names c.keep.ensures.wires c.keep.ensures.rules c.requires c.write.result c.write.ensures.text

pub returns-clause-in_file : goal.returns-clause-in_file
returns-clause-in_file c = ok_in_file c.args.circuit.now c.keep.ensures.names c.keep.ensures.wires c.keep.ensures.rules c.requires c.write.result c.write.ensures.text
