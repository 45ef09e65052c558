use Rattle.lnet_script.specs.declared.command.WriteFormat.TheVariants.{Aag, Aig, Blif, Bench}
use Rattle.lnet_session.proofs.Texts.{told-text}
use Rattle.lnet_session.proofs.asking.text_of.Goals as goal

pub returns-in-Aag-clause-means : goal.returns-in-Aag-clause-means
returns-in-Aag-clause-means c =
    told-text (λ v. v.items) c.args.circuit.now c.args.format Aag c.in-Aag.is c.write_ascii.result c.write_ascii.ensures.means

pub returns-in-Aig-clause-means : goal.returns-in-Aig-clause-means
returns-in-Aig-clause-means c =
    told-text (λ v. v.items) c.args.circuit.now c.args.format Aig c.in-Aig.is c.write_binary.result c.write_binary.ensures.means

pub returns-in-Blif-clause-means : goal.returns-in-Blif-clause-means
returns-in-Blif-clause-means c =
    told-text (λ v. v.items) c.args.circuit.now c.args.format Blif c.in-Blif.is c.write.result (c.write.ensures.means c.requires.few)

pub returns-in-Bench-clause-means : goal.returns-in-Bench-clause-means
returns-in-Bench-clause-means c =
    told-text (λ v. v.items) c.args.circuit.now c.args.format Bench c.in-Bench.is c.write-in-Bench.result (c.write-in-Bench.ensures.means c.requires.few)
