use Rattle.std.proofs.Common.{rules, ap}
use Rattle.lnet_any.specs.AnyNets.{network_in}
use Rattle.lnet_session.specs.Sessions.{held_in}
use Rattle.lnet_session.proofs.Placed.{writes-held}
use Rattle.lnet_session.proofs.session.Session.write_file.Goals as goal

pub returns-in-Ok-store-clause-writes : goal.returns-in-Ok-store-clause-writes
returns-in-Ok-store-clause-writes g c =
    writes-held c.args.format (held_in c.args.self.now.place) (record { network = network_in c.in-Some.place.network; names = c.in-Some.place.names }) (g.F.Files.contents c.args.files.now) (g.F.Files.contents c.store.new.self) c.args.name.now c.in-Ok.circuit c.in-Ok-text_of.text.items c.len.result
    (ap held_in c.in-Some.is) (search rules) c.in-Ok.ensures.circuit c.in-Ok.ensures.outputs c.in-Ok.ensures.input_names c.in-Ok.ensures.output_names c.in-Ok-text_of.ensures.text c.in-Ok-text_of.ensures.means (search rules) (search rules)
