use Rattle.lnet_resyn.specs.Procedures.{IsTable}
use Rattle.lnet_resyn.proofs.resyn.Resyn.propose.Goals as goal

pub ask-requires : goal.ask-requires
ask-requires g c =
    let is : IsTable c.args.self.now.width c.args.table = record { vars = c.requires; long = c.vars-vars.ensures.long } in
    c.args.self.now.callable c.args.table is

pub returns : goal.returns
returns g c =
    let is : IsTable c.args.self.now.width c.args.table = record { vars = c.requires; long = c.vars-vars.ensures.long } in
    c.args.self.now.lawful c.args.table c.ask.result is c.ask.ensures
