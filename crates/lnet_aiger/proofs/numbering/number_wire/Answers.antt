use Rattle.std.proofs.Common.{sym, ◌∙◌}
use Rattle.lnet_aiger.proofs.Places.{KnowsPlaces-again, KnowsPlaces-new}
use Rattle.lnet_aiger.proofs.numbering.number_wire.Goals as goal

pub returns-in_ok-insert : goal.returns-in_ok-insert
returns-in_ok-insert c = λ xs knows is. KnowsPlaces-new c.args.variables.now c.insert.new.self xs c.args.wire c.args.variable knows (sym c.contains_key.ensures ∙ c.if-not-contains_key.true) c.in_ok-insert.ensures.updates is

pub returns-else-not-contains_key : goal.returns-else-not-contains_key
returns-else-not-contains_key c = λ xs knows is. KnowsPlaces-again c.args.variables.now xs c.args.wire knows (sym c.contains_key.ensures ∙ c.if-not-contains_key.false)
