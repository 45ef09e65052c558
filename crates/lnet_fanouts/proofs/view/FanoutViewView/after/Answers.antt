use Rattle.lnet_fanouts.proofs.Events.{one-read}
use Rattle.lnet_fanouts.proofs.view.FanoutViewView.after.Goals as goal

pub returns-in-Added-clause-visits : goal.returns-in-Added-clause-visits
returns-in-Added-clause-visits c =
    one-read c.args.self.now.attached c.requires.in_step.asked c.args.look.network c.args.event.now c.requires.in_step.attached c.args.visits.now.count c.add.new.visits.count c.add.ensures.count

pub returns-in-Modified-clause-visits : goal.returns-in-Modified-clause-visits
returns-in-Modified-clause-visits c =
    one-read c.args.self.now.attached c.requires.in_step.asked c.args.look.network c.args.event.now c.requires.in_step.attached c.args.visits.now.count c.modify.new.visits.count c.modify.ensures.count
