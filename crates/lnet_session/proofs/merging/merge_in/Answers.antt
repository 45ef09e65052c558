use Rattle.std.proofs.Common.{None, refl, sym, subst}
use Rattle.lnet_any.specs.AnyNets.{network_in}
use Rattle.lnet_replies.specs.declared.reply.Reply.TheVariants as reply
use Rattle.lnet_build.specs.Sound.{IsSound}
use Rattle.lnet_session.specs.Merging.{GivesWay, MergesIn, StandsInTheWay}
use Rattle.lnet_session.proofs.merging.merge_in.Goals as goal

pub returns-in-Ok-None-clause-merges : goal.returns-in-Ok-None-clause-merges
returns-in-Ok-None-clause-merges g c =
    let net = c.obstacle.new.net in
    let Q = network_in c.substitute.new.self in
    let told = subst (StandsInTheWay (network_in c.args.net.now) c.args.n.0 c.args.s) c.in-Ok-None.field-0-is c.in-Ok-None.ensures.stands in
    let stands = subst (λ m. StandsInTheWay (network_in m) c.args.n.0 c.args.s None) (sym c.obstacle.ensures.same) told in
    let gives : GivesWay (network_in net) c.args.n.0 c.args.s Q = record {
      leaves = c.substitute.ensures.substitutes;
      sound = λ before. record { stored = c.substitute.ensures.stored; strashed = c.substitute.ensures.strashed; tidy = c.substitute.ensures.tidy before.tidy };
      outputs = c.substitute.ensures.outputs (λ a. sym (stands.1 a));
    } in
    subst (λ m. MergesIn (network_in m) c.args.n.0 c.args.s (reply.Merged c.args.n.0 c.gate_count.result) Q) c.obstacle.ensures.same (stands, gives, refl, c.gate_count.ensures)

pub returns-in-Ok-None-clause-sound : goal.returns-in-Ok-None-clause-sound
returns-in-Ok-None-clause-sound g c =
    λ sound.
    let before = subst (λ m. IsSound (network_in m)) (sym c.obstacle.ensures.same) sound in
    record { stored = c.substitute.ensures.stored; strashed = c.substitute.ensures.strashed; tidy = c.substitute.ensures.tidy before.tidy }
