use Rattle.std.proofs.Common.{slice_index_or, None, refl, ◌∙◌}
use Rattle.lnet_any.specs.AnyNets.{core_in, network_in, views_in}
use Rattle.lnet_subscriptions.proofs.Asked.{level-read, level-some, level-none}
use Rattle.lnet_subscriptions.proofs.roll.Subscriptions.level.Goals as goal

pub returns-in-Some-level-clause-level : goal.returns-in-Some-level-clause-level
returns-in-Some-level-clause-level g c =
    let N = network_in c.args.net.now in
    let slot = slice_index_or (views_in c.args.net.now) c.in-Some.id.0 None in
    let read = level-read (λ b. (goal.View-dyn g (b.vtable, b.value)).spec_of b.value) (λ b. (goal.View-dyn g (b.vtable, b.value)).kept b.value) (λ b. (goal.View-dyn g (b.vtable, b.value)).room b.value) N (core_in c.args.net.now).room slot c.args.n.0 c.in-Some.ensures.stands (c.requires.in_step.each c.in-Some.id.0) in
    let told = level-some N c.args.n.0 c.in-Some-level.level (c.in-Some-level.ensures ∙ read) in
    (told.0, told.1, c.in-Some.ensures.some.0 refl)

pub returns-in-None-clause-no_node : goal.returns-in-None-clause-no_node
returns-in-None-clause-no_node g c e live =
    let N = network_in c.args.net.now in
    let slot = slice_index_or (views_in c.args.net.now) c.in-Some.id.0 None in
    let read = level-read (λ b. (goal.View-dyn g (b.vtable, b.value)).spec_of b.value) (λ b. (goal.View-dyn g (b.vtable, b.value)).kept b.value) (λ b. (goal.View-dyn g (b.vtable, b.value)).room b.value) N (core_in c.args.net.now).room slot c.args.n.0 c.in-Some.ensures.stands (c.requires.in_step.each c.in-Some.id.0) in
    level-none N c.args.n.0 (c.in-None.ensures ∙ read) live
