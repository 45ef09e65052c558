use Rattle.std.proofs.Common.{◌≡◌, ◌==◌, length, Some, refl, sym, ap, ◌∙◌, arith}
use Rattle.std.proofs.lemmas.Option.{slice_get_read}
use Rattle.std.proofs.lemmas.List.Quantifiers.{position-Some}
use Rattle.lnet_subscriptions.proofs.Asked.{spec-here, stands-depth}
use Rattle.lnet_subscriptions.proofs.Standing.{stand-len, stand-at}
use Rattle.lnet_subscriptions.proofs.roll.Subscriptions.depth_id.Goals as goal

same-some : {A : Type 0} {x y : A} → Some x ≡ Some y → x ≡ y
same-some e = cc

pub index-requires-in-Depth : goal.index-requires-in-Depth
index-requires-in-Depth g c =
    let live = c.args.self.now.live.items in
    let p = c.index.result.now in
    let found = position-Some (λ q. q.0 == c.args.number) live c.in_ok-at.at p (sym c.in_ok-at.ensures) in
    let len = stand-len (λ b. (goal.View-dyn g (b.vtable, b.value)).kind_of b.value) (λ b. (goal.View-dyn g (b.vtable, b.value)).spec_of b.value) _ live c.args.self.now.ids.items c.requires.follow.stand in
    let at = slice_get_read live (length live) c.in_ok-at.at p refl found.0 c.index.ensures in
    let lt = found.0 in omega arith

pub returns-in-Depth-clause-some : goal.returns-in-Depth-clause-some
returns-in-Depth-clause-some g c =
    let live = c.args.self.now.live.items in
    let p = c.index.result.now in
    let found = position-Some (λ q. q.0 == c.args.number) live c.in_ok-at.at p (sym c.in_ok-at.ensures) in
    let len = stand-len (λ b. (goal.View-dyn g (b.vtable, b.value)).kind_of b.value) (λ b. (goal.View-dyn g (b.vtable, b.value)).spec_of b.value) _ live c.args.self.now.ids.items c.requires.follow.stand in
    let at = slice_get_read live (length live) c.in_ok-at.at p refl found.0 c.index.ensures in
    (λ _. spec-here c.args.number live c.in_ok-at.at p (sym c.in_ok-at.ensures) at ∙ ap Some c.in-Depth.is, λ _. refl)

pub returns-in-Depth-clause-stands : goal.returns-in-Depth-clause-stands
returns-in-Depth-clause-stands g c =
    let live = c.args.self.now.live.items in
    let p = c.index.result.now in
    let found = position-Some (λ q. q.0 == c.args.number) live c.in_ok-at.at p (sym c.in_ok-at.ensures) in
    let len = stand-len (λ b. (goal.View-dyn g (b.vtable, b.value)).kind_of b.value) (λ b. (goal.View-dyn g (b.vtable, b.value)).spec_of b.value) _ live c.args.self.now.ids.items c.requires.follow.stand in
    let at = slice_get_read live (length live) c.in_ok-at.at p refl found.0 c.index.ensures in
    let lt = found.0 in
    let id-at = slice_get_read c.args.self.now.ids.items (length c.args.self.now.ids.items) c.in_ok-at.at c.index-in-Depth.result.now refl (omega arith) c.index-in-Depth.ensures in
    stands-depth (λ b. (goal.View-dyn g (b.vtable, b.value)).kind_of b.value) (λ b. (goal.View-dyn g (b.vtable, b.value)).spec_of b.value) _ _ _ c.in-Depth.is (stand-at (λ b. (goal.View-dyn g (b.vtable, b.value)).kind_of b.value) (λ b. (goal.View-dyn g (b.vtable, b.value)).spec_of b.value) _ live c.args.self.now.ids.items c.in_ok-at.at p c.index-in-Depth.result.now c.requires.follow.stand at id-at)

pub returns-in_default : goal.returns-in_default
returns-in_default g c =
    let live = c.args.self.now.live.items in
    let p = c.index.result.now in
    let found = position-Some (λ q. q.0 == c.args.number) live c.in_ok-at.at p (sym c.in_ok-at.ensures) in
    let len = stand-len (λ b. (goal.View-dyn g (b.vtable, b.value)).kind_of b.value) (λ b. (goal.View-dyn g (b.vtable, b.value)).spec_of b.value) _ live c.args.self.now.ids.items c.requires.follow.stand in
    let at = slice_get_read live (length live) c.in_ok-at.at p refl found.0 c.index.ensures in
    record { some = (λ e. absurd cc, λ s. absurd (c.in_default.not-Depth (same-some (sym (spec-here c.args.number live c.in_ok-at.at p (sym c.in_ok-at.ensures) at) ∙ s)))); stands = tt }
