use Rattle.std.proofs.Common.{◌≡◌, ◌+◌, [], ◌∷◌, ◌++◌, map, get_or, None, sym, ap, subst, ◌∙◌}
use Rattle.std.specs.List.{remove, insert as inserted, AllByRecursion}
use Rattle.lnet_subscriptions.specs.Rolls.{place_of}
use Rattle.lnet_subscriptions.proofs.Placed.{place-found, same-roll}
use Rattle.lnet_subscriptions.proofs.Shelved.{all-without, map-without, map-back}
use Rattle.lnet_subscriptions.proofs.Standing.{stand-entered}
use Rattle.lnet_subscriptions.proofs.roll.Subscriptions.attach.Goals as goal

pub subscribe-requires-clause-of_kind : goal.subscribe-requires-clause-of_kind
subscribe-requires-clause-of_kind g c =
    let xs = c.args.self.now.shelf.items in
    let view-is = c.remove-view.ensures.value ∙ ap (λ v. get_or v.items c.in-Some.at c.remove-view.result) c.reserve_live.ensures.shelf in
    let place = ap (λ k. place_of k (map (λ b. (goal.View-dyn g (b.vtable, b.value)).kind_of b.value) xs)) (sym c.kind_of_spec.ensures) ∙ sym c.in-Some.ensures in
    let found = place-found (λ b. (goal.View-dyn g (b.vtable, b.value)).kind_of b.value) xs _ c.in-Some.at c.remove-view.result place in
    let of_kind = found.1 ∙ ap (λ b. (goal.View-dyn g (b.vtable, b.value)).kind_of b.value) (sym view-is) in
    of_kind

pub returns-in-Ok-clause-attaches : goal.returns-in-Ok-clause-attaches
returns-in-Ok-clause-attaches g c =
    let xs = c.args.self.now.shelf.items in
    let items = ap (λ v. v.items) c.enter.ensures.shelf ∙ c.remove-view.ensures.items ∙ ap (λ v. remove v.items c.in-Some.at) c.reserve_live.ensures.shelf in
    record {
      at = c.in-Some.at;
      found = ap (λ k. place_of k (map (λ b. (goal.View-dyn g (b.vtable, b.value)).kind_of b.value) xs)) (sym c.kind_of_spec.ensures) ∙ sym c.in-Some.ensures;
      becomes = same-roll (c.enter.ensures.live ∙ ap (λ ls. ls ++ (c.reserve_live.new.self.next, c.args.spec) ∷ []) c.reserve_live.ensures.live ∙ ap (λ n. c.args.self.now.live.items ++ (n, c.args.spec) ∷ []) c.reserve_live.ensures.next) (c.enter.ensures.next ∙ ap (λ n. n + 1) c.reserve_live.ensures.next) (ap (map (λ b. (goal.View-dyn g (b.vtable, b.value)).kind_of b.value)) items ∙ map-without (λ b. (goal.View-dyn g (b.vtable, b.value)).kind_of b.value) xs c.in-Some.at);
    }

pub returns-in-Ok-clause-follow : goal.returns-in-Ok-clause-follow
returns-in-Ok-clause-follow g c =
    let xs = c.args.self.now.shelf.items in
    let view-is = c.remove-view.ensures.value ∙ ap (λ v. get_or v.items c.in-Some.at c.remove-view.result) c.reserve_live.ensures.shelf in
    let place = ap (λ k. place_of k (map (λ b. (goal.View-dyn g (b.vtable, b.value)).kind_of b.value) xs)) (sym c.kind_of_spec.ensures) ∙ sym c.in-Some.ensures in
    let found = place-found (λ b. (goal.View-dyn g (b.vtable, b.value)).kind_of b.value) xs _ c.in-Some.at c.remove-view.result place in
    let of_kind = found.1 ∙ ap (λ b. (goal.View-dyn g (b.vtable, b.value)).kind_of b.value) (sym view-is) in
    let e = c.in-Ok.ensures.seated in
    let items = ap (λ v. v.items) c.enter.ensures.shelf ∙ c.remove-view.ensures.items ∙ ap (λ v. remove v.items c.in-Some.at) c.reserve_live.ensures.shelf in
    let live = c.enter.ensures.live ∙ ap (λ ls. ls ++ (c.reserve_live.new.self.next, c.args.spec) ∷ []) c.reserve_live.ensures.live in
    let ids = c.enter.ensures.ids ∙ ap (λ is. is ++ c.in-Ok.id ∷ []) c.reserve_live.ensures.ids in
    record {
      stand = stand-entered (λ b. (goal.View-dyn g (b.vtable, b.value)).kind_of b.value) (λ b. (goal.View-dyn g (b.vtable, b.value)).spec_of b.value) _ _ c.args.self.now.live.items c.enter.new.self.live.items c.args.self.now.ids.items c.enter.new.self.ids.items (c.reserve_live.new.self.next, c.args.spec) c.in-Ok.id _ e.id.free e.others e.stands of_kind live ids c.requires.follow.stand;
      detached = subst (AllByRecursion (λ b. (goal.View-dyn g (b.vtable, b.value)).spec_of b.value ≡ None)) (sym items) (all-without (λ b. (goal.View-dyn g (b.vtable, b.value)).spec_of b.value ≡ None) xs c.in-Some.at c.requires.follow.detached);
    }

pub returns-in-Err-clause-same : goal.returns-in-Err-clause-same
returns-in-Err-clause-same g c =
    let xs = c.args.self.now.shelf.items in
    let view-is = c.remove-view.ensures.value ∙ ap (λ v. get_or v.items c.in-Some.at c.remove-view.result) c.reserve_live.ensures.shelf in
    let place = ap (λ k. place_of k (map (λ b. (goal.View-dyn g (b.vtable, b.value)).kind_of b.value) xs)) (sym c.kind_of_spec.ensures) ∙ sym c.in-Some.ensures in
    let found = place-found (λ b. (goal.View-dyn g (b.vtable, b.value)).kind_of b.value) xs _ c.in-Some.at c.remove-view.result place in
    let of_kind = found.1 ∙ ap (λ b. (goal.View-dyn g (b.vtable, b.value)).kind_of b.value) (sym view-is) in
    let items = c.put_back.ensures.shelf ∙ ap (λ ys. inserted ys c.in-Some.at c.in-Err.view) (c.remove-view.ensures.items ∙ ap (λ v. remove v.items c.in-Some.at) c.reserve_live.ensures.shelf) in
    same-roll (ap (λ v. v.items) c.put_back.ensures.live ∙ c.reserve_live.ensures.live) (c.put_back.ensures.next ∙ c.reserve_live.ensures.next)
    (ap (map (λ b. (goal.View-dyn g (b.vtable, b.value)).kind_of b.value)) items ∙ map-back (λ b. (goal.View-dyn g (b.vtable, b.value)).kind_of b.value) xs c.in-Some.at c.in-Err.view c.remove-view.result found.0 (c.in-Err.ensures.back.kind ∙ ap (λ b. (goal.View-dyn g (b.vtable, b.value)).kind_of b.value) view-is))
