use Rattle.std.proofs.Common.{◌≡◌, ℕ, [], ◌∷◌, ◌++◌, length, map, get_or, Option, None, Some, IsSome, refl, sym, ap, subst, ◌∙◌, arith}
use Rattle.std.specs.List.{AllByRecursion}
use Rattle.std.proofs.lemmas.Option.{slice_get_read, slice_get-get_or}
use Rattle.lnet_model.specs.Answers.{kind_for}
use Rattle.lnet_model.specs.declared.view_spec.ViewSpec.{ViewSpec}
use Rattle.lnet_model.specs.declared.view_spec.ViewSpec.TheVariants.{Depth}
use Rattle.lnet_subscriptions.proofs.Shelved.{all-more, map-more}
use Rattle.lnet_subscriptions.proofs.Standing.{stand-len, stand-at, stand-gone, kind-taken, some-and, gone-kind, gone-detached}
use Rattle.lnet_subscriptions.proofs.roll.Subscriptions.shelve.Goals as goal

no-some : {A : Type 0} (o : Option A) → o ≡ None → IsSome o → ⊥
no-some None e h = cc
no-some (Some x) e h = cc

pub remove-id-requires : goal.remove-id-requires
remove-id-requires g c =
    let len = stand-len (λ b. (goal.View-dyn g (b.vtable, b.value)).kind_of b.value) (λ b. (goal.View-dyn g (b.vtable, b.value)).spec_of b.value) _ c.args.self.now.live.items c.args.self.now.ids.items c.requires.follow.stand in
    let place = c.requires.place in
    omega arith

pub returns-in-Some-clause-shelf : goal.returns-in-Some-clause-shelf
returns-in-Some-clause-shelf g c spec number at =
    let len = stand-len (λ b. (goal.View-dyn g (b.vtable, b.value)).kind_of b.value) (λ b. (goal.View-dyn g (b.vtable, b.value)).spec_of b.value) _ c.args.self.now.live.items c.args.self.now.ids.items c.requires.follow.stand in
    let place = c.requires.place in
    let id-at = slice_get_read c.args.self.now.ids.items (length c.args.self.now.ids.items) c.args.at c.remove-id.result refl (omega arith) c.remove-id.ensures.value in
    let p0 : ℕ × ViewSpec = (0, Depth) in
    let p-at = slice_get-get_or c.args.self.now.live.items c.args.at p0 place in
    let here = stand-at (λ b. (goal.View-dyn g (b.vtable, b.value)).kind_of b.value) (λ b. (goal.View-dyn g (b.vtable, b.value)).spec_of b.value) _ c.args.self.now.live.items c.args.self.now.ids.items c.args.at (get_or c.args.self.now.live.items c.args.at p0) c.remove-id.result c.requires.follow.stand p-at id-at in
    let mine = stand-at (λ b. (goal.View-dyn g (b.vtable, b.value)).kind_of b.value) (λ b. (goal.View-dyn g (b.vtable, b.value)).spec_of b.value) _ c.args.self.now.live.items c.args.self.now.ids.items c.args.at (number, spec) c.remove-id.result c.requires.follow.stand at id-at in
    let kind = kind-taken (λ b. (goal.View-dyn g (b.vtable, b.value)).kind_of b.value) (λ b. (goal.View-dyn g (b.vtable, b.value)).spec_of b.value) _ c.in-Some.view (kind_for spec) spec (gone-kind (λ b. (goal.View-dyn g (b.vtable, b.value)).kind_of b.value) (λ b. (goal.View-dyn g (b.vtable, b.value)).spec_of b.value) (λ b. (goal.View-dyn g (b.vtable, b.value)).kept b.value) (λ b. (goal.View-dyn g (b.vtable, b.value)).room b.value) _ c.in-Some.view c.in-Some.ensures.detached) mine in
    ap (map (λ b. (goal.View-dyn g (b.vtable, b.value)).kind_of b.value)) c.push_reserved.ensures.items ∙ map-more (λ b. (goal.View-dyn g (b.vtable, b.value)).kind_of b.value) c.args.self.now.shelf.items c.in-Some.view ∙ ap (λ k. map (λ b. (goal.View-dyn g (b.vtable, b.value)).kind_of b.value) c.args.self.now.shelf.items ++ k ∷ []) kind

pub returns-in-Some-clause-follow : goal.returns-in-Some-clause-follow
returns-in-Some-clause-follow g c =
    let len = stand-len (λ b. (goal.View-dyn g (b.vtable, b.value)).kind_of b.value) (λ b. (goal.View-dyn g (b.vtable, b.value)).spec_of b.value) _ c.args.self.now.live.items c.args.self.now.ids.items c.requires.follow.stand in
    let place = c.requires.place in
    let id-at = slice_get_read c.args.self.now.ids.items (length c.args.self.now.ids.items) c.args.at c.remove-id.result refl (omega arith) c.remove-id.ensures.value in
    let p0 : ℕ × ViewSpec = (0, Depth) in
    let p-at = slice_get-get_or c.args.self.now.live.items c.args.at p0 place in
    let here = stand-at (λ b. (goal.View-dyn g (b.vtable, b.value)).kind_of b.value) (λ b. (goal.View-dyn g (b.vtable, b.value)).spec_of b.value) _ c.args.self.now.live.items c.args.self.now.ids.items c.args.at (get_or c.args.self.now.live.items c.args.at p0) c.remove-id.result c.requires.follow.stand p-at id-at in
    record {
      stand = stand-gone (λ b. (goal.View-dyn g (b.vtable, b.value)).kind_of b.value) (λ b. (goal.View-dyn g (b.vtable, b.value)).spec_of b.value) _ _ c.args.self.now.live.items c.remove.new.self.items c.args.self.now.ids.items c.remove-id.new.self.items c.args.at c.remove-id.result c.in-Some.ensures.others id-at c.remove.ensures.items c.remove-id.ensures.items c.requires.follow.stand;
      detached = subst (AllByRecursion (λ b. (goal.View-dyn g (b.vtable, b.value)).spec_of b.value ≡ None)) (sym c.push_reserved.ensures.items) (all-more (λ b. (goal.View-dyn g (b.vtable, b.value)).spec_of b.value ≡ None) c.args.self.now.shelf.items c.in-Some.view (gone-detached (λ b. (goal.View-dyn g (b.vtable, b.value)).kind_of b.value) (λ b. (goal.View-dyn g (b.vtable, b.value)).spec_of b.value) (λ b. (goal.View-dyn g (b.vtable, b.value)).kept b.value) (λ b. (goal.View-dyn g (b.vtable, b.value)).room b.value) _ c.in-Some.view c.in-Some.ensures.detached) c.requires.follow.detached);
    }

pub returns-in_default-clause-shelf : goal.returns-in_default-clause-shelf
returns-in_default-clause-shelf g c spec number at =
    let len = stand-len (λ b. (goal.View-dyn g (b.vtable, b.value)).kind_of b.value) (λ b. (goal.View-dyn g (b.vtable, b.value)).spec_of b.value) _ c.args.self.now.live.items c.args.self.now.ids.items c.requires.follow.stand in
    let place = c.requires.place in
    let id-at = slice_get_read c.args.self.now.ids.items (length c.args.self.now.ids.items) c.args.at c.remove-id.result refl (omega arith) c.remove-id.ensures.value in
    let p0 : ℕ × ViewSpec = (0, Depth) in
    let p-at = slice_get-get_or c.args.self.now.live.items c.args.at p0 place in
    let here = stand-at (λ b. (goal.View-dyn g (b.vtable, b.value)).kind_of b.value) (λ b. (goal.View-dyn g (b.vtable, b.value)).spec_of b.value) _ c.args.self.now.live.items c.args.self.now.ids.items c.args.at (get_or c.args.self.now.live.items c.args.at p0) c.remove-id.result c.requires.follow.stand p-at id-at in
    absurd (no-some c.unsubscribe.result c.in_default.is (c.unsubscribe.ensures.some.1 (some-and _ _ here)))

pub returns-in_default-clause-follow : goal.returns-in_default-clause-follow
returns-in_default-clause-follow g c =
    let len = stand-len (λ b. (goal.View-dyn g (b.vtable, b.value)).kind_of b.value) (λ b. (goal.View-dyn g (b.vtable, b.value)).spec_of b.value) _ c.args.self.now.live.items c.args.self.now.ids.items c.requires.follow.stand in
    let place = c.requires.place in
    let id-at = slice_get_read c.args.self.now.ids.items (length c.args.self.now.ids.items) c.args.at c.remove-id.result refl (omega arith) c.remove-id.ensures.value in
    let p0 : ℕ × ViewSpec = (0, Depth) in
    let p-at = slice_get-get_or c.args.self.now.live.items c.args.at p0 place in
    let here = stand-at (λ b. (goal.View-dyn g (b.vtable, b.value)).kind_of b.value) (λ b. (goal.View-dyn g (b.vtable, b.value)).spec_of b.value) _ c.args.self.now.live.items c.args.self.now.ids.items c.args.at (get_or c.args.self.now.live.items c.args.at p0) c.remove-id.result c.requires.follow.stand p-at id-at in
    absurd (no-some c.unsubscribe.result c.in_default.is (c.unsubscribe.ensures.some.1 (some-and _ _ here)))
