use Rattle.std.proofs.Common.{◌≡◌, ◌+◌, ℕ, ◌∷◌, ◌++◌, length, map, drop, get_or, None, refl, sym, ap, subst, ◌∙◌, arith}
use Rattle.std.specs.List.{AllByRecursion}
use Rattle.std.proofs.lemmas.List.{append-nil}
use Rattle.std.proofs.lemmas.Option.{slice_get_read, slice_get-get_or}
use Rattle.lnet_model.specs.Answers.{kind_for}
use Rattle.lnet_model.specs.declared.view_spec.ViewSpec.{ViewSpec}
use Rattle.lnet_model.specs.declared.view_spec.ViewSpec.TheVariants.{Depth}
use Rattle.lnet_subscriptions.proofs.Placed.{same-roll}
use Rattle.lnet_subscriptions.proofs.Shelved.{drop-at, drop-past, kinds-on}
use Rattle.lnet_subscriptions.proofs.Standing.{stand-len, stand-equal, stand-first, some-and, kinds-moved}
use Rattle.lnet_subscriptions.proofs.roll.Subscriptions.shelve_all.Goals as goal

pub loop-i-init : goal.loop-i-init
loop-i-init g c =
    let len = stand-len (λ b. (goal.View-dyn g (b.vtable, b.value)).kind_of b.value) (λ b. (goal.View-dyn g (b.vtable, b.value)).spec_of b.value) _ c.args.self.now.live.items c.args.self.now.ids.items c.requires.follow.stand in
    let room = c.in_ok-reserve.ensures.ok in
    let count = c.len.ensures in
    record {
      live = refl;
      ids = refl;
      next = refl;
      room = omega arith;
      stand = c.requires.follow.stand;
      kinds = refl;
      detached = subst (AllByRecursion (λ b. (goal.View-dyn g (b.vtable, b.value)).spec_of b.value ≡ None)) (sym c.reserve.ensures.items) c.requires.follow.detached;
      core = refl;
      in_step = c.requires.in_step;
    }

pub move_to_shelf-requires-clause-some : goal.move_to_shelf-requires-clause-some
move_to_shelf-requires-clause-some g c =
    let inv = c.loop-i.invariant in
    let ids = c.args.self.now.ids.items in
    let live = c.args.self.now.live.items in
    let lt = c.loop-i-test.true in
    let end = c.len-i-end.ensures in
    let len = stand-len (λ b. (goal.View-dyn g (b.vtable, b.value)).kind_of b.value) (λ b. (goal.View-dyn g (b.vtable, b.value)).spec_of b.value) _ live ids c.requires.follow.stand in
    let id = c.index.result.now in
    let id-at = slice_get_read ids (length ids) c.loop-i.i id refl (omega arith) (c.index.ensures ∙ ap (λ v. get_or v.items c.loop-i.i id) inv.ids) in
    let p0 : ℕ × ViewSpec = (0, Depth) in
    let p = get_or live c.loop-i.i p0 in
    let p-at = slice_get-get_or live c.loop-i.i p0 (omega arith) in
    let left = drop-at live c.loop-i.i p p-at in
    let ids-left = drop-at ids c.loop-i.i id id-at in
    let standing = stand-equal (λ b. (goal.View-dyn g (b.vtable, b.value)).kind_of b.value) (λ b. (goal.View-dyn g (b.vtable, b.value)).spec_of b.value) _ (drop c.loop-i.i live) (p ∷ drop (c.loop-i.i + 1) live) (drop c.loop-i.i ids) (id ∷ drop (c.loop-i.i + 1) ids) left ids-left inv.stand in
    some-and _ _ standing.0

pub loop-i-preserved : goal.loop-i-preserved
loop-i-preserved g c =
    let inv = c.loop-i.invariant in
    let ids = c.args.self.now.ids.items in
    let live = c.args.self.now.live.items in
    let lt = c.loop-i-test.true in
    let end = c.len-i-end.ensures in
    let len = stand-len (λ b. (goal.View-dyn g (b.vtable, b.value)).kind_of b.value) (λ b. (goal.View-dyn g (b.vtable, b.value)).spec_of b.value) _ live ids c.requires.follow.stand in
    let id = c.index.result.now in
    let id-at = slice_get_read ids (length ids) c.loop-i.i id refl (omega arith) (c.index.ensures ∙ ap (λ v. get_or v.items c.loop-i.i id) inv.ids) in
    let p0 : ℕ × ViewSpec = (0, Depth) in
    let p = get_or live c.loop-i.i p0 in
    let p-at = slice_get-get_or live c.loop-i.i p0 (omega arith) in
    let left = drop-at live c.loop-i.i p p-at in
    let ids-left = drop-at ids c.loop-i.i id id-at in
    let standing = stand-equal (λ b. (goal.View-dyn g (b.vtable, b.value)).kind_of b.value) (λ b. (goal.View-dyn g (b.vtable, b.value)).spec_of b.value) _ (drop c.loop-i.i live) (p ∷ drop (c.loop-i.i + 1) live) (drop c.loop-i.i ids) (id ∷ drop (c.loop-i.i + 1) ids) left ids-left inv.stand in
    let m = c.move_to_shelf.ensures in
    let grown = m.len in let cap = m.capacity in let room = inv.room in
    record {
      live = inv.live;
      ids = inv.ids;
      next = inv.next;
      room = omega arith;
      stand = stand-first (λ b. (goal.View-dyn g (b.vtable, b.value)).kind_of b.value) (λ b. (goal.View-dyn g (b.vtable, b.value)).spec_of b.value) _ _ (drop (c.loop-i.i + 1) live) (drop (c.loop-i.i + 1) ids) p id standing m.others;
      kinds = kinds-on (map (λ b. (goal.View-dyn g (b.vtable, b.value)).kind_of b.value) c.loop-i.self.shelf.items) (map (λ b. (goal.View-dyn g (b.vtable, b.value)).kind_of b.value) c.move_to_shelf.new.shelf.items) (map (λ q. kind_for q.1) (drop (c.loop-i.i + 1) live)) (map (λ q. kind_for q.1) (drop c.loop-i.i live)) _ (kind_for p.1) (kinds-moved (λ b. (goal.View-dyn g (b.vtable, b.value)).kind_of b.value) (λ b. (goal.View-dyn g (b.vtable, b.value)).spec_of b.value) _ _ _ p.1 m.kinds standing.0) (ap (map (λ q. kind_for q.1)) left) inv.kinds;
      detached = m.detached inv.detached;
      core = m.core ∙ inv.core;
      in_step = m.in_step;
    }

pub returns-clause-shelved : goal.returns-clause-shelved
returns-clause-shelved g c =
    let inv = c.loop-i.invariant in
    let live = c.args.self.now.live.items in
    let past = c.loop-i-test.false in
    let end = c.len-i-end.ensures in
    let len = stand-len (λ b. (goal.View-dyn g (b.vtable, b.value)).kind_of b.value) (λ b. (goal.View-dyn g (b.vtable, b.value)).spec_of b.value) _ live c.args.self.now.ids.items c.requires.follow.stand in
    let none = ap (map (λ q. kind_for q.1)) (drop-past live c.loop-i.i (omega arith)) in
    same-roll c.clear.ensures.items inv.next
    (sym (append-nil (map (λ b. (goal.View-dyn g (b.vtable, b.value)).kind_of b.value) c.loop-i.self.shelf.items)) ∙ ap (λ ks. map (λ b. (goal.View-dyn g (b.vtable, b.value)).kind_of b.value) c.loop-i.self.shelf.items ++ ks) (sym none) ∙ inv.kinds ∙ ap (λ xs. map (λ b. (goal.View-dyn g (b.vtable, b.value)).kind_of b.value) xs ++ map (λ q. kind_for q.1) live) c.reserve.ensures.items)
